-- For each clause of soundness boards that break it and no other: a sound board with bytes written into one record. What the clauses say of
-- such a board is computed on its records.
use Prim.Native.Nat.{ℕ, ◌+◌, ◌-◌, ◌*◌}
use mathlib.Core.Path.{◌≡◌, refl, sym, ap, ◌∙◌}
use mathlib.Core.List.{List, [], ◌∷◌, ◌++◌, map, flatten, sum, append-nil, map-append}
use mathlib.Core.Bool.{Bool, true, false}
use lib.ListN.{length, get_or, set, replicate}
use Rattle.layout.specs.Search.{index_of}
use Rattle.layout.specs.Bytes.{bytes_at, patch, offset, all_zero}
use Rattle.layout.specs.Bits.{bit_at, has_bit}
use Rattle.layout.specs.Numbers.{to_le_bytes, from_le_bytes}
use Rattle.layout.specs.StringFields.{is_string, string_bytes, string_field, stated_length, field_string, is_string_field}
use Rattle.layout.proofs.ConcatenationLaws.{flatten_append}
use Rattle.model.specs.Lists.{for_all, all_true, all_below, contains, distinct}
use Rattle.model.specs.State.{State, user_limit, post_limit, pending_limit, note_count, empty_state, user_numbers, post_numbers, pending_numbers, user_at, notes_to}
use Rattle.model.specs.Board.{board_size, stored_bytes, record_bytes, header_fields, user_fields, post_fields, pending_fields, note_fields, decode_user, decode_post, decode_pending, BoardRecords, cut_board, join_records, table_records, records_of, user_count, post_count, pending_count, state_of, encode, decode}
use Rattle.model.specs.Soundness.{counts_within_limits, unused_records_zero, user_strings, post_strings, pending_strings, strings_within_limits, filler_zero, numbers_not_zero, numbers_distinct, pending_not_registered, friends_symmetric, no_own_bit, bits_below_count, notes_requested, owners_registered, visibility_valid, friends_not_requested, record_clauses, state_clauses, zero_without_users, clause_results, is_sound}
use Rattle.model.proofs.StateRules.{stored_fits, table_fits, state_fits}
use Rattle.model.proofs.BoardTheorems.{fitting, right_sizes, length-encode, cut-encode}
use Rattle.model.proofs.CaseTable.{numbers_from}
use Rattle.damaged_boards.proofs.AllRecordLaws.{all_records, all_sizes, board_tables, flatten_all, sizes_all, length_all, cut_all, Write, writes_board, writes_records, writes_pass, writes_records_lem}

-- ---- writes by table, record and place in the record

-- "0: two-byte counts .. 16: 32 users of 104. 3,344: 64 posts of 312. 23,312: 16 pending of 32. 23,824: notes of 26."
abbrev header : ℕ → List ℕ → Write
header at x = record { number = 0; at = at; place = at; bytes = x }

abbrev user : ℕ → ℕ → List ℕ → Write
user i at x = record { number = 1 + i; at = at; place = 16 + i * 104 + at; bytes = x }

abbrev post : ℕ → ℕ → List ℕ → Write
post i at x = record { number = 33 + i; at = at; place = 3344 + i * 312 + at; bytes = x }

abbrev pending : ℕ → ℕ → List ℕ → Write
pending i at x = record { number = 97 + i; at = at; place = 23312 + i * 32 + at; bytes = x }

abbrev note : ℕ → ℕ → List ℕ → Write
note i at x = record { number = 113 + i; at = at; place = 23824 + i * 26 + at; bytes = x }

-- ---- what the clauses say of a board, by its records: no clause is named here

-- all but the first, which is the length
abbrev clauses_on : BoardRecords → List ℕ → List Bool
clauses_on r b =
    map (λ (clause : BoardRecords → Bool). clause r) record_clauses
    ++ (map (λ (clause : State → Bool). clause (state_of r)) state_clauses ++ (zero_without_users b ∷ []))

results_by : (b : List ℕ) (r : BoardRecords) → cut_board b ≡ r → clause_results b ≡ get_or (clause_results b) 0 true ∷ clauses_on r b
unfolding clause_results decode
results_by b r e = λ i. get_or (clause_results b) 0 true ∷ clauses_on (e i) b

-- the length is stated too, so that `rw` has a place for it whatever the first clause is
length-holds : (b : List ℕ) → length b ≡ board_size → (get_or (clause_results b) 0 true ≡ true) × (length b ≡ board_size)
unfolding clause_results
length-holds b l = rw l (refl, refl)

results_whole : (b : List ℕ) (r : BoardRecords) → length b ≡ board_size → cut_board b ≡ r → clause_results b ≡ true ∷ clauses_on r b
results_whole b r l e = results_by b r e ∙ ap (λ (first : Bool). first ∷ clauses_on r b) (length-holds b l).0

records_after : State → List Write → List (List ℕ)
records_after s ws = writes_records ws (all_records (records_of s))

-- a byte behind the last record
abbrev board_longer : State → List ℕ
board_longer s = encode s ++ (0 ∷ [])

records_longer : State → List (List ℕ)
records_longer s = all_records (records_of s) ++ ((0 ∷ []) ∷ [])

module _ (s : State) (t : state_fits s ≡ true) where
  sizes-state : map length (all_records (records_of s)) ≡ all_sizes
  sizes-state = sizes_all (records_of s) (right_sizes s (fitting s t))

  results_encode : clause_results (encode s) ≡ true ∷ clauses_on (records_of s) (encode s)
  results_encode = results_whole (encode s) (records_of s) (length-encode s (fitting s t)) (cut-encode s (fitting s t))

  results_longer : clause_results (board_longer s)
      ≡ get_or (clause_results (board_longer s)) 0 true ∷ clauses_on (board_tables (records_longer s)) (board_longer s)
  unfolding records_longer encode flatten
  results_longer =
      let rs : List (List ℕ) = all_records (records_of s) in
      let sizes : map length (records_longer s) ≡ all_sizes ++ (1 ∷ []) =
      map-append length rs ((0 ∷ []) ∷ []) ∙ ap (λ (zs : List ℕ). zs ++ (1 ∷ [])) sizes-state
      in
      let joined : flatten (records_longer s) ≡ board_longer s =
      flatten_append rs ((0 ∷ []) ∷ []) ∙ ap (λ (b : List ℕ). b ++ (0 ∷ [])) (flatten_all (records_of s))
      in
      results_by (board_longer s) (board_tables (records_longer s)) (ap cut_board (sym joined) ∙ cut_all (records_longer s) (1 ∷ []) sizes)

  results_writes : (ws : List Write) → writes_pass all_sizes ws ≡ true
      → clause_results (writes_board ws (encode s)) ≡ true ∷ clauses_on (board_tables (records_after s ws)) (flatten (records_after s ws))
  unfolding records_after encode
  results_writes ws u =
      let rs : List (List ℕ) = records_after s ws in
      let written = writes_records_lem ws all_sizes u (all_records (records_of s)) sizes-state in
      ap clause_results (ap (writes_board ws) (sym (flatten_all (records_of s))) ∙ written.0)
      ∙ results_whole (flatten rs) (board_tables rs) (length_all rs written.1) (cut_all rs [] (written.1 ∙ sym (append-nil all_sizes)))

-- ---- states: some of each table, with a friendship and a request; full tables

example_state : State
example_state = record {
  users =
      record { number = 7; password = 1; friends = 2; requests = 4; name = 65 ∷ 100 ∷ 97 ∷ []; info = 72 ∷ 105 ∷ [] }
      ∷ record { number = 8; password = 2; friends = 1; requests = 0; name = 66 ∷ 111 ∷ 98 ∷ []; info = [] }
      ∷ record { number = 9; password = 3; friends = 0; requests = 0; name = 67 ∷ 121 ∷ []; info = [] } ∷ [];
  posts =
      record { number = 5; picture = 0; owner = 0; visibility = 1; title = 72 ∷ 105 ∷ []; text = 97 ∷ 98 ∷ 99 ∷ [] }
      ∷ record { number = 6; picture = 1; owner = 1; visibility = 0; title = 79 ∷ 107 ∷ []; text = [] } ∷ [];
  pending = record { number = 20; note = 97 ∷ [] } ∷ record { number = 21; note = [] } ∷ [];
  notes = [] ∷ [] ∷ (98 ∷ []) ∷ replicate 1021 [];
}

full_state : State
full_state = record {
  users = map (λ (n : ℕ). record { number = n; password = 0; friends = 0; requests = 0; name = []; info = [] }) (numbers_from 1 user_limit);
  posts = map (λ (n : ℕ). record { number = n; picture = 0; owner = 0; visibility = 0; title = []; text = [] }) (numbers_from 1 post_limit);
  pending = map (λ (n : ℕ). record { number = n; note = [] }) (numbers_from 33 pending_limit);
  notes = replicate note_count [];
}

-- all that the rows below compute
unfoldable definitions : Unit {0}
unfolding example_state numbers_from full_state empty_state records_after records_longer zero_without_users encode cut_board join_records flatten patch bytes_at offset sum records_of record_bytes header_fields user_fields post_fields pending_fields note_fields stored_bytes stored_fits table_records table_fits state_fits to_le_bytes from_le_bytes string_field string_bytes is_string_field stated_length field_string is_string all_zero all_true for_all all_below contains distinct index_of counts_within_limits unused_records_zero strings_within_limits filler_zero user_strings post_strings pending_strings user_count post_count pending_count state_of decode_user decode_post decode_pending user_numbers post_numbers pending_numbers user_at notes_to bit_at has_bit numbers_not_zero numbers_distinct pending_not_registered friends_symmetric no_own_bit bits_below_count notes_requested owners_registered visibility_valid friends_not_requested
definitions = tt

-- ---- sound boards

-- how many results `clause_results` has
abbrev clause_count : ℕ
clause_count = 16

-- a state that fits, and whose board no clause refuses
pub record SoundBoard : Type 0 where
  pub state : State
  pub fits : state_fits state ≡ true
  pub holds : clause_results (encode state) ≡ replicate clause_count true

pub example : SoundBoard
unfolding definitions
example = record { state = example_state; fits = refl; holds = results_encode example_state refl }

pub full : SoundBoard
unfolding definitions
full = record { state = full_state; fits = refl; holds = results_encode full_state refl }

pub empty : SoundBoard
unfolding definitions
empty = record { state = empty_state; fits = refl; holds = results_encode empty_state refl }

pub sound-boards : map (λ (b : SoundBoard). clause_results (encode b.state)) (example ∷ full ∷ empty ∷ []) ≡ replicate 3 (replicate clause_count true)
sound-boards = λ i. example.holds i ∷ full.holds i ∷ empty.holds i ∷ []

-- ---- damaged boards

-- what is done to a sound board: one byte more at its end, or bytes written over some of its own
pub data Damage : Type 0 where
  longer : Damage
  written : List Write → Damage

abbrev pub damaged_by : Damage → List ℕ → List ℕ
damaged_by longer b = b ++ (0 ∷ [])
damaged_by (written ws) b = writes_board ws b

-- a sound board and a damage that breaks one clause, given by its place in `clause_results`, and no other
pub record DamagedBoard : Type 0 where
  pub clause : ℕ
  pub sound : SoundBoard
  pub damage : Damage
  pub breaks : clause_results (damaged_by damage (encode sound.state)) ≡ set (replicate clause_count true) clause false

abbrev pub board_of : DamagedBoard → List ℕ
board_of d = damaged_by d.damage (encode d.sound.state)

damaged : (clause : ℕ) (b : SoundBoard) (ws : List Write) → writes_pass all_sizes ws ≡ true
    → true ∷ clauses_on (board_tables (records_after b.state ws)) (flatten (records_after b.state ws)) ≡ set (replicate clause_count true) clause false
    → DamagedBoard
damaged clause b ws u e = record { clause = clause; sound = b; damage = written ws; breaks = results_writes b.state b.fits ws u ∙ e }

-- length, counts, unused records
damaged_tables : List DamagedBoard
unfolding definitions clause_results example full
damaged_tables =
    -- one byte more
    record { clause = 0; sound = example; damage = longer; breaks = results_longer example_state refl }
    -- counts of 33 users, 65 posts, 17 pending
    ∷ damaged 1 full (header 0 (33 ∷ []) ∷ []) refl refl
    ∷ damaged 1 full (header 2 (65 ∷ []) ∷ []) refl refl
    ∷ damaged 1 full (header 4 (17 ∷ []) ∷ []) refl refl
    -- a byte in an unused record: a user's password, the last byte of the last post, of the last pending one
    ∷ damaged 2 example (user 3 4 (1 ∷ []) ∷ []) refl refl
    ∷ damaged 2 example (post 63 311 (1 ∷ []) ∷ []) refl refl
    ∷ damaged 2 example (pending 15 31 (1 ∷ []) ∷ []) refl refl
    ∷ []

-- strings and filler
damaged_strings : List DamagedBoard
unfolding definitions example
damaged_strings =
    -- a stated length one above the limit, and a byte behind the string: name, info, title, text, pending note, request note
    damaged 3 example (user 2 20 (25 ∷ []) ∷ []) refl refl
    ∷ damaged 3 example (user 2 45 (1 ∷ []) ∷ []) refl refl
    ∷ damaged 3 example (user 2 46 (57 ∷ []) ∷ []) refl refl
    ∷ damaged 3 example (user 2 103 (1 ∷ []) ∷ []) refl refl
    ∷ damaged 3 example (post 1 12 (41 ∷ []) ∷ []) refl refl
    ∷ damaged 3 example (post 1 53 (1 ∷ []) ∷ []) refl refl
    ∷ damaged 3 example (post 1 54 (1 ∷ 1 ∷ []) ∷ []) refl refl
    ∷ damaged 3 example (post 1 311 (1 ∷ []) ∷ []) refl refl
    ∷ damaged 3 example (pending 1 4 (25 ∷ []) ∷ []) refl refl
    ∷ damaged 3 example (pending 1 29 (1 ∷ []) ∷ []) refl refl
    ∷ damaged 3 example (note 2 0 (25 ∷ []) ∷ []) refl refl
    ∷ damaged 3 example (note 1023 25 (1 ∷ []) ∷ []) refl refl
    -- a filler byte of the header, of a pending record
    ∷ damaged 4 example (header 15 (1 ∷ []) ∷ []) refl refl
    ∷ damaged 4 example (pending 1 30 (1 ∷ []) ∷ []) refl refl
    ∷ []

-- numbers, rows, notes, posts, no users
damaged_states : List DamagedBoard
unfolding definitions example empty
damaged_states =
    -- number 0: a user, a post, a pending one
    damaged 5 example (user 2 0 (0 ∷ []) ∷ []) refl refl
    ∷ damaged 5 example (post 1 0 (0 ∷ []) ∷ []) refl refl
    ∷ damaged 5 example (pending 1 0 (0 ∷ []) ∷ []) refl refl
    -- a number twice: users, posts, pending
    ∷ damaged 6 example (user 2 0 (7 ∷ []) ∷ []) refl refl
    ∷ damaged 6 example (post 1 0 (5 ∷ []) ∷ []) refl refl
    ∷ damaged 6 example (pending 1 0 (20 ∷ []) ∷ []) refl refl
    -- a pending number that is registered
    ∷ damaged 7 example (pending 1 0 (9 ∷ []) ∷ []) refl refl
    -- slot 2 has slot 0 as a friend, and not the other way round
    ∷ damaged 8 example (user 2 12 (1 ∷ []) ∷ []) refl refl
    -- slot 2 as a friend of itself, requested by itself
    ∷ damaged 9 example (user 2 12 (4 ∷ []) ∷ []) refl refl
    ∷ damaged 9 example (user 2 16 (4 ∷ []) ∷ []) refl refl
    -- a friend, a request at slot 3, of three users
    ∷ damaged 10 example (user 2 12 (8 ∷ []) ∷ []) refl refl
    ∷ damaged 10 example (user 2 16 (8 ∷ []) ∷ []) refl refl
    -- a note whose request bit was cleared; a note to slot 31 from itself
    ∷ damaged 11 example (user 0 16 (0 ∷ []) ∷ []) refl refl
    ∷ damaged 11 example (note 1023 0 (1 ∷ 0 ∷ 97 ∷ []) ∷ []) refl refl
    -- an owner at slot 3, of three users
    ∷ damaged 12 example (post 1 8 (3 ∷ []) ∷ []) refl refl
    -- visibility 2
    ∷ damaged 13 example (post 1 10 (2 ∷ []) ∷ []) refl refl
    -- slots 0 and 1 are friends, and slot 0 has requested slot 1; slot 1 has requested slot 0
    ∷ damaged 14 example (user 1 16 (1 ∷ []) ∷ []) refl refl
    ∷ damaged 14 example (user 0 16 (6 ∷ []) ∷ []) refl refl
    -- no users and one pending: its count and its number, on the empty board
    ∷ damaged (clause_count - 1) empty (header 4 (1 ∷ []) ∷ pending 0 0 (1 ∷ []) ∷ []) refl refl
    ∷ []

pub damaged_boards : List DamagedBoard
damaged_boards = damaged_tables ++ (damaged_strings ++ damaged_states)

pub damaged-boards : map (λ (d : DamagedBoard). clause_results (board_of d)) damaged_boards
    ≡ map (λ (d : DamagedBoard). set (replicate clause_count true) d.clause false) damaged_boards
damaged-boards = by_rows damaged_boards
  where
    by_rows : (ds : List DamagedBoard) → map (λ d. clause_results (board_of d)) ds ≡ map (λ d. set (replicate clause_count true) d.clause false) ds
    by_rows [] = refl
    by_rows (d ∷ ds) = λ i. d.breaks i ∷ by_rows ds i

sound_results : (b : List ℕ) → is_sound b ≡ all_true (clause_results b)
unfolding is_sound
sound_results b = refl

-- so none of them is sound
pub damaged_unsound : map (λ (d : DamagedBoard). is_sound (board_of d)) damaged_boards ≡ replicate 40 false
unfolding damaged_boards damaged_tables damaged_strings damaged_states damaged all_true for_all
damaged_unsound = by_results damaged_boards
  where
    by_results : (ds : List DamagedBoard) → map (λ d. is_sound (board_of d)) ds ≡ map (λ d. all_true (set (replicate clause_count true) d.clause false)) ds
    by_results [] = refl
    by_results (d ∷ ds) = λ i. (sound_results (board_of d) ∙ ap all_true d.breaks) i ∷ by_results ds i
