-- Laws of notes: the words behind a note's string, rows of notes, and the clauses about notes as tests of the notes where they stand.
use Prim.Native.Nat.{ℕ, zero, suc, ◌+◌, ◌-◌, ◌*◌, ◌/◌, ◌^◌, min, ◌≤◌, ◌<◌}
use native.Mathlib.Nat.{zero-add, add-zero}
use native.Mathlib.Omega.{arith}
use mathlib.Core.Path.{◌≡◌, refl, sym, ap, ap₂, subst, ◌∙◌}
use mathlib.Core.List.{List, [], map}
use mathlib.Core.Bool.{Bool, true, false, ◌&&◌, ◌||◌, and_comm}
use lib.Count.{count_leading_zeros}
use lib.ListN.{length, take, drop, get_or, get_or-map, get_or-eq_default}
use lib.Seq.{get_or-drop, get_or-take, length-take-le}
use lib.Dec.{eqb, leb, ltb, lit<, lit≤}
use lib.Bits.{bit_or}
use lib.Pow.{are_bytes}
use borrow.Author.Tests.{eqb-true, le-leb, lt-leb}
use Rattle.std.specs.List.{list_all, zip}
use Rattle.std.proofs.lemmas.Slice.Zip.{length-zip, get_or-zip}
use Rattle.std.specs.Simd.{first_chunks}
use Rattle.std.proofs.lemmas.Nat.{leading_length}
use Rattle.layout.specs.Bytes.{bytes_at, all_zero}
use Rattle.layout.specs.Numbers.{from_le_bytes}
use Rattle.layout.specs.StringFields.{stated_length, field_string, is_string_field}
use Rattle.layout.specs.Bits.{bit_at, has_bit}
use Rattle.layout.proofs.BooleanLaws.{and_where, chain_stops, chain_goes_on, at_most-zero}
use Rattle.layout.proofs.ByteLaws.{bytes_at-bytes_at, bytes_at_all, length-bytes_at, zero_join, zero_cover}
use Rattle.layout.proofs.WordLaws.{word_zero, word_rest, or_width}
use Rattle.layout.proofs.BitLaws.{bit_lt, bit_beyond}
use Rattle.layout.proofs.StringFieldLaws.{stated_at, field-rest, holds-string, length-string}
use Rattle.reader.specs.Fields.{note_limit, number_in}
use Rattle.model.specs.Lists.{for_all, all_below}
use Rattle.model.specs.State.{User, user_limit, note_count, no_user, user_at, notes_to}
use Rattle.model.specs.Board.{cut_board, state_of, decode, decode_user}
use Rattle.model.specs.Soundness.{notes_requested}
use Rattle.model.proofs.CutLaws.{length_records, piece_at, drop-table, zero-pieces, zero_records}
use Rattle.model.proofs.BelowLaws.{all_below_lem, below_plus, below-same, below_both, below_grid}
use Rattle.board.specs.declared.counted.CountedBoard.{CountedBoard}
use Rattle.board.specs.BoardTests.{records_at, request_row, note_within, note_allowed}
use Rattle.board.proofs.LoopLaws.{all_elements}
use Rattle.board.proofs.RecordPlaces.{array-records, used-limits, decoded-count, user-decoded}

-- ---- the words behind the string of a note

-- the three words as they are read; `first` is the string's length, but at most 16
abbrev tail_words : List ℕ → ℕ → ℕ → ℕ
tail_words b at first = bit_or (bit_or (number_in b (at + 2 + first) 8) (number_in b (at + 10 + first / 2) 8)) (number_in b (at + 18) 8)

module _ (b : List ℕ) (at n : ℕ) where
  -- they may overlap and reach from the string's end to that of the field; of each the first n - first bytes are the string's
  pub words_tail : are_bytes b ≡ true → n ≤ 24 → {first : ℕ} → first ≡ min n 16
      → ltb (tail_words b at first) (256 ^ (n - first)) ≡ all_zero (bytes_at b (at + 2 + n) (24 - n))
  words_tail y l {first} e =
      let d : ℕ = n - first in
      let p : ℕ = at + 2 + n in
      let second : ℕ = 8 + first / 2 - first in
      let third : ℕ = 16 - first in
      let part : (q o : ℕ) → q + d ≡ p + o → ltb (number_in b q 8) (256 ^ d) ≡ all_zero (bytes_at b (p + o) (8 - d)) = λ q o s.
      word_rest b q 8 d y ∙ ap (λ (k : ℕ). all_zero (bytes_at b k (8 - d))) s
      in
      let start : p + 0 ≡ p = add-zero p in
      let size : third + (8 - d) ≡ 24 - n = omega arith in
      or_width (bit_or (number_in b (at + 2 + first) 8) (number_in b (at + 10 + first / 2) 8)) (number_in b (at + 18) 8) d
      ∙ ap₂ ◌&&◌
      (or_width (number_in b (at + 2 + first) 8) (number_in b (at + 10 + first / 2) 8) d
      ∙ ap₂ ◌&&◌ (part (at + 2 + first) 0 (omega arith) ∙ ap (λ (k : ℕ). all_zero (bytes_at b k (8 - d))) start)
      (part (at + 10 + first / 2) second (omega arith))
      ∙ zero_cover b p (8 - d) second (8 - d) (omega arith) (omega arith))
      (part (at + 18) third (omega arith))
      ∙ zero_cover b p (second + (8 - d)) third (8 - d) (omega arith) (omega arith) ∙ ap (λ (k : ℕ). all_zero (bytes_at b p k)) size

-- ---- one note

-- a note where it stands, its stated length n
module _ (b : List ℕ) (at most n : ℕ) (h : at + 26 ≤ length b) (e : n ≡ number_in b at 2) where
  within-most : leb (stated_length (bytes_at b at 26)) most ≡ leb n most
  within-most = ap (λ (k : ℕ). leb k most) (stated_at b at 24 n h e)

  pub note-over : most < n → false ≡ note_within most (bytes_at b at 26)
  unfolding note_within
  note-over l = chain_stops (leb (stated_length (bytes_at b at 26)) most) _ (within-most ∙ lt-leb n most l)

  pub note-rest : most ≤ 24 → n ≤ most → all_zero (bytes_at b (at + 2 + n) (24 - n)) ≡ note_within most (bytes_at b at 26)
  unfolding note_within
  note-rest m l =
      chain_goes_on (leb (stated_length (bytes_at b at 26)) most) _ (within-most ∙ le-leb n most l)
      (field-rest b at 24 n h e (omega arith))

-- a note of no bytes is zero
empty-note : (b : List ℕ) (at : ℕ) → at + 26 ≤ length b → note_within 0 (bytes_at b at 26) ≡ all_zero (bytes_at b at 26)
unfolding note_within
empty-note b at h =
    let f : List ℕ = bytes_at b at 26 in
    let n : ℕ = number_in b at 2 in
    let rest : Bool = all_zero (bytes_at b (at + 2) 24) in
    ap (λ (s : Bool). s && is_string_field note_limit f) (ap (λ (k : ℕ). leb k 0) (stated_at b at 24 n h refl) ∙ at_most-zero n)
    ∙ and_where (eqb n 0) (is_string_field note_limit f) rest
    (λ z. sym (field-rest b at 24 0 h (sym (eqb-true n 0 z)) (lit≤ tt)) ∙ ap (λ (k : ℕ). all_zero (bytes_at b k 24)) (add-zero (at + 2)))
    ∙ ap (λ (s : Bool). s && rest) (word_zero (bytes_at b at 2)) ∙ sym (zero_join b at 2 24)

-- what the clauses say of a note: its field holds a string, which is empty without the request bit t
note-requested : (f : List ℕ) (t : ℕ) → t < 2
    → (is_string_field note_limit f && (eqb t 1 || eqb (length (field_string f)) 0)) ≡ note_within (t * note_limit) f
unfolding note_within
note-requested f t l =
    and_where (is_string_field note_limit f) (eqb t 1 || eqb (length (field_string f)) 0) (leb (stated_length f) (t * note_limit))
    (λ e.
    let s = holds-string note_limit f e in
    let there = s.there in
    let size = s.full_size in
    ap (λ (k : ℕ). eqb t 1 || eqb k 0) (length-string f there) ∙ by_bit t l (omega arith))
    ∙ and_comm (is_string_field note_limit f) (leb (stated_length f) (t * note_limit))
  where
    by_bit : (t : ℕ) → t < 2 → stated_length f ≤ note_limit → (eqb t 1 || eqb (stated_length f) 0) ≡ leb (stated_length f) (t * note_limit)
    by_bit zero l h = sym (at_most-zero (stated_length f))
    by_bit (suc zero) l h = sym (le-leb (stated_length f) note_limit h)
    by_bit (suc (suc t)) l h = absurd (omega arith)

-- ---- the notes to a slot

-- all notes to a slot with this request row
abbrev pub notes_fit : List ℕ → ℕ → Bool
notes_fit slot row = all_below 32 (note_allowed slot row)

-- behind the last request bit they are one run of zeros
pub notes-behind : (slot : List ℕ) (row n : ℕ) → length slot ≡ 832 → row < 2 ^ n → n ≤ 32
    → notes_fit slot row ≡ (all_below n (note_allowed slot row) && all_zero (bytes_at slot (n * 26) ((32 - n) * 26)))
unfolding note_allowed
notes-behind slot row n l small m =
    let s : 32 ≡ n + (32 - n) = omega arith in
    ap (λ (k : ℕ). all_below k (note_allowed slot row)) s ∙ below_plus (note_allowed slot row) n (32 - n)
    ∙ ap (λ (t : Bool). all_below n (note_allowed slot row) && t)
    (below-same (32 - n) (λ (k : ℕ). note_allowed slot row (n + k)) (λ (k : ℕ). all_zero (bytes_at slot (n * 26 + k * 26) 26))
    (λ k q.
    let place : (n + k) * 26 ≡ n * 26 + k * 26 = omega arith in
    ap (λ (t : ℕ). note_within (t * note_limit) (bytes_at slot ((n + k) * 26) 26)) (bit_beyond row n (n + k) small (omega arith))
    ∙ empty-note slot ((n + k) * 26) (omega arith) ∙ ap (λ (o : ℕ). all_zero (bytes_at slot o 26)) place)
    ∙ zero_records slot 26 (32 - n) (n * 26))

-- and all of them where there is no request
empty-notes : (slot : List ℕ) → length slot ≡ 832 → {row : ℕ} → row ≡ 0 → notes_fit slot row ≡ all_zero slot
unfolding all_below
empty-notes slot l {row} z = notes-behind slot row 0 l (omega arith) (omega arith) ∙ ap all_zero (bytes_at_all slot 832 l)

-- how many notes there are up to the last request bit
abbrev pub requested : ℕ → ℕ
requested row = 32 - count_leading_zeros 32 row

-- the slot cut into fields, and those in front of the last request bit
module _ (slot : List ℕ) (row : ℕ) {fields : List (List ℕ)} (l : length slot ≡ 832) (small : row < 2 ^ 32)
    (e : fields ≡ first_chunks 26 (length slot / 26) slot) where
  cut : fields ≡ records_at slot 0 26 32
  cut = e ∙ array-records slot 26 32 832 (lit< tt) l refl

  pub requested-fields : length (take (requested row) fields) ≡ requested row
  requested-fields = length-take-le (requested row) fields (let count = ap length cut ∙ length_records slot 26 32 0 in omega arith)

  pub field_at : (j : ℕ) → j < requested row → get_or (take (requested row) fields) j [] ≡ bytes_at slot (j * 26) 26
  field_at j h =
      get_or-take (requested row) fields j [] h ∙ ap (λ (fs : List (List ℕ)). get_or fs j []) cut
      ∙ piece_at slot 26 32 0 j (omega arith) ∙ ap (λ (o : ℕ). bytes_at slot o 26) (zero-add (j * 26))

  pub behind_requested : notes_fit slot row
      ≡ (all_below (requested row) (note_allowed slot row) && all_zero (bytes_at slot (requested row * 26) ((32 - requested row) * 26)))
  behind_requested =
      let (m, p, h, _) = leading_length 32 row small in
      let q : m ≡ requested row = omega arith in
      notes-behind slot row (requested row) l (subst (λ (k : ℕ). row < 2 ^ k) q h) (omega arith)

-- the field of the note to slot i from slot j, which "is number 32 × i + j", and the test of it by any row of request bits
abbrev note_field : List ℕ → ℕ → ℕ → List ℕ
note_field b i j = get_or (cut_board b).notes (user_limit * i + j) []

abbrev note_by : List ℕ → ℕ → ℕ → ℕ → Bool
note_by b row i j = note_within (bit_at row j * note_limit) (note_field b i j)

-- where the notes to slot i stand, and each of them there
abbrev pub slot_notes : List ℕ → ℕ → List ℕ
slot_notes b i = bytes_at b (23824 + i * 832) 832

note-bytes : (b : List ℕ) (i j : ℕ) → i < 32 → j < 32 → note_field b i j ≡ bytes_at (slot_notes b i) (j * 26) 26
unfolding cut_board
note-bytes b i j h l =
    let place : 23824 + (32 * i + j) * 26 ≡ 23824 + i * 832 + j * 26 = omega arith in
    piece_at b 26 note_count 23824 (32 * i + j) (omega arith) ∙ ap (λ (at : ℕ). bytes_at b at 26) place
    ∙ sym (bytes_at-bytes_at b (23824 + i * 832) 832 (j * 26) 26 (omega arith))

notes-slot : (b : List ℕ) (row i : ℕ) → i < 32 → all_below 32 (note_by b row i) ≡ notes_fit (slot_notes b i) row
unfolding note_allowed
notes-slot b row i h =
    below-same 32 (note_by b row i) (note_allowed (slot_notes b i) row)
    (λ j l. ap (note_within (bit_at row j * note_limit)) (note-bytes b i j h l))

-- ---- the clauses about notes

no_string : field_string [] ≡ []
unfolding field_string stated_length from_le_bytes bytes_at
no_string = refl

-- the string of a note in the state
note-string : (b : List ℕ) (i j : ℕ) → get_or (notes_to (decode b) i) j [] ≡ field_string (note_field b i j)
unfolding notes_to decode state_of
note-string b i j =
    let k : ℕ = 32 * i + j in
    let fields : List (List ℕ) = (cut_board b).notes in
    get_or-drop (32 * i) (map field_string fields) j []
    ∙ ap (get_or (map field_string fields) k) (sym no_string) ∙ get_or-map field_string fields k []

-- the request row of slot i in the state, and whether the note from slot j is requested or empty
abbrev requests_to : List ℕ → ℕ → ℕ
requests_to b i = (user_at (decode b) i).requests

abbrev requested_to : List ℕ → ℕ → ℕ → Bool
requested_to b i j = has_bit (requests_to b i) j || eqb (length (get_or (notes_to (decode b) i) j [])) 0

one-note : (b : List ℕ) (i j : ℕ) → (is_string_field note_limit (note_field b i j) && requested_to b i j) ≡ note_by b (requests_to b i) i j
unfolding has_bit
one-note b i j =
    let bit : ℕ = bit_at (requests_to b i) j in
    ap (λ (s : List ℕ). is_string_field note_limit (note_field b i j) && (eqb bit 1 || eqb (length s) 0)) (note-string b i j)
    ∙ note-requested (note_field b i j) bit (bit_lt (requests_to b i) j)

-- both clauses are one test of each note
count-notes : (b : List ℕ) → length (cut_board b).notes ≡ note_count
unfolding cut_board
count-notes b = length_records b 26 note_count 23824

all_notes : (b : List ℕ)
    → (for_all (is_string_field note_limit) (cut_board b).notes && notes_requested (decode b))
    ≡ all_below 32 (λ (i : ℕ). all_below 32 (note_by b (requests_to b i) i))
unfolding notes_requested
all_notes b =
    let fields : List (List ℕ) = (cut_board b).notes in
    let is_field : ℕ → Bool = λ k. is_string_field note_limit (get_or fields k []) in
    let fields_to : ℕ → ℕ → Bool = λ i j. is_field (32 * i + j) in
    ap (λ (t : Bool). t && all_below 32 (λ (i : ℕ). all_below 32 (requested_to b i)))
    (all_below_lem (is_string_field note_limit) fields [] (λ (k : ℕ). get_or fields k []) (count-notes b) (λ k h. refl) ∙ below_grid 32 32 is_field)
    ∙ below_both 32 (λ (i : ℕ). all_below 32 (fields_to i)) (λ (i : ℕ). all_below 32 (requested_to b i))
    ∙ below-same 32 (λ (i : ℕ). all_below 32 (fields_to i) && all_below 32 (requested_to b i)) (λ (i : ℕ). all_below 32 (note_by b (requests_to b i) i))
    (λ i h.
    below_both 32 (fields_to i) (requested_to b i)
    ∙ below-same 32 (λ (j : ℕ). fields_to i j && requested_to b i j) (note_by b (requests_to b i) i) (λ j l. one-note b i j))

module _ (board : CountedBoard) where
  abbrev b : List ℕ
  b = board.bytes.now

  abbrev n : ℕ
  n = length board.users.now

  no_requests : (i : ℕ) → n ≤ i → requests_to b i ≡ 0
  unfolding user_at
  no_requests i l = ap (λ (u : User). u.requests) (get_or-eq_default (decode b).users no_user (let k = decoded-count board in omega arith))

  slot-size : (i : ℕ) → i < 32 → length (slot_notes b i) ≡ 832
  slot-size i h = let size = board.within.0 in length-bytes_at b (23824 + i * 832) 832 (omega arith)

  -- the notes to the user in slot i
  abbrev pub user_notes_fit : ℕ → Bool
  user_notes_fit i = notes_fit (slot_notes b i) (request_row board.users.now i)

  -- the notes to users by their rows, and those to unused slots as one run
  pub notes-clause : (for_all (is_string_field note_limit) (cut_board b).notes && notes_requested (decode b))
      ≡ (all_below n user_notes_fit && all_zero (bytes_at b (23824 + n * 832) ((32 - n) * 832)))
  notes-clause =
      let w = (used-limits board).0 in
      let s : 32 ≡ n + (32 - n) = omega arith in
      let fit : ℕ → Bool = λ i. all_below 32 (note_by b (requests_to b i) i) in
      all_notes b ∙ ap (λ (k : ℕ). all_below k fit) s ∙ below_plus fit n (32 - n)
      ∙ ap₂ ◌&&◌
      (below-same n fit user_notes_fit (λ i l.
      ap (λ (row : ℕ). all_below 32 (note_by b row i)) (ap (λ (u : User). u.requests) (user-decoded board i))
      ∙ notes-slot b (request_row board.users.now i) i (omega arith)))
      (below-same (32 - n) (λ (k : ℕ). fit (n + k)) (λ (k : ℕ). all_zero (bytes_at b (23824 + n * 832 + k * 832) 832))
      (λ k l.
      let place : 23824 + (n + k) * 832 ≡ 23824 + n * 832 + k * 832 = omega arith in
      notes-slot b (requests_to b (n + k)) (n + k) (omega arith)
      ∙ empty-notes (slot_notes b (n + k)) (slot-size (n + k) (omega arith)) (no_requests (n + k) (omega arith))
      ∙ ap (λ (at : ℕ). all_zero (bytes_at b at 832)) place)
      ∙ zero_records b 832 (32 - n) (23824 + n * 832))

  -- the users in turn, each with the notes to its slot
  pub users-with-notes : {slots : List (List ℕ)} → slots ≡ records_at b 23824 832 32
      → list_all (λ p. notes_fit p.1 (decode_user p.0).requests) (zip board.users.now slots) ≡ all_below n user_notes_fit
  users-with-notes {slots} e =
      let users : List (List ℕ) = board.users.now in
      let w = (used-limits board).0 in
      let count : length slots ≡ 32 = ap length e ∙ length_records b 832 32 23824 in
      let fits : List ℕ × List ℕ → Bool = λ p. notes_fit p.1 (decode_user p.0).requests in
      all_elements fits (zip users slots)
      ∙ all_below_lem fits (zip users slots) ([], []) (λ (i : ℕ). (get_or users i [], get_or slots i []))
      (length-zip users slots ∙ (omega arith)) (λ i h. get_or-zip users slots i ([], []) h (omega arith))
      ∙ below-same n (λ (i : ℕ). notes_fit (get_or slots i []) (request_row users i)) user_notes_fit
      (λ i h. ap (λ (s : List ℕ). notes_fit s (request_row users i)) (ap (λ (ss : List (List ℕ)). get_or ss i []) e ∙ piece_at b 832 32 23824 i (omega arith)))

  -- the slots of users, and the others as one run
  pub used-slots : {slots : List (List ℕ)} → slots ≡ records_at b 23824 832 32 → length (take n slots) ≡ n
  used-slots {slots} e = let w = (used-limits board).0 in let count = ap length e ∙ length_records b 832 32 23824 in length-take-le n slots (omega arith)

  pub unused-slots : for_all all_zero (drop n (records_at b 23824 832 32)) ≡ all_zero (bytes_at b (23824 + n * 832) ((32 - n) * 832))
  unused-slots = ap (for_all all_zero) (drop-table b 832 32 23824 n (used-limits board).0) ∙ zero-pieces b 832 (32 - n) (23824 + n * 832)
