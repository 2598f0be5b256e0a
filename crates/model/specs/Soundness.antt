-- "A board is sound if ..", clause by clause and in the order of docs/FORMAT.md: those about bytes are tests of the board's records, those about
-- what the bytes mean are tests of the state, with those of document 02 behind them, and the last is a test of the whole board again.
use Rattle.std.specs.Prelude.{ℕ, ◌^◌, List, [], ◌∷◌, ◌++◌, map, Bool, not, ◌&&◌, ◌||◌, length, take, drop, get_or, eqb, leb, ltb}
use Rattle.layout.specs.Bytes.{bytes_at, all_zero}
use Rattle.layout.specs.StringFields.{is_string_field}
use Rattle.layout.specs.Bits.{bit_at, has_bit}
use Rattle.reader.specs.Fields.{name_limit, info_limit, title_limit, text_limit, note_limit}
use Rattle.model.specs.Lists.{for_all, all_true, all_below, contains, distinct}
use Rattle.model.specs.State.{User, Post, State, user_limit, post_limit, pending_limit, user_numbers, post_numbers, pending_numbers, user_at, notes_to}
use Rattle.model.specs.Board.{board_size, BoardRecords, user_count, post_count, pending_count, header_filler, pending_filler, cut_board, decode}

-- ---- clauses about bytes

-- "its counts are within limits"
unfoldable pub counts_within_limits : BoardRecords → Bool
counts_within_limits r = all_true (leb (user_count r) user_limit ∷ leb (post_count r) post_limit ∷ leb (pending_count r) pending_limit ∷ [])

-- "used records come first and unused ones are zero"
unfoldable pub unused_records_zero : BoardRecords → Bool
unused_records_zero r =
    all_true (for_all all_zero (drop (user_count r) r.users) ∷ for_all all_zero (drop (post_count r) r.posts)
    ∷ for_all all_zero (drop (pending_count r) r.pending) ∷ [])

-- "string lengths are within their limits, bytes past them zero"
unfoldable pub user_strings : List ℕ → Bool
user_strings r = all_true (is_string_field name_limit (bytes_at r 20 26) ∷ is_string_field info_limit (bytes_at r 46 58) ∷ [])

unfoldable pub post_strings : List ℕ → Bool
post_strings r = all_true (is_string_field title_limit (bytes_at r 12 42) ∷ is_string_field text_limit (bytes_at r 54 258) ∷ [])

unfoldable pub pending_strings : List ℕ → Bool
pending_strings r = is_string_field note_limit (bytes_at r 4 26)

unfoldable pub strings_within_limits : BoardRecords → Bool
strings_within_limits r =
    all_true (for_all user_strings (take (user_count r) r.users) ∷ for_all post_strings (take (post_count r) r.posts)
    ∷ for_all pending_strings (take (pending_count r) r.pending) ∷ for_all (is_string_field note_limit) r.notes ∷ [])

-- "the filler bytes of header and pending records are zero"
unfoldable pub filler_zero : BoardRecords → Bool
filler_zero r = all_zero (header_filler r.header) && for_all (λ (p : List ℕ). all_zero (pending_filler p)) (take (pending_count r) r.pending)

-- ---- clauses about the state

-- "numbers are not 0 and distinct in each table"
unfoldable pub numbers_not_zero : State → Bool
numbers_not_zero s = all_true (for_all (ltb 0) (user_numbers s) ∷ for_all (ltb 0) (post_numbers s) ∷ for_all (ltb 0) (pending_numbers s) ∷ [])

unfoldable pub numbers_distinct : State → Bool
numbers_distinct s = all_true (distinct (user_numbers s) ∷ distinct (post_numbers s) ∷ distinct (pending_numbers s) ∷ [])

-- "no pending number is registered"
unfoldable pub pending_not_registered : State → Bool
pending_not_registered s = for_all (λ (x : ℕ). not (contains x (user_numbers s))) (pending_numbers s)

-- "friend rows are symmetric"
unfoldable pub friends_symmetric : State → Bool
friends_symmetric s =
    all_below (length s.users)
    (λ (i : ℕ). all_below (length s.users) (λ (j : ℕ). eqb (bit_at (user_at s i).friends j) (bit_at (user_at s j).friends i)))

-- "neither row has its own bit or a bit at or above n": a row has no bit at or above n exactly if it is below 2 ^ n
unfoldable pub no_own_bit : State → Bool
no_own_bit s = all_below (length s.users) (λ (i : ℕ). not (has_bit (user_at s i).friends i) && not (has_bit (user_at s i).requests i))

unfoldable pub bits_below_count : State → Bool
bits_below_count s = for_all (λ (u : User). ltb u.friends (2 ^ length s.users) && ltb u.requests (2 ^ length s.users)) s.users

-- "a note without its request bit is zero": it is the empty string, whose field is zero
unfoldable pub notes_requested : State → Bool
notes_requested s =
    all_below user_limit (λ (i : ℕ). let notes : List (List ℕ) = notes_to s i in
    all_below user_limit (λ (j : ℕ). has_bit (user_at s i).requests j || eqb (length (get_or notes j [])) 0))

-- "owners' slots are below n"
unfoldable pub owners_registered : State → Bool
owners_registered s = for_all (λ (p : Post). ltb p.owner (length s.users)) s.posts

-- "visibility is 0 or 1"
unfoldable pub visibility_valid : State → Bool
visibility_valid s = for_all (λ (p : Post). leb p.visibility 1) s.posts

-- "Friends with a request between them are no longer a sound board" (document 02, change 2). Friend rows are symmetric, so a bit in both
-- rows of one of the two shows it, whoever has requested whom.
unfoldable pub friends_not_requested : State → Bool
friends_not_requested s = for_all (λ (u : User). all_below user_limit (λ (j : ℕ). not (has_bit u.friends j && has_bit u.requests j))) s.users

-- ---- soundness

abbrev pub record_clauses : List (BoardRecords → Bool)
record_clauses =
    counts_within_limits
    ∷ unused_records_zero
    ∷ strings_within_limits
    ∷ filler_zero ∷ []

abbrev pub state_clauses : List (State → Bool)
state_clauses =
    numbers_not_zero
    ∷ numbers_distinct
    ∷ pending_not_registered
    ∷ friends_symmetric
    ∷ no_own_bit
    ∷ bits_below_count
    ∷ notes_requested
    ∷ owners_registered
    ∷ visibility_valid
    ∷ friends_not_requested ∷ []

-- "with n = 0 all bytes are zero"
unfoldable pub zero_without_users : List ℕ → Bool
zero_without_users b = not (eqb (user_count (cut_board b)) 0) || all_zero b

-- what the clauses say of a board, one after the other; the first is about its length
unfoldable pub clause_results : List ℕ → List Bool
clause_results b =
    eqb (length b) board_size
    ∷ (map (λ (clause : BoardRecords → Bool). clause (cut_board b)) record_clauses
    ++ (map (λ (clause : State → Bool). clause (decode b)) state_clauses ++ (zero_without_users b ∷ [])))

unfoldable pub is_sound : List ℕ → Bool
is_sound b = all_true (clause_results b)
