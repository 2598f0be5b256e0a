-- What the parts of the soundness test decide: tests of records, rows and notes where they stand on a board.
use Rattle.std.specs.Prelude.{ℕ, ◌+◌, ◌*◌, ◌/◌, ◌%◌, List, [], ◌≡◌, Bool, true, ◌&&◌, length, take, get_or, replicate, eqb, leb, ltb}
use Rattle.layout.specs.Bytes.{bytes_at, pieces}
use Rattle.layout.specs.StringFields.{stated_length, is_string_field}
use Rattle.layout.specs.Bits.{bit_at, has_bit}
use Rattle.reader.specs.Fields.{note_limit, number_in}
use Rattle.model.specs.Lists.{for_all}
use Rattle.model.specs.Board.{board_size, BoardRecords, decode_user, cut_board, user_count, post_count, pending_count}
use Rattle.model.specs.Soundness.{counts_within_limits, user_strings, post_strings, pending_strings}

-- what a counted board has: its length, and counts within their limits
abbrev pub BoardWithinLimits : List ℕ → Type 0
BoardWithinLimits b = (length b ≡ board_size) × (counts_within_limits (cut_board b) ≡ true)

-- ---- records

-- n records of one size, one behind the other from a base on
abbrev pub records_at : List ℕ → ℕ → ℕ → ℕ → List (List ℕ)
records_at b base size n = pieces (replicate n size) base b

-- the used records of each table
abbrev pub used_users : List ℕ → List (List ℕ)
used_users b = take (user_count (cut_board b)) (cut_board b).users

abbrev pub used_posts : List ℕ → List (List ℕ)
used_posts b = take (post_count (cut_board b)) (cut_board b).posts

abbrev pub used_pending : List ℕ → List (List ℕ)
used_pending b = take (pending_count (cut_board b)) (cut_board b).pending

-- the field at a place of a record holds a string
unfoldable pub holds_string : ℕ → ℕ → List ℕ → Bool
holds_string at limit r = is_string_field limit (bytes_at r at (2 + limit))

-- the two-byte number at a place of a record is below a bound
unfoldable pub number_below : ℕ → ℕ → List ℕ → Bool
number_below at bound r = ltb (number_in r at 2) bound

-- the strings of the tables' used records: the model's clause about strings without the notes of requests
unfoldable pub table_strings : BoardRecords → Bool
table_strings r =
    for_all user_strings (take (user_count r) r.users)
    && (for_all post_strings (take (post_count r) r.posts) && for_all pending_strings (take (pending_count r) r.pending))

-- ---- numbers

-- the places of a number's bits in the two filters
abbrev pub first_place : ℕ → ℕ
first_place x = x % 64

abbrev pub second_place : ℕ → ℕ
second_place x = x / 64 % 64

-- a filter has the bit of each number of a list
unfoldable pub filter_covers : (ℕ → ℕ) → ℕ → List ℕ → Bool
filter_covers place filter xs = for_all (λ (x : ℕ). has_bit filter (place x)) xs

-- ---- rows and notes

-- the rows of slot i, where the users' records stand in a list
abbrev pub friend_row : List (List ℕ) → ℕ → ℕ
friend_row users i = (decode_user (get_or users i [])).friends

abbrev pub request_row : List (List ℕ) → ℕ → ℕ
request_row users i = (decode_user (get_or users i [])).requests

-- slot i has slot j as a friend exactly if slot j has slot i
unfoldable pub symmetric_at : List (List ℕ) → ℕ → ℕ → Bool
symmetric_at users i j = eqb (bit_at (friend_row users i) j) (bit_at (friend_row users j) i)

-- a field is a note of at most `most` bytes
unfoldable pub note_within : ℕ → List ℕ → Bool
note_within most f = leb (stated_length f) most && is_string_field note_limit f

-- of the 32 notes to a slot with this request row, one behind the other: the one from slot j is a string within its limit, and empty without
-- its request bit
unfoldable pub note_allowed : List ℕ → ℕ → ℕ → Bool
note_allowed slot row j = note_within (bit_at row j * note_limit) (bytes_at slot (j * 26) 26)
