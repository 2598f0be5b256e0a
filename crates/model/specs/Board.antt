-- "The board: 50,448 bytes". A board is cut into a header and the records of four tables at the offsets of docs/FORMAT.md; a state is laid out as
-- such records.
use Rattle.std.specs.Prelude.{ℕ, ◌+◌, ◌-◌, length, take, replicate}
use mathlib.Core.List.{List, [], ◌∷◌, ◌++◌, map, flatten}
use Rattle.layout.specs.Bytes.{bytes_at, pieces}
use Rattle.layout.specs.Numbers.{to_le_bytes}
use Rattle.layout.specs.StringFields.{string_field, field_string}
use Rattle.reader.specs.Fields.{name_limit, info_limit, title_limit, text_limit, note_limit, number_in}
use Rattle.model.specs.State.{User, Post, Pending, State, user_limit, post_limit, pending_limit, note_count}

abbrev pub board_size : ℕ
board_size = 50448

-- ---- records

-- what a field of a record holds: a number in so many bytes, a string with its limit, or so many zero bytes
pub data StoredField : Type 0 where
  unsigned : ℕ → ℕ → StoredField
  string : ℕ → List ℕ → StoredField
  filler : ℕ → StoredField

unfoldable pub stored_bytes : StoredField → List ℕ
stored_bytes (unsigned width n) = to_le_bytes width n
stored_bytes (string limit s) = string_field limit s
stored_bytes (filler n) = replicate n 0

-- a record is its fields, one behind the other
unfoldable pub record_bytes : List StoredField → List ℕ
record_bytes fields = flatten (map stored_bytes fields)

-- the string in the field at a place of a record, which has room up to its limit; for a number it is the reader's `number_in`
abbrev pub string_at : List ℕ → ℕ → ℕ → List ℕ
string_at r at limit = field_string (bytes_at r at (2 + limit))

-- ---- the fields of header and records, and what a record's bytes hold

-- "two-byte counts of users n (at most 32), posts m (64), pending k (16), then ten zero bytes"
unfoldable pub header_fields : State → List StoredField
header_fields s = unsigned 2 (length s.users) ∷ unsigned 2 (length s.posts) ∷ unsigned 2 (length s.pending) ∷ filler 10 ∷ []

-- "number 4, password 8, friend row 4 .., request row 4 .., name 2+24, info 2+56"
unfoldable pub user_fields : User → List StoredField
user_fields u =
    unsigned 4 u.number ∷ unsigned 8 u.password ∷ unsigned 4 u.friends ∷ unsigned 4 u.requests
    ∷ string name_limit u.name ∷ string info_limit u.info ∷ []

unfoldable pub decode_user : List ℕ → User
decode_user r = record {
  number = number_in r 0 4;
  password = number_in r 4 8;
  friends = number_in r 12 4;
  requests = number_in r 16 4;
  name = string_at r 20 name_limit;
  info = string_at r 46 info_limit;
}

-- "number 4, picture 4, owner's slot 2, visibility 2, title 2+40, text 2+256"
unfoldable pub post_fields : Post → List StoredField
post_fields p =
    unsigned 4 p.number ∷ unsigned 4 p.picture ∷ unsigned 2 p.owner ∷ unsigned 2 p.visibility
    ∷ string title_limit p.title ∷ string text_limit p.text ∷ []

unfoldable pub decode_post : List ℕ → Post
decode_post r = record {
  number = number_in r 0 4;
  picture = number_in r 4 4;
  owner = number_in r 8 2;
  visibility = number_in r 10 2;
  title = string_at r 12 title_limit;
  text = string_at r 54 text_limit;
}

-- "number 4, note 2+24, two zero bytes"
unfoldable pub pending_fields : Pending → List StoredField
pending_fields p = unsigned 4 p.number ∷ string note_limit p.note ∷ filler 2 ∷ []

unfoldable pub decode_pending : List ℕ → Pending
decode_pending r = record { number = number_in r 0 4; note = string_at r 4 note_limit }

-- "notes of 26 (2+24)"
unfoldable pub note_fields : List ℕ → List StoredField
note_fields note = string note_limit note ∷ []

-- ---- bytes and records

pub record BoardRecords : Type 0 where
  pub header : List ℕ
  pub users : List (List ℕ)
  pub posts : List (List ℕ)
  pub pending : List (List ℕ)
  pub notes : List (List ℕ)

-- "16: 32 users, slots 0 to 31, of 104", "3,344: 64 posts of 312", "23,312: 16 pending of 32", "23,824: notes of 26 (2+24)"
unfoldable pub cut_board : List ℕ → BoardRecords
cut_board b = record {
  header = bytes_at b 0 16;
  users = pieces (replicate user_limit 104) 16 b;
  posts = pieces (replicate post_limit 312) 3344 b;
  pending = pieces (replicate pending_limit 32) 23312 b;
  notes = pieces (replicate note_count 26) 23824 b;
}

unfoldable pub join_records : BoardRecords → List ℕ
join_records r = flatten (r.header ∷ flatten r.users ∷ flatten r.posts ∷ flatten r.pending ∷ flatten r.notes ∷ [])

-- ---- records and states

-- "used records come first and unused ones are zero": the records of a table with room for `limit` of them
unfoldable pub table_records : {A : Type 0} → ℕ → ℕ → (A → List StoredField) → List A → List (List ℕ)
table_records size limit fields xs = map (λ x. record_bytes (fields x)) xs ++ replicate (limit - length xs) (replicate size 0)

unfoldable pub records_of : State → BoardRecords
records_of s = record {
  header = record_bytes (header_fields s);
  users = table_records 104 user_limit user_fields s.users;
  posts = table_records 312 post_limit post_fields s.posts;
  pending = table_records 32 pending_limit pending_fields s.pending;
  notes = table_records 26 note_count note_fields s.notes;
}

unfoldable pub user_count : BoardRecords → ℕ
user_count r = number_in r.header 0 2

unfoldable pub post_count : BoardRecords → ℕ
post_count r = number_in r.header 2 2

unfoldable pub pending_count : BoardRecords → ℕ
pending_count r = number_in r.header 4 2

abbrev pub header_filler : List ℕ → List ℕ
header_filler header = bytes_at header 6 10

abbrev pub pending_filler : List ℕ → List ℕ
pending_filler r = bytes_at r 30 2

unfoldable pub state_of : BoardRecords → State
state_of r = record {
  users = map decode_user (take (user_count r) r.users);
  posts = map decode_post (take (post_count r) r.posts);
  pending = map decode_pending (take (pending_count r) r.pending);
  notes = map field_string r.notes;
}

-- ---- bytes and states

unfoldable pub encode : State → List ℕ
encode s = join_records (records_of s)

unfoldable pub decode : List ℕ → State
decode b = state_of (cut_board b)

-- "All zeros is the empty board."
unfoldable pub empty_board : List ℕ
empty_board = replicate board_size 0
