-- Users, posts, pending registrations and notes as records: their sizes, and both round trips.
use Prim.Native.Nat.{ℕ, ◌+◌}
use native.Mathlib.Omega.{arith}
use mathlib.Core.Path.{◌≡◌, refl, ap, ◌∙◌}
use mathlib.Core.List.{List, [], ◌∷◌, flatten, sum, append-nil, map}
use mathlib.Core.Bool.{Bool, true, ◌&&◌}
use lib.ListN.{length, replicate}
use lib.Dec.{lit<}
use lib.Pow.{are_bytes}
use Rattle.layout.specs.Bytes.{bytes_at, all_zero, offset}
use Rattle.layout.specs.Numbers.{to_le_bytes}
use Rattle.layout.specs.StringFields.{is_string, string_bytes, string_field, field_string, is_string_field}
use Rattle.layout.proofs.BooleanLaws.{and_left, and_right, and_both}
use Rattle.layout.proofs.StringFieldLaws.{string_of_field, field_of_string, field-holds, string_le, holds-string}
use Rattle.reader.specs.Fields.{name_limit, info_limit, title_limit, text_limit, note_limit, number_in}
use Rattle.model.specs.Lists.{for_all, all_true}
use Rattle.model.specs.State.{User, Post, Pending, State, no_user, no_post, no_pending}
use Rattle.model.specs.Board.{StoredField, unsigned, filler, stored_bytes, record_bytes, header_fields, user_fields, post_fields, pending_fields, note_fields, decode_user, decode_post, decode_pending}
use Rattle.model.specs.Soundness.{user_strings, post_strings, pending_strings}
use Rattle.model.proofs.StateRules.{stored_fits}
use Rattle.model.proofs.RecordLaws.{RecordCodec, stored_size, length-record, own-record, field_number, field-string, field_is_string, field-zero, field_from, fields_from, holds_field, holds_fields, is_record, record-back}

-- ---- a user

pub user-read : (u : User) → for_all stored_fits (user_fields u) ≡ true → decode_user (record_bytes (user_fields u)) ≡ u
unfolding decode_user user_fields stored_size offset sum
user-read u e =
    let fs : List StoredField = user_fields u in
    let a = field_number (own-record fs e) 0 (lit< tt) 4 u.number refl in
    let b = field_number (own-record fs e) 1 (lit< tt) 8 u.password refl in
    let c = field_number (own-record fs e) 2 (lit< tt) 4 u.friends refl in
    let d = field_number (own-record fs e) 3 (lit< tt) 4 u.requests refl in
    let n = field-string (own-record fs e) 4 (lit< tt) name_limit u.name (lit< tt) refl in
    let m = field-string (own-record fs e) 5 (lit< tt) info_limit u.info (lit< tt) refl in
    λ i. record { number = a i; password = b i; friends = c i; requests = d i; name = n i; info = m i }

pub user-strings : (u : User) → for_all stored_fits (user_fields u) ≡ true → user_strings (record_bytes (user_fields u)) ≡ true
unfolding user_strings user_fields stored_size offset sum all_true for_all
user-strings u e =
    and_both (field_is_string (own-record (user_fields u) e) 4 (lit< tt) name_limit u.name (lit< tt) refl)
    (and_both (field_is_string (own-record (user_fields u) e) 5 (lit< tt) info_limit u.info (lit< tt) refl) refl)

-- bytes that a user's record may be: the strings stand in their fields
unfoldable pub good_user : List ℕ → Bool
good_user r = is_record 104 r && holds_fields (user_fields no_user) r 0

pub user-holds : (r : List ℕ) → user_strings r ≡ true → holds_fields (user_fields no_user) r 0 ≡ true
unfolding user_strings user_fields holds_field holds_fields stored_size all_true for_all
user-holds r t = t

pub user-held : (r : List ℕ) → good_user r ≡ true
    → (record_bytes (user_fields (decode_user r)) ≡ r) × (for_all stored_fits (user_fields (decode_user r)) ≡ true)
unfolding good_user user_fields decode_user field_from fields_from stored_size sum
user-held r e = record-back 104 (user_fields no_user) refl r e

pub user-size : (x : User) → sum ◌+◌ 0 (map stored_size (user_fields x)) ≡ 104
unfolding user_fields stored_size sum
user-size x = refl

-- a record of zeros
pub zero-user : record_bytes (user_fields no_user) ≡ replicate 104 0
unfolding record_bytes user_fields stored_bytes to_le_bytes string_field string_bytes flatten
zero-user = refl

abbrev pub user_codec : RecordCodec User
user_codec = record {
  size = 104;
  fields = user_fields;
  good = good_user;
  read = decode_user;
  size_right = user-size;
  read_back = user-read;
  bytes_back = λ r e. (user-held r e).0;
  fits-back = λ r e. (user-held r e).1;
}

-- ---- a post

pub post_read : (p : Post) → for_all stored_fits (post_fields p) ≡ true → decode_post (record_bytes (post_fields p)) ≡ p
unfolding decode_post post_fields stored_size offset sum
post_read p e =
    let fs : List StoredField = post_fields p in
    let a = field_number (own-record fs e) 0 (lit< tt) 4 p.number refl in
    let b = field_number (own-record fs e) 1 (lit< tt) 4 p.picture refl in
    let c = field_number (own-record fs e) 2 (lit< tt) 2 p.owner refl in
    let d = field_number (own-record fs e) 3 (lit< tt) 2 p.visibility refl in
    let n = field-string (own-record fs e) 4 (lit< tt) title_limit p.title (lit< tt) refl in
    let m = field-string (own-record fs e) 5 (lit< tt) text_limit p.text (lit< tt) refl in
    λ i. record { number = a i; picture = b i; owner = c i; visibility = d i; title = n i; text = m i }

pub post-strings : (p : Post) → for_all stored_fits (post_fields p) ≡ true → post_strings (record_bytes (post_fields p)) ≡ true
unfolding post_strings post_fields stored_size offset sum all_true for_all
post-strings p e =
    and_both (field_is_string (own-record (post_fields p) e) 4 (lit< tt) title_limit p.title (lit< tt) refl)
    (and_both (field_is_string (own-record (post_fields p) e) 5 (lit< tt) text_limit p.text (lit< tt) refl) refl)

unfoldable pub good_post : List ℕ → Bool
good_post r = is_record 312 r && holds_fields (post_fields no_post) r 0

pub post-holds : (r : List ℕ) → post_strings r ≡ true → holds_fields (post_fields no_post) r 0 ≡ true
unfolding post_strings post_fields holds_field holds_fields stored_size all_true for_all
post-holds r t = t

pub post_held : (r : List ℕ) → good_post r ≡ true
    → (record_bytes (post_fields (decode_post r)) ≡ r) × (for_all stored_fits (post_fields (decode_post r)) ≡ true)
unfolding good_post post_fields decode_post field_from fields_from stored_size sum
post_held r e = record-back 312 (post_fields no_post) refl r e

pub post-size : (x : Post) → sum ◌+◌ 0 (map stored_size (post_fields x)) ≡ 312
unfolding post_fields stored_size sum
post-size x = refl

-- a record of zeros
pub zero-post : record_bytes (post_fields no_post) ≡ replicate 312 0
unfolding record_bytes post_fields stored_bytes to_le_bytes string_field string_bytes flatten
zero-post = refl

abbrev pub post_codec : RecordCodec Post
post_codec = record {
  size = 312;
  fields = post_fields;
  good = good_post;
  read = decode_post;
  size_right = post-size;
  read_back = post_read;
  bytes_back = λ r e. (post_held r e).0;
  fits-back = λ r e. (post_held r e).1;
}

-- ---- a pending registration

pub pending-read : (p : Pending) → for_all stored_fits (pending_fields p) ≡ true → decode_pending (record_bytes (pending_fields p)) ≡ p
unfolding decode_pending pending_fields stored_size offset sum
pending-read p e =
    let fs : List StoredField = pending_fields p in
    let a = field_number (own-record fs e) 0 (lit< tt) 4 p.number refl in
    let n = field-string (own-record fs e) 1 (lit< tt) note_limit p.note (lit< tt) refl in
    λ i. record { number = a i; note = n i }

pub pending-strings : (p : Pending) → for_all stored_fits (pending_fields p) ≡ true → pending_strings (record_bytes (pending_fields p)) ≡ true
unfolding pending_strings pending_fields stored_size offset sum
pending-strings p e = field_is_string (own-record (pending_fields p) e) 1 (lit< tt) note_limit p.note (lit< tt) refl

pub pending-filler : (p : Pending) → for_all stored_fits (pending_fields p) ≡ true → all_zero (bytes_at (record_bytes (pending_fields p)) 30 2) ≡ true
unfolding pending_fields stored_size offset sum
pending-filler p e = field-zero (own-record (pending_fields p) e) 2 (lit< tt) 2 refl

unfoldable pub good_pending : List ℕ → Bool
good_pending r = is_record 32 r && holds_fields (pending_fields no_pending) r 0

pub pending-holds : (r : List ℕ) → (pending_strings r && all_zero (bytes_at r 30 2)) ≡ true → holds_fields (pending_fields no_pending) r 0 ≡ true
unfolding pending_strings pending_fields holds_field holds_fields stored_size
pending-holds r t =
    let n : Bool = is_string_field note_limit (bytes_at r 4 26) in
    let m : Bool = all_zero (bytes_at r 30 2) in
    and_both (and_left n m t) (and_both (and_right n m t) refl)

pub pending-held : (r : List ℕ) → good_pending r ≡ true
    → (record_bytes (pending_fields (decode_pending r)) ≡ r) × (for_all stored_fits (pending_fields (decode_pending r)) ≡ true)
unfolding good_pending pending_fields decode_pending field_from fields_from stored_size sum
pending-held r e = record-back 32 (pending_fields no_pending) refl r e

pub pending-size : (x : Pending) → sum ◌+◌ 0 (map stored_size (pending_fields x)) ≡ 32
unfolding pending_fields stored_size sum
pending-size x = refl

-- a record of zeros
pub zero-pending : record_bytes (pending_fields no_pending) ≡ replicate 32 0
unfolding record_bytes pending_fields stored_bytes to_le_bytes string_field string_bytes flatten
zero-pending = refl

abbrev pub pending_codec : RecordCodec Pending
pending_codec = record {
  size = 32;
  fields = pending_fields;
  good = good_pending;
  read = decode_pending;
  size_right = pending-size;
  read_back = pending-read;
  bytes_back = λ r e. (pending-held r e).0;
  fits-back = λ r e. (pending-held r e).1;
}

-- ---- a note

note-bytes : (note : List ℕ) → record_bytes (note_fields note) ≡ string_field note_limit note
unfolding record_bytes note_fields stored_bytes flatten
note-bytes note = append-nil (string_field note_limit note)

pub note-read : (note : List ℕ) → for_all stored_fits (note_fields note) ≡ true → field_string (record_bytes (note_fields note)) ≡ note
unfolding note_fields for_all stored_fits
note-read note e =
    let t : is_string note_limit note ≡ true = and_left (is_string note_limit note) true e in
    ap field_string (note-bytes note) ∙ string_of_field note_limit note t (let l = string_le note_limit note t in omega arith)

pub note-holds : (note : List ℕ) → for_all stored_fits (note_fields note) ≡ true → is_string_field note_limit (record_bytes (note_fields note)) ≡ true
unfolding note_fields for_all stored_fits
note-holds note e =
    let t : is_string note_limit note ≡ true = and_left (is_string note_limit note) true e in
    ap (is_string_field note_limit) (note-bytes note) ∙ field-holds note_limit note t (let l = string_le note_limit note t in omega arith)

unfoldable pub good_note : List ℕ → Bool
good_note r = are_bytes r && is_string_field note_limit r

pub note-back : (r : List ℕ) → good_note r ≡ true → record_bytes (note_fields (field_string r)) ≡ r
unfolding good_note
note-back r e =
    note-bytes (field_string r)
    ∙ field_of_string note_limit r (and_left (are_bytes r) (is_string_field note_limit r) e) (and_right (are_bytes r) (is_string_field note_limit r) e)

pub note-fits : (r : List ℕ) → good_note r ≡ true → for_all stored_fits (note_fields (field_string r)) ≡ true
unfolding good_note note_fields for_all stored_fits
note-fits r e = and_both (holds-string note_limit r (and_right (are_bytes r) (is_string_field note_limit r) e)).allowed refl

pub note-size : (x : List ℕ) → sum ◌+◌ 0 (map stored_size (note_fields x)) ≡ 26
unfolding note_fields stored_size sum
note-size x = refl

-- a record of zeros
pub zero-note : record_bytes (note_fields []) ≡ replicate 26 0
unfolding record_bytes note_fields stored_bytes to_le_bytes string_field string_bytes flatten
zero-note = refl

abbrev pub note_codec : RecordCodec (List ℕ)
note_codec = record {
  size = 26;
  fields = note_fields;
  good = good_note;
  read = field_string;
  size_right = note-size;
  read_back = note-read;
  bytes_back = note-back;
  fits-back = note-fits;
}

-- ---- the header

pub length-header : (s : State) → for_all stored_fits (header_fields s) ≡ true → length (record_bytes (header_fields s)) ≡ 16
unfolding header_fields stored_size sum
length-header s e = length-record (header_fields s) e

pub header-filler : (s : State) → for_all stored_fits (header_fields s) ≡ true → all_zero (bytes_at (record_bytes (header_fields s)) 6 10) ≡ true
unfolding header_fields stored_size offset sum
header-filler s e = field-zero (own-record (header_fields s) e) 3 (lit< tt) 10 refl

-- a header is that of a state with as many users, posts and pending registrations as it says
pub header-back : (s : State) (r : List ℕ) → is_record 16 r ≡ true → all_zero (bytes_at r 6 10) ≡ true → length s.users ≡ number_in r 0 2
    → length s.posts ≡ number_in r 2 2 → length s.pending ≡ number_in r 4 2 → record_bytes (header_fields s) ≡ r
unfolding header_fields field_from fields_from holds_field holds_fields stored_size sum
header-back s r g z n m k =
    ap record_bytes (λ i. unsigned 2 (n i) ∷ unsigned 2 (m i) ∷ unsigned 2 (k i) ∷ filler 10 ∷ [])
    ∙ (record-back 16 (header_fields s) refl r (and_both g (and_both z refl))).0
