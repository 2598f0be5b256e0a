-- What stands at the places of a board that encodes a state: first in any table, then in the header and the four tables at their
-- offsets.
use Prim.Native.Nat.{ℕ, ◌+◌, ◌*◌, ◌≤◌, ◌<◌}
use native.Mathlib.Nat.{add-zero}
use native.Mathlib.Omega.{arith}
use mathlib.Core.Path.{◌≡◌, refl, sym, ap, ◌∙◌}
use mathlib.Core.List.{List, [], map, flatten, sum, map-map}
use mathlib.Core.Bool.{true}
use lib.ListN.{length, get_or, replicate}
use lib.Seq.{get_or-drop}
use lib.Dec.{lit<, lit≤}
use Rattle.layout.specs.Bytes.{bytes_at, offset}
use Rattle.layout.specs.StringFields.{string_field, field_string}
use Rattle.layout.specs.Tables.{record_number, record_numbers}
use Rattle.layout.proofs.ConcatenationLaws.{bytes_at-record}
use Rattle.layout.proofs.TableLaws.{numbers-flatten}
use Rattle.reader.specs.Fields.{name_limit, info_limit, title_limit, text_limit, note_limit, number_in}
use Rattle.model.specs.Lists.{for_all}
use Rattle.model.specs.State.{User, Post, Pending, State, user_limit, post_limit, pending_limit, note_count, user_numbers, post_numbers, pending_numbers, no_user, no_post, no_pending, user_at, post_at, pending_at, notes_to, note_at}
use Rattle.model.specs.Board.{StoredField, unsigned, string, filler, stored_bytes, record_bytes, string_at, header_fields, user_fields, post_fields, pending_fields, note_fields, records_of, encode}
use Rattle.model.proofs.StateRules.{stored_fits}
use Rattle.model.proofs.ListLaws.{all_at, map_agree}
use Rattle.model.proofs.RecordLaws.{RecordCodec, stored_size, HoldsRecord, own-record, field-bytes, field_number, field-string}
use Rattle.model.proofs.RecordTheorems.{user_codec, post_codec, pending_codec, note_codec}
use Rattle.model.proofs.TableRecordLaws.{record_fits, codec_fits, codec_table, fits_count, fits_records, take-used, record_at, sizes-table}
use Rattle.model.proofs.CutLaws.{regions, region_sizes, bytes_at_region}
use Rattle.model.proofs.BoardTheorems.{Encodes, header-fits, right_sizes}

-- the note to slot i from slot j is number 32 × i + j
pub note_number : (s : State) (i j : ℕ) → note_at s i j ≡ get_or s.notes (user_limit * i + j) []
unfolding note_at notes_to
note_number s i j = get_or-drop (user_limit * i) s.notes j []

-- ---- any table

-- the bytes of b from place `start` on are a table with room for `limit` records, the first ones those of xs
pub record HoldsTable {A : Type 0} (b : List ℕ) (start limit : ℕ) (c : RecordCodec A) (xs : List A) : Type 0 where
  pub bytes : bytes_at b start (limit * c.size) ≡ flatten (codec_table c limit xs)
  pub fits : codec_fits c limit xs ≡ true

module _ {A : Type 0} {b : List ℕ} {start limit : ℕ} {c : RecordCodec A} {xs : List A}
    (t : HoldsTable b start limit c xs) where
  pub table-sizes : map length (codec_table c limit xs) ≡ replicate limit c.size
  table-sizes = sizes-table c limit xs t.fits

  -- record i, and its field k
  module _ (i : ℕ) (d : A) (h : i < length xs) where
    record-fits : for_all stored_fits (c.fields (get_or xs i d)) ≡ true
    record-fits = all_at (record_fits c) xs i d (fits_records c limit xs t.fits) h

    pub table-record : bytes_at b (start + i * c.size) c.size ≡ record_bytes (c.fields (get_or xs i d))
    table-record =
        let m = fits_count c limit xs t.fits in
        bytes_at-record b start c.size limit (codec_table c limit xs) t.bytes table-sizes i (omega arith)
        ∙ record_at c limit xs i d h

    pub record-held : HoldsRecord b (start + i * c.size) c.size (c.fields (get_or xs i d))
    record-held = record {
      bytes = table-record;
      fits = record-fits;
      size = c.size_right (get_or xs i d);
    }

    module _ (k : ℕ) (l : k < length (c.fields (get_or xs i d))) where
      pub table-field : {f : StoredField} → get_or (c.fields (get_or xs i d)) k (filler 0) ≡ f
          → bytes_at b (start + i * c.size + offset (map stored_size (c.fields (get_or xs i d))) k) (stored_size f) ≡ stored_bytes f
      table-field q = field-bytes record-held k l q

      pub table_number : (width n : ℕ) → get_or (c.fields (get_or xs i d)) k (filler 0) ≡ unsigned width n
          → number_in b (start + i * c.size + offset (map stored_size (c.fields (get_or xs i d))) k) width ≡ n
      table_number width n q = field_number record-held k l width n q

      pub table-string : (bound : ℕ) (s : List ℕ) → bound < 65536 → get_or (c.fields (get_or xs i d)) k (filler 0) ≡ string bound s
          → string_at b (start + i * c.size + offset (map stored_size (c.fields (get_or xs i d))) k) bound ≡ s
      table-string bound s m q = field-string record-held k l bound s m q

  -- the numbers of the records, where they are the first fields
  pub table-numbers : (number : A → ℕ) → ((x : A) → 0 < length (c.fields x)) → ((x : A) → get_or (c.fields x) 0 (filler 0) ≡ unsigned 4 (number x))
      → 4 ≤ c.size → record_numbers b start c.size (length xs) ≡ map number xs
  unfolding record_number bytes_at offset sum
  table-numbers number some first l =
      numbers-flatten b start c.size limit (codec_table c limit xs) l t.bytes table-sizes
      (length xs) (fits_count c limit xs t.fits)
      ∙ ap (map record_number) (take-used c limit xs) ∙ map-map record_number (λ x. record_bytes (c.fields x)) xs
      ∙ map_agree (record_fits c) (λ x. record_number (record_bytes (c.fields x))) number
      (λ x e. field_number (own-record (c.fields x) e) 0 (some x) 4 (number x) (first x)) xs (fits_records c limit xs t.fits)

-- ---- the regions of a board that encodes s

module _ {b : List ℕ} {s : State} (w : Encodes b s) where
  region_held : (k : ℕ) → k < 5 → bytes_at b (offset region_sizes k) (get_or region_sizes k 0) ≡ get_or (regions (records_of s)) k []
  unfolding encode
  region_held k h =
      ap (λ (x : List ℕ). bytes_at x (offset region_sizes k) (get_or region_sizes k 0)) w.bytes
      ∙ bytes_at_region (records_of s) (right_sizes s w.fits) k h

  pub header-held : HoldsRecord b 0 16 (header_fields s)
  unfolding records_of header_fields stored_size offset sum
  header-held = record { bytes = region_held 0 (lit< tt); fits = header-fits s w.fits; size = refl }

  pub users-held : HoldsTable b 16 user_limit user_codec s.users
  unfolding records_of offset sum
  users-held = record { bytes = region_held 1 (lit< tt); fits = w.fits.users }

  pub posts-held : HoldsTable b 3344 post_limit post_codec s.posts
  unfolding records_of offset sum
  posts-held = record { bytes = region_held 2 (lit< tt); fits = w.fits.posts }

  pub pending-held : HoldsTable b 23312 pending_limit pending_codec s.pending
  unfolding records_of offset sum
  pending-held = record { bytes = region_held 3 (lit< tt); fits = w.fits.pending }

  pub notes-held : HoldsTable b 23824 note_count note_codec s.notes
  unfolding records_of offset sum
  notes-held = record { bytes = region_held 4 (lit< tt); fits = w.fits.notes }

  -- ---- the header

  pub read-user-count : number_in b 0 2 ≡ length s.users
  unfolding header_fields stored_size offset sum
  read-user-count = field_number header-held 0 (lit< tt) 2 (length s.users) refl

  pub read-post-count : number_in b 2 2 ≡ length s.posts
  unfolding header_fields stored_size offset sum
  read-post-count = field_number header-held 1 (lit< tt) 2 (length s.posts) refl

  pub read-pending-count : number_in b 4 2 ≡ length s.pending
  unfolding header_fields stored_size offset sum
  read-pending-count = field_number header-held 2 (lit< tt) 2 (length s.pending) refl

  -- ---- a user

  module _ (i : ℕ) (h : i < length s.users) where
    pub read-user_number : number_in b (16 + i * 104) 4 ≡ (user_at s i).number
    unfolding user_at user_fields stored_size offset sum
    read-user_number = rw add-zero at (table_number users-held i no_user h 0 (lit< tt) 4 (user_at s i).number refl)

    pub read-user-password : number_in b (16 + i * 104 + 4) 8 ≡ (user_at s i).password
    unfolding user_at user_fields stored_size offset sum
    read-user-password = table_number users-held i no_user h 1 (lit< tt) 8 (user_at s i).password refl

    pub read-user-friends : number_in b (16 + i * 104 + 12) 4 ≡ (user_at s i).friends
    unfolding user_at user_fields stored_size offset sum
    read-user-friends = table_number users-held i no_user h 2 (lit< tt) 4 (user_at s i).friends refl

    pub read-user-requests : number_in b (16 + i * 104 + 16) 4 ≡ (user_at s i).requests
    unfolding user_at user_fields stored_size offset sum
    read-user-requests = table_number users-held i no_user h 3 (lit< tt) 4 (user_at s i).requests refl

    pub read-user-name : string_at b (16 + i * 104 + 20) name_limit ≡ (user_at s i).name
    unfolding user_at user_fields stored_size offset sum
    read-user-name = table-string users-held i no_user h 4 (lit< tt) name_limit (user_at s i).name (lit< tt) refl

    pub read-user-name-field : bytes_at b (16 + i * 104 + 20) 26 ≡ string_field name_limit (user_at s i).name
    unfolding user_at user_fields stored_size stored_bytes offset sum
    read-user-name-field = table-field users-held i no_user h 4 (lit< tt) refl

    pub read-user-info : string_at b (16 + i * 104 + 46) info_limit ≡ (user_at s i).info
    unfolding user_at user_fields stored_size offset sum
    read-user-info = table-string users-held i no_user h 5 (lit< tt) info_limit (user_at s i).info (lit< tt) refl

    pub read-user-info-field : bytes_at b (16 + i * 104 + 46) 58 ≡ string_field info_limit (user_at s i).info
    unfolding user_at user_fields stored_size stored_bytes offset sum
    read-user-info-field = table-field users-held i no_user h 5 (lit< tt) refl

  -- ---- a post

  module _ (i : ℕ) (h : i < length s.posts) where
    pub read-post_number : number_in b (3344 + i * 312) 4 ≡ (post_at s i).number
    unfolding post_at post_fields stored_size offset sum
    read-post_number = rw add-zero at (table_number posts-held i no_post h 0 (lit< tt) 4 (post_at s i).number refl)

    pub read-post-picture : number_in b (3344 + i * 312 + 4) 4 ≡ (post_at s i).picture
    unfolding post_at post_fields stored_size offset sum
    read-post-picture = table_number posts-held i no_post h 1 (lit< tt) 4 (post_at s i).picture refl

    pub read-post-owner : number_in b (3344 + i * 312 + 8) 2 ≡ (post_at s i).owner
    unfolding post_at post_fields stored_size offset sum
    read-post-owner = table_number posts-held i no_post h 2 (lit< tt) 2 (post_at s i).owner refl

    pub read-post-visibility : number_in b (3344 + i * 312 + 10) 2 ≡ (post_at s i).visibility
    unfolding post_at post_fields stored_size offset sum
    read-post-visibility = table_number posts-held i no_post h 3 (lit< tt) 2 (post_at s i).visibility refl

    pub read-post-title : string_at b (3344 + i * 312 + 12) title_limit ≡ (post_at s i).title
    unfolding post_at post_fields stored_size offset sum
    read-post-title = table-string posts-held i no_post h 4 (lit< tt) title_limit (post_at s i).title (lit< tt) refl

    pub read-post-title-field : bytes_at b (3344 + i * 312 + 12) 42 ≡ string_field title_limit (post_at s i).title
    unfolding post_at post_fields stored_size stored_bytes offset sum
    read-post-title-field = table-field posts-held i no_post h 4 (lit< tt) refl

    pub read-post_text : string_at b (3344 + i * 312 + 54) text_limit ≡ (post_at s i).text
    unfolding post_at post_fields stored_size offset sum
    read-post_text = table-string posts-held i no_post h 5 (lit< tt) text_limit (post_at s i).text (lit< tt) refl

    pub read-post_text_field : bytes_at b (3344 + i * 312 + 54) 258 ≡ string_field text_limit (post_at s i).text
    unfolding post_at post_fields stored_size stored_bytes offset sum
    read-post_text_field = table-field posts-held i no_post h 5 (lit< tt) refl

  -- ---- a pending registration

  module _ (i : ℕ) (h : i < length s.pending) where
    pub read-pending_number : number_in b (23312 + i * 32) 4 ≡ (pending_at s i).number
    unfolding pending_at pending_fields stored_size offset sum
    read-pending_number = rw add-zero at (table_number pending-held i no_pending h 0 (lit< tt) 4 (pending_at s i).number refl)

    pub read-pending-note : string_at b (23312 + i * 32 + 4) note_limit ≡ (pending_at s i).note
    unfolding pending_at pending_fields stored_size offset sum
    read-pending-note = table-string pending-held i no_pending h 1 (lit< tt) note_limit (pending_at s i).note (lit< tt) refl

    pub read-pending-note-field : bytes_at b (23312 + i * 32 + 4) 26 ≡ string_field note_limit (pending_at s i).note
    unfolding pending_at pending_fields stored_size stored_bytes offset sum
    read-pending-note-field = table-field pending-held i no_pending h 1 (lit< tt) refl

  -- ---- a note

  module _ (k : ℕ) (h : k < note_count) where
    note-there : k < length s.notes
    note-there = let l = w.fits.full in omega arith

    pub read-note : field_string (bytes_at b (23824 + k * 26) 26) ≡ get_or s.notes k []
    unfolding note_fields stored_size offset sum
    read-note = rw add-zero at (table-string notes-held k [] note-there 0 (lit< tt) note_limit (get_or s.notes k []) (lit< tt) refl)

    pub read-note-field : bytes_at b (23824 + k * 26) 26 ≡ string_field note_limit (get_or s.notes k [])
    unfolding note_fields stored_size stored_bytes offset sum
    read-note-field = rw add-zero at (table-field notes-held k [] note-there 0 (lit< tt) refl)

  -- the note to slot i from slot j
  pub read-note_to : (i j : ℕ) → i < user_limit → j < user_limit
      → bytes_at b (23824 + (user_limit * i + j) * 26) 26 ≡ string_field note_limit (note_at s i j)
  read-note_to i j h l = read-note-field (user_limit * i + j) (omega arith) ∙ ap (string_field note_limit) (sym (note_number s i j))

  -- ---- the numbers that a search goes through

  pub read-user-numbers : record_numbers b 16 104 (length s.users) ≡ user_numbers s
  unfolding user_numbers user_fields
  read-user-numbers = table-numbers users-held (λ (u : User). u.number) (λ u. lit< tt) (λ u. refl) (lit≤ tt)

  pub read-post-numbers : record_numbers b 3344 312 (length s.posts) ≡ post_numbers s
  unfolding post_numbers post_fields
  read-post-numbers = table-numbers posts-held (λ (p : Post). p.number) (λ p. lit< tt) (λ p. refl) (lit≤ tt)

  pub read-pending-numbers : record_numbers b 23312 32 (length s.pending) ≡ pending_numbers s
  unfolding pending_numbers pending_fields
  read-pending-numbers = table-numbers pending-held (λ (p : Pending). p.number) (λ p. lit< tt) (λ p. refl) (lit≤ tt)
