-- A field of an encoded state written, a record added and one removed: each is the encoding of the changed state. First in any table.
use Prim.Native.Nat.{ℕ, suc, ◌+◌, ◌-◌, ◌*◌, ◌^◌, ◌≤◌, ◌<◌}
use native.Mathlib.Nat.{add-zero, mul-le-mul_right}
use native.Mathlib.Omega.{arith}
use mathlib.Core.Path.{◌≡◌, refl, sym, ap, ◌∙◌}
use mathlib.Core.List.{List, [], ◌∷◌, ◌++◌, map, flatten, sum}
use mathlib.Core.Bool.{true}
use lib.ListN.{length, take, drop, get_or, set, replicate, length-append, length-set, length-drop}
use lib.Seq.{take_at, drop_at, length-take-le, get_or-set_same, lt-length-set}
use lib.Dec.{lit<}
use borrow.Author.Tests.{lt-ltb}
use Rattle.layout.specs.Bytes.{bytes_at, patch, offset}
use Rattle.layout.specs.Numbers.{to_le_bytes}
use Rattle.layout.specs.StringFields.{is_string, string_field}
use Rattle.layout.specs.Tables.{without_record}
use Rattle.layout.proofs.ByteLaws.{take-bytes_at, patch-bytes_at}
use Rattle.layout.proofs.ConcatenationLaws.{flatten_append, length-flatten, sum-replicate, patch-record}
use Rattle.layout.proofs.StringFieldLaws.{empty-field}
use Rattle.layout.proofs.TableLaws.{record_parts, without_table}
use Rattle.reader.specs.Fields.{name_limit, info_limit, title_limit, text_limit, note_limit}
use Rattle.model.specs.Lists.{for_all}
use Rattle.model.specs.State.{User, Post, Pending, State, user_limit, post_limit, pending_limit, note_count, no_user, no_post, no_pending, user_at, post_at, pending_at}
use Rattle.model.specs.Board.{board_size, StoredField, unsigned, string, filler, stored_bytes, record_bytes, header_fields, user_fields, post_fields, pending_fields, note_fields, BoardRecords, join_records, records_of, encode}
use Rattle.model.specs.StateUpdates.{with_users, with_posts, with_pending, with_notes, with_password, with_friends, with_requests, with_name, with_info, with_picture, with_visibility, with_title, with_text}
use Rattle.model.proofs.StateRules.{stored_fits, table_fits}
use Rattle.model.proofs.FieldUpdates.{with_user_number, with_post_number, with_owner, with_pending_number, with_pending_note}
use Rattle.model.proofs.ListLaws.{all_at, all_set}
use Rattle.model.proofs.RecordLaws.{RecordCodec, length_codec, stored_size, HoldsRecord, field-written}
use Rattle.model.proofs.TableRecordLaws.{record_fits, codec_fits, codec_table, fits_count, fits_records, fits_by, fits-set, fits_add, fits_remove, set-used, remove_used, sizes-table, table-wider, table_added}
use Rattle.model.proofs.RecordTheorems.{zero-user, zero-post, zero-pending, user_codec, post_codec, pending_codec, note_codec}
use Rattle.model.proofs.CutLaws.{RightSizes, regions, region_sizes, length_join, bytes_at_region, region_written}
use Rattle.model.proofs.BoardTheorems.{Encodes, FittingState, header-fits, right_sizes, length-encode}
use Rattle.model.proofs.ReadingLaws.{HoldsTable, table-sizes, record-held, users-held, posts-held, pending-held, notes-held}

-- ---- any table

module _ {A : Type 0} {b : List ℕ} {start limit : ℕ} {c : RecordCodec A} {xs : List A}
    (t : HoldsTable b start limit c xs) (room : start + limit * c.size ≤ length b) where
  -- field k of record i, which makes it the record of y
  pub table-field-written : (i : ℕ) (d : A) → i < length xs → (k : ℕ) → k < length (c.fields (get_or xs i d)) → (f : StoredField) → stored_fits f ≡ true
      → stored_size f ≡ get_or (map stored_size (c.fields (get_or xs i d))) k 0 → (y : A) → c.fields y ≡ set (c.fields (get_or xs i d)) k f
      → for_all stored_fits (c.fields y) ≡ true
      → patch b (start + i * c.size + offset (map stored_size (c.fields (get_or xs i d))) k) (stored_bytes f)
      ≡ patch b start (flatten (codec_table c limit (set xs i y)))
  table-field-written i d h k l f e z y q g =
      let m = fits_count c limit xs t.fits in
      let p = record_parts c.size limit i (omega arith) in
      field-written (record-held t i d h) k l f e z (omega arith)
      ∙ ap (λ (fs : List StoredField). patch b (start + i * c.size) (record_bytes fs)) (sym q)
      ∙ patch-record b start c.size limit (codec_table c limit xs) t.bytes (table-sizes t) i (omega arith)
      (record_bytes (c.fields y)) room (length_codec c y g)
      ∙ ap (λ (rs : List (List ℕ)). patch b start (flatten rs)) (set-used c limit xs i y h)

  -- the first n records, among which are all that are used
  module _ (n : ℕ) (u : length xs ≤ n) (v : n ≤ limit) where
    first : List A → List ℕ
    first ys = flatten (codec_table c n ys)

    behind : List ℕ
    behind = flatten (replicate (limit - n) (replicate c.size 0))

    wider : (ys : List A) → length ys ≤ n → flatten (codec_table c limit ys) ≡ first ys ++ behind
    unfolding first behind
    wider ys l =
        ap flatten (table-wider c limit ys n l v)
        ∙ flatten_append (codec_table c n ys) (replicate (limit - n) (replicate c.size 0))

    length_first : (ys : List A) → codec_fits c n ys ≡ true → length (first ys) ≡ n * c.size
    unfolding first
    length_first ys e =
        length-flatten (codec_table c n ys) ∙ ap (sum ◌+◌ 0) (sizes-table c n ys e) ∙ sum-replicate n c.size

    first_fits : codec_fits c n xs ≡ true
    first_fits = fits_by c n xs u (fits_records c limit xs t.fits)

    within : n * c.size ≤ limit * c.size
    within = mul-le-mul_right c.size v

    first_bytes : bytes_at b start (n * c.size) ≡ first xs
    first_bytes =
        sym (take-bytes_at b start (n * c.size) (limit * c.size) within)
        ∙ ap (take (n * c.size)) (t.bytes ∙ wider xs u) ∙ take_at (first xs) behind (n * c.size) (length_first xs first_fits)

    -- written over, they are written with those behind, which are zero
    first_written : (ys : List A) → codec_fits c n ys ≡ true
        → patch b start (first ys) ≡ patch b start (flatten (codec_table c limit ys))
    unfolding patch
    first_written ys e =
        let ly = length_first ys e in
        let lx = length_first xs first_fits in
        let l = within in
        let m : length (first xs) ≡ 0 + length (first ys) = omega arith in
        ap (λ (at : ℕ). patch b at (first ys)) (sym (add-zero start))
        ∙ sym (patch-bytes_at b start (limit * c.size) 0 (first ys) room (omega arith))
        ∙ ap (λ (x : List ℕ). patch b start (patch x 0 (first ys))) (t.bytes ∙ wider xs u)
        ∙ ap (λ (x : List ℕ). patch b start (first ys ++ x)) (drop_at (first xs) behind (0 + length (first ys)) m)
        ∙ ap (patch b start) (sym (wider ys (fits_count c n ys e)))

    pub table-record-removed : (i : ℕ) → i < length xs
        → without_record b start c.size n i ≡ patch b start (flatten (codec_table c limit (take i xs ++ drop (suc i) xs)))
    unfolding first
    table-record-removed i h =
        let l = within in
        without_table b start c.size n (codec_table c n xs) first_bytes (sizes-table c n xs first_fits)
        i (omega arith) (omega arith)
        ∙ ap (λ (rs : List (List ℕ)). patch b start (flatten rs)) (remove_used c n xs i h u)
        ∙ first_written (take i xs ++ drop (suc i) xs) (fits_remove c n xs first_fits i)

-- ---- encoded states

-- one list replaced by another that fits
module _ (s : State) (f : FittingState s) where
  pub fits-users : (us : List User) → table_fits user_limit user_fields us ≡ true → FittingState (with_users s us)
  fits-users us e = record { users = e; posts = f.posts; pending = f.pending; notes = f.notes; full = f.full }

  pub fits-posts : (ps : List Post) → table_fits post_limit post_fields ps ≡ true → FittingState (with_posts s ps)
  fits-posts ps e = record { users = f.users; posts = e; pending = f.pending; notes = f.notes; full = f.full }

  pub fits-pending : (ps : List Pending) → table_fits pending_limit pending_fields ps ≡ true → FittingState (with_pending s ps)
  fits-pending ps e = record { users = f.users; posts = f.posts; pending = e; notes = f.notes; full = f.full }

  pub fits-notes : (ns : List (List ℕ)) → table_fits note_count note_fields ns ≡ true → length ns ≡ note_count → FittingState (with_notes s ns)
  fits-notes ns e l = record { users = f.users; posts = f.posts; pending = f.pending; notes = e; full = l }

-- a table of b; written over by that of a list as long, b encodes `put` of that list
record StateTable {A : Type 0} (b : List ℕ) (start limit : ℕ) (c : RecordCodec A) (xs : List A) (put : List A → State) : Type 0 where
  table : HoldsTable b start limit c xs
  room : start + limit * c.size ≤ length b
  replaced : (ys : List A) → codec_fits c limit ys ≡ true → length ys ≡ length xs
      → Encodes (patch b start (flatten (codec_table c limit ys))) (put ys)

module _ {A : Type 0} {b : List ℕ} {start limit : ℕ} {c : RecordCodec A} {xs : List A}
    {put : List A → State} (t : StateTable b start limit c xs put) (i : ℕ) (d : A) (h : i < length xs) (k : ℕ)
    (l : k < length (c.fields (get_or xs i d))) (y : A) where
  write-field : (f : StoredField) → stored_fits f ≡ true → stored_size f ≡ get_or (map stored_size (c.fields (get_or xs i d))) k 0
      → c.fields y ≡ set (c.fields (get_or xs i d)) k f
      → Encodes (patch b (start + i * c.size + offset (map stored_size (c.fields (get_or xs i d))) k) (stored_bytes f)) (put (set xs i y))
  write-field f e z q =
      let g : for_all stored_fits (c.fields y) ≡ true =
      ap (for_all stored_fits) q ∙ all_set stored_fits (c.fields (get_or xs i d)) k f (record-held t.table i d h).fits e
      in
      let w = t.replaced (set xs i y) (fits-set c limit xs t.table.fits i y g) (length-set xs i y) in
      record { bytes = table-field-written t.table t.room i d h k l f e z y q g ∙ w.bytes; fits = w.fits }

  write_number : (width x : ℕ) → x < 256 ^ width → width ≡ get_or (map stored_size (c.fields (get_or xs i d))) k 0
      → c.fields y ≡ set (c.fields (get_or xs i d)) k (unsigned width x)
      → Encodes (patch b (start + i * c.size + offset (map stored_size (c.fields (get_or xs i d))) k) (to_le_bytes width x)) (put (set xs i y))
  unfolding stored_bytes stored_fits stored_size
  write_number width x m z q = write-field (unsigned width x) (lt-ltb x (256 ^ width) m) z q

  write-string : (bound : ℕ) (x : List ℕ) → is_string bound x ≡ true → 2 + bound ≡ get_or (map stored_size (c.fields (get_or xs i d))) k 0
      → c.fields y ≡ set (c.fields (get_or xs i d)) k (string bound x)
      → Encodes (patch b (start + i * c.size + offset (map stored_size (c.fields (get_or xs i d))) k) (string_field bound x)) (put (set xs i y))
  unfolding stored_bytes stored_fits stored_size
  write-string bound x e z q = write-field (string bound x) e z q

-- the header is the same where the counts are
same-header : (s t : State) → length s.users ≡ length t.users → length s.posts ≡ length t.posts
    → length s.pending ≡ length t.pending → record_bytes (header_fields s) ≡ record_bytes (header_fields t)
unfolding header_fields
same-header s t n m k = λ i. record_bytes (unsigned 2 (n i) ∷ unsigned 2 (m i) ∷ unsigned 2 (k i) ∷ filler 10 ∷ [])

-- the header of s with the tables of t
abbrev with_header_of : State → State → BoardRecords
with_header_of s t = record {
  header = (records_of s).header;
  users = (records_of t).users;
  posts = (records_of t).posts;
  pending = (records_of t).pending;
  notes = (records_of t).notes;
}

module _ (s t : State) (f : FittingState s) (g : FittingState t) where
  header-sizes : RightSizes (with_header_of s t)
  header-sizes = record {
    header = (right_sizes s f).header;
    users = (right_sizes t g).users;
    posts = (right_sizes t g).posts;
    pending = (right_sizes t g).pending;
    notes = (right_sizes t g).notes;
  }

  -- count k written
  count-written : (k n : ℕ) → k < length (header_fields s) → 2 ≡ get_or (map stored_size (header_fields s)) k 0
      → header_fields t ≡ set (header_fields s) k (unsigned 2 n)
      → patch (join_records (with_header_of s t)) (0 + offset (map stored_size (header_fields s)) k) (to_le_bytes 2 n) ≡ encode t
  unfolding encode records_of header_fields stored_bytes stored_size offset sum
  count-written k n h y c =
      let b : List ℕ = join_records (with_header_of s t) in
      let held : HoldsRecord b 0 16 (header_fields s) =
      record { bytes = bytes_at_region (with_header_of s t) header-sizes 0 (lit< tt); fits = header-fits s f; size = refl }
      in
      let l = length_join (with_header_of s t) header-sizes in
      field-written held k h (unsigned 2 n) fit y (omega arith)
      ∙ ap (λ (fs : List StoredField). patch b 0 (record_bytes fs)) (sym c)
      ∙ region_written (with_header_of s t) (records_of t) header-sizes (right_sizes t g) 0 (lit< tt) refl
    where
      fit : stored_fits (unsigned 2 n) ≡ true
      fit =
          ap stored_fits (sym (get_or-set_same (header_fields s) k (unsigned 2 n) (filler 0) h))
          ∙ all_at stored_fits (set (header_fields s) k (unsigned 2 n)) k (filler 0) (ap (for_all stored_fits) (sym c) ∙ header-fits t g)
          (lt-length-set (header_fields s) k (unsigned 2 n) h)

module _ {b : List ℕ} {s : State} (w : Encodes b s) where
  -- ---- the tables

  length-board : length b ≡ board_size
  length-board = ap length w.bytes ∙ length-encode s w.fits

  -- region k written over by that of a state with the same counts, where the other tables are the same
  write_region : (t : State) → FittingState t → length s.users ≡ length t.users → length s.posts ≡ length t.posts
      → length s.pending ≡ length t.pending → (k : ℕ) → k < 5
      → set (regions (records_of s)) k (get_or (regions (records_of t)) k []) ≡ ((records_of s).header ∷ drop 1 (regions (records_of t)))
      → Encodes (patch b (offset region_sizes k) (get_or (regions (records_of t)) k [])) t
  unfolding encode records_of
  write_region t g n m l k h e = record {
    bytes = ap (λ (c : List ℕ). patch c (offset region_sizes k) (get_or (regions (records_of t)) k [])) w.bytes
        ∙ region_written (records_of s) (records_of t) (right_sizes s w.fits) (right_sizes t g) k h
        (e ∙ ap (λ (x : List ℕ). x ∷ drop 1 (regions (records_of t))) (same-header s t n m l));
    fits = g;
  }

  users-table : StateTable b 16 user_limit user_codec s.users (with_users s)
  unfolding records_of offset sum
  users-table = record {
    table = users-held w;
    room = let l = length-board in omega arith;
    replaced = λ us e l. write_region (with_users s us) (fits-users s w.fits us e) (sym l) refl refl 1 (lit< tt) refl;
  }

  posts-table : StateTable b 3344 post_limit post_codec s.posts (with_posts s)
  unfolding records_of offset sum
  posts-table = record {
    table = posts-held w;
    room = let l = length-board in omega arith;
    replaced = λ ps e l. write_region (with_posts s ps) (fits-posts s w.fits ps e) refl (sym l) refl 2 (lit< tt) refl;
  }

  pending-table : StateTable b 23312 pending_limit pending_codec s.pending (with_pending s)
  unfolding records_of offset sum
  pending-table = record {
    table = pending-held w;
    room = let l = length-board in omega arith;
    replaced = λ ps e l. write_region (with_pending s ps) (fits-pending s w.fits ps e) refl refl (sym l) 3 (lit< tt) refl;
  }

  notes-table : StateTable b 23824 note_count note_codec s.notes (with_notes s)
  unfolding records_of offset sum
  notes-table = record {
    table = notes-held w;
    room = let l = length-board in omega arith;
    replaced = λ ns e l. write_region (with_notes s ns) (fits-notes s w.fits ns e (l ∙ w.fits.full)) refl refl refl 4 (lit< tt) refl;
  }

  -- ---- a user

  module _ (i : ℕ) (h : i < length s.users) where
    pub write-user_number : (x : ℕ) → x < 2 ^ 32
        → Encodes (patch b (16 + i * 104) (to_le_bytes 4 x)) (with_users s (set s.users i (with_user_number (user_at s i) x)))
    unfolding user_at user_fields stored_size offset sum
    write-user_number x l = rw add-zero at (write_number users-table i no_user h 0 (lit< tt) (with_user_number (user_at s i) x) 4 x l refl refl)

    pub write-user-password : (x : ℕ) → x < 2 ^ 64
        → Encodes (patch b (16 + i * 104 + 4) (to_le_bytes 8 x)) (with_users s (set s.users i (with_password (user_at s i) x)))
    unfolding user_at user_fields stored_size offset sum
    write-user-password x l = write_number users-table i no_user h 1 (lit< tt) (with_password (user_at s i) x) 8 x l refl refl

    pub write-user-friends : (x : ℕ) → x < 2 ^ 32
        → Encodes (patch b (16 + i * 104 + 12) (to_le_bytes 4 x)) (with_users s (set s.users i (with_friends (user_at s i) x)))
    unfolding user_at user_fields stored_size offset sum
    write-user-friends x l = write_number users-table i no_user h 2 (lit< tt) (with_friends (user_at s i) x) 4 x l refl refl

    pub write-user-requests : (x : ℕ) → x < 2 ^ 32
        → Encodes (patch b (16 + i * 104 + 16) (to_le_bytes 4 x)) (with_users s (set s.users i (with_requests (user_at s i) x)))
    unfolding user_at user_fields stored_size offset sum
    write-user-requests x l = write_number users-table i no_user h 3 (lit< tt) (with_requests (user_at s i) x) 4 x l refl refl

    pub write-user-name : (x : List ℕ) → is_string name_limit x ≡ true
        → Encodes (patch b (16 + i * 104 + 20) (string_field name_limit x)) (with_users s (set s.users i (with_name (user_at s i) x)))
    unfolding user_at user_fields stored_size offset sum
    write-user-name x e = write-string users-table i no_user h 4 (lit< tt) (with_name (user_at s i) x) name_limit x e refl refl

    pub write-user-info : (x : List ℕ) → is_string info_limit x ≡ true
        → Encodes (patch b (16 + i * 104 + 46) (string_field info_limit x)) (with_users s (set s.users i (with_info (user_at s i) x)))
    unfolding user_at user_fields stored_size offset sum
    write-user-info x e = write-string users-table i no_user h 5 (lit< tt) (with_info (user_at s i) x) info_limit x e refl refl

  -- ---- a post

  module _ (i : ℕ) (h : i < length s.posts) where
    pub write-post_number : (x : ℕ) → x < 2 ^ 32
        → Encodes (patch b (3344 + i * 312) (to_le_bytes 4 x)) (with_posts s (set s.posts i (with_post_number (post_at s i) x)))
    unfolding post_at post_fields stored_size offset sum
    write-post_number x l = rw add-zero at (write_number posts-table i no_post h 0 (lit< tt) (with_post_number (post_at s i) x) 4 x l refl refl)

    pub write-post-picture : (x : ℕ) → x < 2 ^ 32
        → Encodes (patch b (3344 + i * 312 + 4) (to_le_bytes 4 x)) (with_posts s (set s.posts i (with_picture (post_at s i) x)))
    unfolding post_at post_fields stored_size offset sum
    write-post-picture x l = write_number posts-table i no_post h 1 (lit< tt) (with_picture (post_at s i) x) 4 x l refl refl

    pub write-post-owner : (x : ℕ) → x < 2 ^ 16
        → Encodes (patch b (3344 + i * 312 + 8) (to_le_bytes 2 x)) (with_posts s (set s.posts i (with_owner (post_at s i) x)))
    unfolding post_at post_fields stored_size offset sum
    write-post-owner x l = write_number posts-table i no_post h 2 (lit< tt) (with_owner (post_at s i) x) 2 x l refl refl

    pub write-post-visibility : (x : ℕ) → x < 2 ^ 16
        → Encodes (patch b (3344 + i * 312 + 10) (to_le_bytes 2 x)) (with_posts s (set s.posts i (with_visibility (post_at s i) x)))
    unfolding post_at post_fields stored_size offset sum
    write-post-visibility x l = write_number posts-table i no_post h 3 (lit< tt) (with_visibility (post_at s i) x) 2 x l refl refl

    pub write-post-title : (x : List ℕ) → is_string title_limit x ≡ true
        → Encodes (patch b (3344 + i * 312 + 12) (string_field title_limit x)) (with_posts s (set s.posts i (with_title (post_at s i) x)))
    unfolding post_at post_fields stored_size offset sum
    write-post-title x e = write-string posts-table i no_post h 4 (lit< tt) (with_title (post_at s i) x) title_limit x e refl refl

    pub write-post_text : (x : List ℕ) → is_string text_limit x ≡ true
        → Encodes (patch b (3344 + i * 312 + 54) (string_field text_limit x)) (with_posts s (set s.posts i (with_text (post_at s i) x)))
    unfolding post_at post_fields stored_size offset sum
    write-post_text x e = write-string posts-table i no_post h 5 (lit< tt) (with_text (post_at s i) x) text_limit x e refl refl

  -- ---- a pending registration

  module _ (i : ℕ) (h : i < length s.pending) where
    pub write-pending_number : (x : ℕ) → x < 2 ^ 32
        → Encodes (patch b (23312 + i * 32) (to_le_bytes 4 x)) (with_pending s (set s.pending i (with_pending_number (pending_at s i) x)))
    unfolding pending_at pending_fields stored_size offset sum
    write-pending_number x l =
        rw add-zero at (write_number pending-table i no_pending h 0 (lit< tt) (with_pending_number (pending_at s i) x) 4 x l refl refl)

    pub write-pending-note : (x : List ℕ) → is_string note_limit x ≡ true
        → Encodes (patch b (23312 + i * 32 + 4) (string_field note_limit x))
        (with_pending s (set s.pending i (with_pending_note (pending_at s i) x)))
    unfolding pending_at pending_fields stored_size offset sum
    write-pending-note x e = write-string pending-table i no_pending h 1 (lit< tt) (with_pending_note (pending_at s i) x) note_limit x e refl refl

  -- ---- a note

  module _ (k : ℕ) (h : k < note_count) where
    pub write-note : (x : List ℕ) → is_string note_limit x ≡ true
        → Encodes (patch b (23824 + k * 26) (string_field note_limit x)) (with_notes s (set s.notes k x))
    unfolding note_fields stored_size offset sum
    write-note x e =
        let l = w.fits.full in
        let there : k < length s.notes = omega arith in
        rw add-zero at (write-string notes-table k [] there 0 (lit< tt) x note_limit x e refl refl)

    pub clear_note : Encodes (patch b (23824 + k * 26) (replicate 26 0)) (with_notes s (set s.notes k []))
    unfolding is_string
    clear_note = rw (empty-field note_limit) at (write-note [] refl)

  -- ---- a record added by its count: an unused one has the bytes of one whose fields are zero

  -- in region j, with count k
  add_record : {A : Type 0} (c : RecordCodec A) (limit : ℕ) (xs : List A) (put : List A → State)
      → ((ys : List A) → codec_fits c limit ys ≡ true → FittingState (put ys)) → (j k : ℕ)
      → flatten (set (regions (records_of s)) j (flatten (codec_table c limit xs))) ≡ encode s
      → ((ys : List A) → flatten (set (regions (records_of s)) j (flatten (codec_table c limit ys)))
      ≡ join_records (with_header_of s (put ys)))
      → ((ys : List A) → header_fields (put ys) ≡ set (header_fields s) k (unsigned 2 (length ys)))
      → k < length (header_fields s) → 2 ≡ get_or (map stored_size (header_fields s)) k 0
      → codec_fits c limit xs ≡ true → (x : A) → record_fits c x ≡ true
      → record_bytes (c.fields x) ≡ replicate c.size 0 → length xs < limit
      → Encodes (patch b (0 + offset (map stored_size (header_fields s)) k) (to_le_bytes 2 (length xs + 1))) (put (xs ++ (x ∷ [])))
  add_record c limit xs put fit j k own new count h y f x e z l =
      let ys : List _ = xs ++ (x ∷ []) in
      let g : FittingState (put ys) = fit ys (fits_add c limit xs f x l e) in
      let o : ℕ = 0 + offset (map stored_size (header_fields s)) k in
      let n : List ℕ = to_le_bytes 2 (length xs + 1) in
      record {
        bytes = ap (λ (t : List ℕ). patch t o n) (w.bytes ∙ sym own)
            ∙ ap (λ (rs : List (List ℕ)). patch (flatten (set (regions (records_of s)) j (flatten rs))) o n) (table_added c limit xs x z l)
            ∙ ap (λ (t : List ℕ). patch t o n) (new ys)
            ∙ count-written s (put ys) w.fits g k (length xs + 1) h y
            (count ys ∙ ap (λ (m : ℕ). set (header_fields s) k (unsigned 2 m)) (length-append xs (x ∷ [])));
        fits = g;
      }

  pub add_user_lem : length s.users < user_limit → Encodes (patch b 0 (to_le_bytes 2 (length s.users + 1))) (with_users s (s.users ++ (no_user ∷ [])))
  unfolding encode join_records records_of header_fields user_fields for_all stored_fits is_string stored_size offset sum
  add_user_lem h =
      add_record user_codec user_limit s.users (with_users s) (fits-users s w.fits) 1 0 refl (λ xs. refl) (λ xs. refl) (lit< tt) refl
      w.fits.users no_user refl zero-user h

  pub add_post : length s.posts < post_limit → Encodes (patch b 2 (to_le_bytes 2 (length s.posts + 1))) (with_posts s (s.posts ++ (no_post ∷ [])))
  unfolding encode join_records records_of header_fields post_fields for_all stored_fits is_string stored_size offset sum
  add_post h =
      add_record post_codec post_limit s.posts (with_posts s) (fits-posts s w.fits) 2 1 refl (λ xs. refl) (λ xs. refl) (lit< tt) refl
      w.fits.posts no_post refl zero-post h

  pub add_pending : length s.pending < pending_limit
      → Encodes (patch b 4 (to_le_bytes 2 (length s.pending + 1))) (with_pending s (s.pending ++ (no_pending ∷ [])))
  unfolding encode join_records records_of header_fields pending_fields for_all stored_fits is_string stored_size offset sum
  add_pending h =
      add_record pending_codec pending_limit s.pending (with_pending s) (fits-pending s w.fits) 3 2 refl (λ xs. refl) (λ xs. refl) (lit< tt) refl
      w.fits.pending no_pending refl zero-pending h

  -- ---- a pending registration removed from the first n: the later ones moved up, and the count written

  pub remove_pending : (n i : ℕ) → length s.pending ≤ n → n ≤ pending_limit → i < length s.pending
      → Encodes (patch (without_record b 23312 32 n i) 4 (to_le_bytes 2 (length s.pending - 1)))
      (with_pending s (take i s.pending ++ drop (suc i) s.pending))
  unfolding encode records_of header_fields stored_size offset sum
  remove_pending n i u v h =
      let ps : List Pending = take i s.pending ++ drop (suc i) s.pending in
      let t : State = with_pending s ps in
      let g : FittingState t = fits-pending s w.fits ps (fits_remove pending_codec pending_limit s.pending w.fits.pending i) in
      let lt = length-take-le i s.pending (omega arith) in
      let ld = length-drop (suc i) s.pending in
      let la = length-append (take i s.pending) (drop (suc i) s.pending) in
      let l : length ps ≡ length s.pending - 1 = omega arith in
      record {
        bytes = ap (λ (c : List ℕ). patch c 4 (to_le_bytes 2 (length s.pending - 1)))
            (table-record-removed pending-table.table pending-table.room n u v i h
            ∙ ap (λ (c : List ℕ). patch c 23312 (flatten (records_of t).pending)) w.bytes
            ∙ region_written (records_of s) (with_header_of s t) (right_sizes s w.fits) (header-sizes s t w.fits g) 3 (lit< tt) refl)
            ∙ count-written s t w.fits g 2 (length s.pending - 1) (lit< tt) refl (ap (λ (m : ℕ). set (header_fields s) 2 (unsigned 2 m)) l);
        fits = g;
      }
