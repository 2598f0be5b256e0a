-- For each kind that changes the board: these writes at these places are the encoding of that change.
use Prim.Native.Nat.{ℕ, ◌+◌, ◌-◌, ◌*◌, ◌^◌, ◌≤◌, ◌<◌}
use native.Mathlib.Omega.{arith}
use mathlib.Core.Path.{◌≡◌, sym, ap, ◌∙◌, subst}
use mathlib.Core.List.{List, [], ◌∷◌, ◌++◌}
use mathlib.Core.Bool.{true}
use lib.ListN.{length, get_or, set, replicate, length-append, length-set}
use lib.Seq.{get_or-append_seam, get_or-set_same, set-append_seam, set-set}
use Rattle.layout.specs.Bytes.{patch}
use Rattle.layout.specs.Numbers.{to_le_bytes}
use Rattle.layout.specs.StringFields.{is_string, string_field}
use Rattle.layout.specs.Tables.{without_record}
use Rattle.layout.specs.Bits.{set_bit, clear_bit}
use Rattle.reader.specs.Fields.{number_in, name_limit, info_limit, title_limit, text_limit, note_limit}
use Rattle.model.specs.Lists.{remove_at}
use Rattle.model.specs.State.{User, Post, Pending, State, user_limit, post_limit, pending_limit, no_user, no_post, no_pending, user_at, post_at, pending_at}
use Rattle.model.specs.StateUpdates.{with_users, with_posts, with_pending, with_password, with_friends, with_name, with_info, with_title}
use Rattle.model.specs.Lookups.{user_slot, post_place, pending_place, post_numbered}
use Rattle.model.specs.Actions.{start_sys, c_nu_req, c_user, c_post, c_friend_req, c_friend, d_friend, u_user, u_title_post, u_text_post, u_img_post, u_vis_post}
use Rattle.model.specs.Changes.{add_user, update_user, write_request, write_friend, update_post, set_note, add_request, remove_request, add_friends, remove_friends, remove_requests, accept_request, apply_change}
use Rattle.model.proofs.FieldUpdates.{with_user_number, with_post_number, with_owner, with_pending_number, with_pending_note}
use Rattle.model.proofs.RecordTheorems.{user_codec}
use Rattle.model.proofs.TableRecordLaws.{fits_count}
use Rattle.model.proofs.BoardTheorems.{Encodes}
use Rattle.model.proofs.RowInvariant.{BitWrite, set_writes, clear_writes, request-removed-length, requests-removed-length}
use Rattle.model.proofs.StoredValues.{friends_width, requests_width}
use Rattle.model.proofs.ReadingLaws.{read-user-friends, read-user-requests}
use Rattle.model.proofs.WritingLaws.{write-user_number, write-user-password, write-user-friends, write-user-requests, write-user-name, write-user-info, write-post_number, write-post-picture, write-post-owner, write-post-visibility, write-post-title, write-post_text, write-pending_number, write-pending-note, write-note, clear_note, add_user_lem, add_post, add_pending, remove_pending}

-- ---- a record added at the end of its table, field by field

-- a field of the last record written: the record is the last one still
last_field : {A : Type 0} {b : List ℕ} (put : List A → State) (xs : List A) (x d : A) (f : A → A)
    → Encodes b (put (set (xs ++ (x ∷ [])) (length xs) (f (get_or (xs ++ (x ∷ [])) (length xs) d)))) → Encodes b (put (xs ++ (f x ∷ [])))
last_field {b = b} put xs x d f w =
    subst (λ ys. Encodes b (put ys))
    (ap (λ y. set (xs ++ (x ∷ [])) (length xs) (f y)) (get_or-append_seam xs x [] d) ∙ set-append_seam xs x [] (f x)) w

-- a further field of the user in slot i written
slot_field : {b : List ℕ} (s : State) (i : ℕ) (d : User) → i < length s.users → (x : User) (f : User → User)
    → Encodes b (with_users s (set (set s.users i x) i (f (get_or (set s.users i x) i d)))) → Encodes b (with_users s (set s.users i (f x)))
slot_field {b = b} s i d h x f w =
    subst (λ (us : List User). Encodes b (with_users s us))
    (ap (λ (y : User). set (set s.users i x) i (f y)) (get_or-set_same s.users i x d h) ∙ set-set s.users i x (f x)) w

last_there : {A : Type 0} (xs : List A) (x : A) → length xs < length (xs ++ (x ∷ []))
last_there xs x = let l = length-append xs (x ∷ []) in omega arith

-- the writes that add a user, a pending registration and a post as record n of its table: the count, then the fields that are not zero
abbrev pub user_added : List ℕ → ℕ → ℕ → ℕ → List ℕ
user_added b n u p = patch (patch (patch b 0 (to_le_bytes 2 (n + 1))) (16 + n * 104) (to_le_bytes 4 u)) (16 + n * 104 + 4) (to_le_bytes 8 p)

abbrev pub pending_added : List ℕ → ℕ → ℕ → List ℕ → List ℕ
pending_added b n u note =
    patch (patch (patch b 4 (to_le_bytes 2 (n + 1))) (23312 + n * 32) (to_le_bytes 4 u)) (23312 + n * 32 + 4) (string_field note_limit note)

abbrev pub post_added : List ℕ → ℕ → ℕ → ℕ → List ℕ → List ℕ
post_added b n number owner title =
    patch
    (patch (patch (patch b 2 (to_le_bytes 2 (n + 1))) (3344 + n * 312) (to_le_bytes 4 number)) (3344 + n * 312 + 8) (to_le_bytes 2 owner))
    (3344 + n * 312 + 12)
    (string_field title_limit title)

-- the writes on the three fields that a user changes
abbrev pub user_updated : List ℕ → ℕ → ℕ → List ℕ → List ℕ → List ℕ
user_updated b i p name info =
    patch (patch (patch b (16 + i * 104 + 4) (to_le_bytes 8 p)) (16 + i * 104 + 20) (string_field name_limit name)) (16 + i * 104 + 46)
    (string_field info_limit info)

user_added_lem : {b : List ℕ} {s : State} → Encodes b s → (u p : ℕ) → length s.users < user_limit → u < 2 ^ 32 → p < 2 ^ 64
    → Encodes (user_added b (length s.users) u p) (add_user s u p)
unfolding add_user user_at
user_added_lem {s = s} w u p h hu hp =
    let n : ℕ = length s.users in
    let numbered = last_field (with_users s) s.users no_user no_user (λ (a : User). with_user_number a u)
    (write-user_number (add_user_lem w h) n (last_there s.users no_user) u hu) in
    last_field (with_users s) s.users (with_user_number no_user u) no_user (λ (a : User). with_password a p)
    (write-user-password numbered n (last_there s.users (with_user_number no_user u)) p hp)

module _ {b : List ℕ} {s : State} (w : Encodes b s) where
  -- 0101
  pub writes_start_sys : (u p : ℕ) → length s.users < user_limit → u < 2 ^ 32 → p < 2 ^ 64
      → Encodes (user_added b (length s.users) u p) (apply_change s (start_sys u p))
  unfolding apply_change
  writes_start_sys u p h hu hp = user_added_lem w u p h hu hp

  -- 0201
  pub writes_c_nu_req : (u : ℕ) (note : List ℕ) → length s.pending < pending_limit → u < 2 ^ 32 → is_string note_limit note ≡ true
      → Encodes (pending_added b (length s.pending) u note) (apply_change s (c_nu_req u note))
  unfolding apply_change pending_at
  writes_c_nu_req u note h hu e =
      let n : ℕ = length s.pending in
      let numbered = last_field (with_pending s) s.pending no_pending no_pending (λ (a : Pending). with_pending_number a u)
      (write-pending_number (add_pending w h) n (last_there s.pending no_pending) u hu) in
      last_field (with_pending s) s.pending (with_pending_number no_pending u) no_pending (λ (a : Pending). with_pending_note a note)
      (write-pending-note numbered n (last_there s.pending (with_pending_number no_pending u)) note e)

  -- 0203
  pub writes_c_post : (u p n : ℕ) (title : List ℕ) → length s.posts < post_limit → n < 2 ^ 32 → user_slot s u < 2 ^ 16
      → is_string title_limit title ≡ true → Encodes (post_added b (length s.posts) n (user_slot s u) title) (apply_change s (c_post u p n title))
  unfolding apply_change post_at
  writes_c_post u p n title h hn ho e =
      let m : ℕ = length s.posts in
      let numbered = last_field (with_posts s) s.posts no_post no_post (λ (a : Post). with_post_number a n)
      (write-post_number (add_post w h) m (last_there s.posts no_post) n hn) in
      let x : Post = with_post_number no_post n in
      let owned = last_field (with_posts s) s.posts x no_post (λ (a : Post). with_owner a (user_slot s u))
      (write-post-owner numbered m (last_there s.posts x) (user_slot s u) ho) in
      let y : Post = with_owner x (user_slot s u) in
      last_field (with_posts s) s.posts y no_post (λ (a : Post). with_title a title) (write-post-title owned m (last_there s.posts y) title e)

  -- 0402 to 0405
  module _ (u p n : ℕ) (h : post_place s n < length s.posts) where
    pub writes_u_title_post : (title : List ℕ) → is_string title_limit title ≡ true
        → Encodes (patch b (3344 + post_place s n * 312 + 12) (string_field title_limit title)) (apply_change s (u_title_post u p n title))
    unfolding apply_change update_post post_numbered
    writes_u_title_post title e = write-post-title w (post_place s n) h title e

    pub writes_u_text_post : (text : List ℕ) → is_string text_limit text ≡ true
        → Encodes (patch b (3344 + post_place s n * 312 + 54) (string_field text_limit text)) (apply_change s (u_text_post u p n text))
    unfolding apply_change update_post post_numbered
    writes_u_text_post text e = write-post_text w (post_place s n) h text e

    pub writes_u_img_post : (picture : ℕ) → picture < 2 ^ 32
        → Encodes (patch b (3344 + post_place s n * 312 + 4) (to_le_bytes 4 picture)) (apply_change s (u_img_post u p n picture))
    unfolding apply_change update_post post_numbered
    writes_u_img_post picture l = write-post-picture w (post_place s n) h picture l

    pub writes_u_vis_post : (visibility : ℕ) → visibility ≤ 1
        → Encodes (patch b (3344 + post_place s n * 312 + 10) (to_le_bytes 2 visibility)) (apply_change s (u_vis_post u p n visibility))
    unfolding apply_change update_post post_numbered
    writes_u_vis_post visibility l = write-post-visibility w (post_place s n) h visibility (omega arith)

  -- 0401
  pub writes_u_user : (u p p2 : ℕ) (name info : List ℕ) → user_slot s u < length s.users → p2 < 2 ^ 64
      → is_string name_limit name ≡ true → is_string info_limit info ≡ true
      → Encodes (user_updated b (user_slot s u) p2 name info) (apply_change s (u_user u p p2 name info))
  unfolding apply_change update_user user_at
  writes_u_user u p p2 name info h hp en ei =
      let i : ℕ = user_slot s u in
      let a : User = user_at s i in
      let first = write-user-password w i h p2 hp in
      let second = slot_field s i no_user h (with_password a p2) (λ (x : User). with_name x name)
      (write-user-name first i (rw length-set h) name en) in
      slot_field s i no_user h (with_name (with_password a p2) name) (λ (x : User). with_info x info)
      (write-user-info second i (rw length-set h) info ei)

  -- 0202: for any n from the count to the limit the pending registration is removed from the first n records
  pub writes_c_user : (u p v p2 n : ℕ) → pending_place s v < length s.pending → length s.pending ≤ n → n ≤ pending_limit
      → length s.users < user_limit → v < 2 ^ 32 → p2 < 2 ^ 64
      → Encodes (user_added (patch (without_record b 23312 32 n (pending_place s v)) 4 (to_le_bytes 2 (length s.pending - 1))) (length s.users) v p2)
      (apply_change s (c_user u p v p2))
  unfolding apply_change remove_at
  writes_c_user u p v p2 n h hn hl hu hv hp = user_added_lem (remove_pending w n (pending_place s v) hn hl h) v p2 hu hv hp

-- ---- requests and friends

-- a row read from its place, and written back there with its bit j changed by f
abbrev pub bit_written : (ℕ → ℕ → ℕ) → List ℕ → ℕ → ℕ → List ℕ
bit_written f b at j = patch b at (to_le_bytes 4 (f (number_in b at 4) j))

-- the writes that put in slot j's request to slot i, that remove it, that remove the requests of both slots to each other, and that change
-- the friend rows of both
abbrev pub request_added : List ℕ → ℕ → ℕ → List ℕ → List ℕ
request_added b i j note = patch (bit_written set_bit b (16 + i * 104 + 16) j) (23824 + (user_limit * i + j) * 26) (string_field note_limit note)

abbrev pub request_removed : List ℕ → ℕ → ℕ → List ℕ
request_removed b i j = patch (bit_written clear_bit b (16 + i * 104 + 16) j) (23824 + (user_limit * i + j) * 26) (replicate 26 0)

abbrev pub requests_removed : List ℕ → ℕ → ℕ → List ℕ
requests_removed b i j = request_removed (request_removed b i j) j i

abbrev pub friends_written : (ℕ → ℕ → ℕ) → List ℕ → ℕ → ℕ → List ℕ
friends_written f b i j = bit_written f (bit_written f b (16 + i * 104 + 12) j) (16 + j * 104 + 12) i

module _ {f : ℕ → ℕ → ℕ} {value : ℕ} (write : BitWrite f value) {b : List ℕ} {s : State} (w : Encodes b s)
    (i j : ℕ) (hi : i < length s.users) (hj : j < length s.users) where
  request-written : Encodes (bit_written f b (16 + i * 104 + 16) j) (write_request f s i j)
  unfolding update_user
  request-written =
      let n = fits_count user_codec user_limit s.users w.fits.users in
      let bound = write.bound 32 (user_at s i).requests j (requests_width s w.fits i) (omega arith) in
      subst (λ (row : ℕ). Encodes (patch b (16 + i * 104 + 16) (to_le_bytes 4 (f row j))) (write_request f s i j))
      (sym (read-user-requests w i hi)) (write-user-requests w i hi (f (user_at s i).requests j) bound)

  friend-written : Encodes (bit_written f b (16 + i * 104 + 12) j) (write_friend f s i j)
  unfolding update_user
  friend-written =
      let n = fits_count user_codec user_limit s.users w.fits.users in
      let bound = write.bound 32 (user_at s i).friends j (friends_width s w.fits i) (omega arith) in
      subst (λ (row : ℕ). Encodes (patch b (16 + i * 104 + 12) (to_le_bytes 4 (f row j))) (write_friend f s i j))
      (sym (read-user-friends w i hi)) (write-user-friends w i hi (f (user_at s i).friends j) bound)

module _ {f : ℕ → ℕ → ℕ} {value : ℕ} (write : BitWrite f value) {b : List ℕ} {s : State} (w : Encodes b s)
    (i j : ℕ) (hi : i < length s.users) (hj : j < length s.users) where
  friends-written : Encodes (friends_written f b i j) (write_friend f (write_friend f s i j) j i)
  unfolding update_user
  friends-written =
      let same = length-set s.users i (with_friends (user_at s i) (f (user_at s i).friends j)) in
      friend-written write (friend-written write w i j hi hj) j i (omega arith) (omega arith)

module _ {b : List ℕ} {s : State} (w : Encodes b s) (i j : ℕ) (hi : i < length s.users) (hj : j < length s.users) where
  encodes-removed : Encodes (request_removed b i j) (remove_request s i j)
  unfolding remove_request set_note update_user
  encodes-removed =
      let n = fits_count user_codec user_limit s.users w.fits.users in
      clear_note (request-written clear_writes w i j hi hj) (user_limit * i + j) (omega arith)

module _ {b : List ℕ} {s : State} (w : Encodes b s) (i j : ℕ) (hi : i < length s.users) (hj : j < length s.users) where
  encodes-both-removed : Encodes (requests_removed b i j) (remove_requests s i j)
  unfolding remove_requests
  encodes-both-removed =
      let same = request-removed-length s i j in
      encodes-removed (encodes-removed w i j hi hj) j i (rw same hj) (rw same hi)

module _ {b : List ℕ} {s : State} (w : Encodes b s) (u p v : ℕ) (hu : user_slot s u < length s.users) (hv : user_slot s v < length s.users) where
  -- 0204
  pub writes_c_friend_req : (note : List ℕ) → is_string note_limit note ≡ true
      → Encodes (request_added b (user_slot s v) (user_slot s u) note) (apply_change s (c_friend_req u p v note))
  unfolding apply_change add_request set_note update_user
  writes_c_friend_req note e =
      let n = fits_count user_codec user_limit s.users w.fits.users in
      write-note (request-written set_writes w (user_slot s v) (user_slot s u) hv hu) (user_limit * user_slot s v + user_slot s u) (omega arith) note e

  -- 0205
  pub writes_c_friend : let i : ℕ = user_slot s u in let j : ℕ = user_slot s v in
      Encodes (friends_written set_bit (requests_removed b i j) i j) (apply_change s (c_friend u p v))
  unfolding apply_change accept_request add_friends
  writes_c_friend =
      let i : ℕ = user_slot s u in
      let j : ℕ = user_slot s v in
      let same = requests-removed-length s i j in
      friends-written set_writes (encodes-both-removed w i j hu hv) i j (rw same hu) (rw same hv)

  -- 0301
  pub writes_d_friend : Encodes (friends_written clear_bit b (user_slot s u) (user_slot s v)) (apply_change s (d_friend u p v))
  unfolding apply_change remove_friends
  writes_d_friend = friends-written clear_writes w (user_slot s u) (user_slot s v) hu hv
