-- What the used records of a board say of its state: of any board that has its length and whose counts are within limits.
use Prim.Native.Nat.{ℕ, zero, suc, ◌+◌, ◌-◌, ◌*◌, ◌/◌, ◌≤◌, ◌<◌}
use native.Mathlib.Nat.{suc-mul, mul-div_cancel}
use native.Mathlib.Omega.{arith}
use mathlib.Core.Path.{◌≡◌, refl, sym, ap, ap₂, ◌∙◌}
use mathlib.Core.List.{List, [], ◌∷◌, map}
use mathlib.Core.Bool.{true}
use lib.ListN.{length, take, drop, get_or, length-map, get_or-map}
use lib.Dec.{lit≤}
use borrow.Author.Tests.{le-leb}
use Rattle.std.specs.Simd.{first_chunks}
use Rattle.layout.specs.Bytes.{bytes_at, pieces}
use Rattle.layout.specs.Numbers.{from_le_bytes}
use Rattle.layout.specs.StringFields.{field_string, stated_length}
use Rattle.layout.specs.Tables.{record_number}
use Rattle.layout.proofs.BooleanLaws.{and_both}
use Rattle.layout.proofs.ByteLaws.{take-bytes_at, drop-bytes_at, length-bytes_at, bytes_at_all}
use Rattle.reader.specs.Fields.{number_in}
use Rattle.model.specs.State.{User, Post, Pending, user_limit, post_limit, pending_limit, user_numbers, post_numbers, pending_numbers, user_at}
use Rattle.model.specs.Lists.{for_all, all_true}
use Rattle.model.specs.Board.{BoardRecords, cut_board, user_count, post_count, pending_count, state_of, decode, decode_user, decode_post, decode_pending}
use Rattle.model.specs.Soundness.{counts_within_limits}
use Rattle.model.proofs.CutLaws.{header_number, take-table, length_records}
use Rattle.model.proofs.SoundnessLaws.{within-limits}
use Rattle.board.specs.declared.counted.CountedBoard.{CountedBoard}
use Rattle.board.specs.BoardTests.{BoardWithinLimits, records_at, used_users, used_posts, used_pending}

-- ---- counts

-- those of the header, as they are read
module _ (b : List ℕ) where
  pub read-users : number_in b 0 2 ≡ user_count (cut_board b)
  unfolding user_count
  read-users = sym (header_number b 0 2 (lit≤ tt))

  pub read-posts : number_in b 2 2 ≡ post_count (cut_board b)
  unfolding post_count
  read-posts = sym (header_number b 2 2 (lit≤ tt))

  pub read-pending : number_in b 4 2 ≡ pending_count (cut_board b)
  unfolding pending_count
  read-pending = sym (header_number b 4 2 (lit≤ tt))

pub counts-hold : (r : BoardRecords) → user_count r ≤ user_limit → post_count r ≤ post_limit → pending_count r ≤ pending_limit
    → counts_within_limits r ≡ true
unfolding counts_within_limits all_true for_all
counts-hold r h k l =
    and_both (le-leb (user_count r) user_limit h) (and_both (le-leb (post_count r) post_limit k) (and_both (le-leb (pending_count r) pending_limit l) refl))

-- ---- used records

-- a part of a list, cut into arrays, is records
chunks_records : (b : List ℕ) (size k base m : ℕ) → k * size ≤ m → first_chunks size k (bytes_at b base m) ≡ records_at b base size k
unfolding pieces
chunks_records b size zero base m h = refl
chunks_records b size (suc k) base m h =
    let e = suc-mul k size in
    ap₂ (λ (r : List ℕ) (rs : List (List ℕ)). r ∷ rs) (take-bytes_at b base size m (omega arith))
    (ap (first_chunks size k) (drop-bytes_at b base size m) ∙ chunks_records b size k (base + size) (m - size) (omega arith))

pub chunks-records : (b : List ℕ) (base size n m : ℕ) → 0 < size → base + n * size ≤ length b → m ≡ n * size
    → let part = take m (drop base b) in first_chunks size (length part / size) part ≡ records_at b base size n
unfolding bytes_at
chunks-records b base size n m h l e =
    let part : List ℕ = bytes_at b base m in
    let count : length part / size ≡ n = ap (λ (k : ℕ). k / size) (length-bytes_at b base m (omega arith) ∙ e) ∙ mul-div_cancel n h in
    ap (λ (k : ℕ). first_chunks size k part) count ∙ chunks_records b size n base m (omega arith)

-- an array is as many records as fit it
pub array-records : (a : List ℕ) (size n m : ℕ) → 0 < size → length a ≡ m → m ≡ n * size → first_chunks size (length a / size) a ≡ records_at a 0 size n
array-records a size n m h l e =
    let count : length a / size ≡ n = ap (λ (k : ℕ). k / size) (l ∙ e) ∙ mul-div_cancel n h in
    ap₂ (first_chunks size) count (sym (bytes_at_all a m l)) ∙ chunks_records a size n 0 m (omega arith)

-- the first n records of a table, where n is the count as it was read
used_records : (b : List ℕ) (base size limit : ℕ) {count n : ℕ} → count ≤ limit → n ≡ count
    → records_at b base size n ≡ take count (records_at b base size limit)
used_records b base size limit {count} l e = ap (records_at b base size) e ∙ sym (take-table b size limit base count l)

-- the used records of each table are as many as the header counts
module _ (b : List ℕ) (h : BoardWithinLimits b) {n : ℕ} where
  pub used-users : n ≡ user_count (cut_board b) → records_at b 16 104 n ≡ used_users b
  unfolding cut_board
  used-users e = used_records b 16 104 user_limit (within-limits _ h.1).0 e

  pub used-posts : n ≡ post_count (cut_board b) → records_at b 3344 312 n ≡ used_posts b
  unfolding cut_board
  used-posts e = used_records b 3344 312 post_limit (within-limits _ h.1).1 e

  pub used-pending : n ≡ pending_count (cut_board b) → records_at b 23312 32 n ≡ used_pending b
  unfolding cut_board
  used-pending e = used_records b 23312 32 pending_limit (within-limits _ h.1).2 e

-- ---- their numbers

numbers_decoded : {A : Type 0} (decode_record : List ℕ → A) (number : A → ℕ) → ((r : List ℕ) → number (decode_record r) ≡ record_number r)
    → (rs : List (List ℕ)) → map record_number rs ≡ map number (map decode_record rs)
numbers_decoded decode_record number first [] = refl
numbers_decoded decode_record number first (r ∷ rs) =
    ap₂ (λ (x : ℕ) (xs : List ℕ). x ∷ xs) (sym (first r)) (numbers_decoded decode_record number first rs)

-- ---- a counted board

module _ (board : CountedBoard) where
  abbrev bytes : List ℕ
  bytes = board.bytes.now

  count-users : length board.users.now ≡ user_count (cut_board bytes)
  count-users = ap length (board.users_used ∙ sym (used-users bytes board.within refl)) ∙ length_records bytes 104 (user_count (cut_board bytes)) 16

  count-posts : length board.posts.now ≡ post_count (cut_board bytes)
  count-posts = ap length (board.posts_used ∙ sym (used-posts bytes board.within refl)) ∙ length_records bytes 312 (post_count (cut_board bytes)) 3344

  count-pending : length board.pending.now ≡ pending_count (cut_board bytes)
  count-pending =
      ap length (board.pending_used ∙ sym (used-pending bytes board.within refl)) ∙ length_records bytes 32 (pending_count (cut_board bytes)) 23312

  -- how many records of each table are used
  pub used-counts : (length board.users.now ≡ user_count (cut_board bytes)) × (length board.posts.now ≡ post_count (cut_board bytes))
      × (length board.pending.now ≡ pending_count (cut_board bytes))
  used-counts = (count-users, count-posts, count-pending)

  pub used-limits : (length board.users.now ≤ user_limit) × (length board.posts.now ≤ post_limit) × (length board.pending.now ≤ pending_limit)
  used-limits =
      let n = used-counts in
      let w = within-limits (cut_board bytes) board.within.1 in
      (omega arith, omega arith, omega arith)

  -- their numbers
  pub user-numbers : map record_number board.users.now ≡ user_numbers (decode bytes)
  unfolding user_numbers decode state_of decode_user record_number bytes_at
  user-numbers = ap (map record_number) board.users_used ∙ numbers_decoded decode_user (λ (u : User). u.number) (λ r. refl) (used_users bytes)

  pub post-numbers : map record_number board.posts.now ≡ post_numbers (decode bytes)
  unfolding post_numbers decode state_of decode_post record_number bytes_at
  post-numbers = ap (map record_number) board.posts_used ∙ numbers_decoded decode_post (λ (p : Post). p.number) (λ r. refl) (used_posts bytes)

  pub pending-numbers : map record_number board.pending.now ≡ pending_numbers (decode bytes)
  unfolding pending_numbers decode state_of decode_pending record_number bytes_at
  pending-numbers =
      ap (map record_number) board.pending_used ∙ numbers_decoded decode_pending (λ (p : Pending). p.number) (λ r. refl) (used_pending bytes)

  -- the users of the state, and the one in slot i
  users-decoded : (decode bytes).users ≡ map decode_user board.users.now
  unfolding decode state_of
  users-decoded = ap (map decode_user) (sym board.users_used)

  pub decoded-count : length (decode bytes).users ≡ length board.users.now
  decoded-count = ap length users-decoded ∙ length-map board.users.now decode_user

  pub user-decoded : (i : ℕ) → user_at (decode bytes) i ≡ decode_user (get_or board.users.now i [])
  unfolding user_at decode state_of decode_user field_string stated_length from_le_bytes bytes_at
  user-decoded i =
      get_or-map decode_user (used_users bytes) i []
      ∙ ap (λ (us : List (List ℕ)). decode_user (get_or us i [])) (sym board.users_used)
