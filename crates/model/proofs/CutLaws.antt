-- A board and its records: cutting and joining undo each other where the sizes are right.
use Prim.Native.Nat.{ℕ, zero, suc, ◌+◌, ◌-◌, ◌*◌, ◌≤◌, ◌<◌}
use native.Mathlib.Nat.{add_assoc, add-zero, zero-add, zero-mul, suc-mul, not-suc-le-zero, le_of_suc-le-suc}
use native.Mathlib.Omega.{arith}
use mathlib.Core.Path.{◌≡◌, refl, sym, ap, ap₂, ◌∙◌}
use mathlib.Core.List.{List, [], ◌∷◌, map, flatten, sum}
use lib.ListN.{length, take, drop, get_or, set, replicate, length-replicate, get_or-map}
use lib.Dec.{lit<}
use Rattle.layout.specs.Bytes.{bytes_at, patch, all_zero, offset, pieces}
use Rattle.layout.proofs.ByteLaws.{zero_join, bytes_at_none, bytes_at-bytes_at, bytes_at_all, length-bytes_at}
use Rattle.layout.proofs.ConcatenationLaws.{length-flatten, flatten-pieces, sizes-pieces, pieces-flatten, bytes_at-flatten, patch-flatten, length-pieces, sum-replicate, take-replicate, offset-replicate}
use Rattle.layout.specs.Numbers.{from_le_bytes}
use Rattle.layout.specs.Tables.{record_numbers}
use Rattle.reader.specs.Fields.{number_in}
use mathlib.Core.Bool.{Bool, ◌&&◌}
use Rattle.model.specs.Lists.{for_all, all_below}
use Rattle.model.specs.State.{user_limit, post_limit, pending_limit, note_count}
use Rattle.model.proofs.ListLaws.{drop-replicate}
use Rattle.model.proofs.BelowLaws.{all_below_lem}
use Rattle.model.specs.Board.{board_size, BoardRecords, cut_board, join_records}

-- every record has its size
pub record RightSizes (r : BoardRecords) : Type 0 where
  pub header : length r.header ≡ 16
  pub users : map length r.users ≡ replicate user_limit 104
  pub posts : map length r.posts ≡ replicate post_limit 312
  pub pending : map length r.pending ≡ replicate pending_limit 32
  pub notes : map length r.notes ≡ replicate note_count 26

-- the regions of a board: the header and the four tables
abbrev pub regions : BoardRecords → List (List ℕ)
regions r = r.header ∷ flatten r.users ∷ flatten r.posts ∷ flatten r.pending ∷ flatten r.notes ∷ []

abbrev pub region_sizes : List ℕ
region_sizes = 16 ∷ 32 * 104 ∷ 64 * 312 ∷ 16 * 32 ∷ 1024 * 26 ∷ []

length-table : (size n : ℕ) (rs : List (List ℕ)) → map length rs ≡ replicate n size → length (flatten rs) ≡ n * size
length-table size n rs e = length-flatten rs ∙ ap (sum ◌+◌ 0) e ∙ sum-replicate n size

module _ (r : BoardRecords) (s : RightSizes r) where
  pub sizes-regions : map length (regions r) ≡ region_sizes
  sizes-regions =
      λ i.
      s.header i
      ∷ length-table 104 32 r.users s.users i
      ∷ length-table 312 64 r.posts s.posts i
      ∷ length-table 32 16 r.pending s.pending i
      ∷ length-table 26 1024 r.notes s.notes i
      ∷ []

  pub length_join : length (join_records r) ≡ board_size
  unfolding join_records sum
  length_join = length-flatten (regions r) ∙ ap (sum ◌+◌ 0) sizes-regions

  -- region k, read and written
  pub bytes_at_region : (k : ℕ) → k < 5 → bytes_at (join_records r) (offset region_sizes k) (get_or region_sizes k 0) ≡ get_or (regions r) k []
  unfolding join_records
  bytes_at_region k h = bytes_at-flatten region_sizes (regions r) k sizes-regions h

  pub patch_region : (k : ℕ) (x : List ℕ) → k < 5 → length x ≡ get_or region_sizes k 0
      → patch (join_records r) (offset region_sizes k) x ≡ flatten (set (regions r) k x)
  unfolding join_records
  patch_region k x h l = patch-flatten region_sizes (regions r) k x sizes-regions h l

-- pieces of a part are pieces of the whole
pieces-bytes_at : (zs : List ℕ) (at o n : ℕ) (b : List ℕ) → at + sum ◌+◌ 0 zs ≤ n → pieces zs at (bytes_at b o n) ≡ pieces zs (o + at) b
unfolding pieces sum
pieces-bytes_at [] at o n b h = refl
pieces-bytes_at (z ∷ zs) at o n b h =
    ap₂ (λ (x : List ℕ) (xs : List (List ℕ)). x ∷ xs) (bytes_at-bytes_at b o n at z (omega arith))
    (pieces-bytes_at zs (at + z) o n b (omega arith) ∙ ap (λ (k : ℕ). pieces zs k b) (sym (add_assoc o at z)))

-- the records of a table that is the part of b from o on
table-pieces : (b : List ℕ) (o size n : ℕ) (rs : List (List ℕ)) → map length rs ≡ replicate n size → bytes_at b o (n * size) ≡ flatten rs
    → pieces (replicate n size) o b ≡ rs
table-pieces b o size n rs e q =
    ap (λ (k : ℕ). pieces (replicate n size) k b) (sym (add-zero o))
    ∙ sym (pieces-bytes_at (replicate n size) 0 o (n * size) b (let t = sum-replicate n size in omega arith))
    ∙ ap (pieces (replicate n size) 0) q ∙ ap (λ (zs : List ℕ). pieces zs 0 (flatten rs)) (sym e) ∙ pieces-flatten rs

pub cut_join : (r : BoardRecords) → RightSizes r → cut_board (join_records r) ≡ r
unfolding cut_board offset sum
cut_join r s =
    let b : List ℕ = join_records r in
    let h : bytes_at b 0 16 ≡ r.header = bytes_at_region r s 0 (lit< tt) in
    let us = table-pieces b 16 104 32 r.users s.users (bytes_at_region r s 1 (lit< tt)) in
    let ps = table-pieces b 3344 312 64 r.posts s.posts (bytes_at_region r s 2 (lit< tt)) in
    let ks = table-pieces b 23312 32 16 r.pending s.pending (bytes_at_region r s 3 (lit< tt)) in
    let ns = table-pieces b 23824 26 1024 r.notes s.notes (bytes_at_region r s 4 (lit< tt)) in
    λ i. record { header = h i; users = us i; posts = ps i; pending = ks i; notes = ns i }

-- a table of a board, joined again
table-flatten : (b : List ℕ) (o size n : ℕ) → flatten (pieces (replicate n size) o b) ≡ bytes_at b o (n * size)
table-flatten b o size n = flatten-pieces (replicate n size) o b ∙ ap (bytes_at b o) (sum-replicate n size)

pub join_cut : (b : List ℕ) → length b ≡ board_size → join_records (cut_board b) ≡ b
unfolding join_records cut_board pieces sum
join_cut b l =
    let us = table-flatten b 16 104 32 in
    let ps = table-flatten b 3344 312 64 in
    let ks = table-flatten b 23312 32 16 in
    let ns = table-flatten b 23824 26 1024 in
    let cut : regions (cut_board b) ≡ pieces region_sizes 0 b = λ i. bytes_at b 0 16 ∷ us i ∷ ps i ∷ ks i ∷ ns i ∷ [] in
    ap flatten cut ∙ flatten-pieces region_sizes 0 b ∙ bytes_at_all b board_size l

pub cut-sizes : (b : List ℕ) → length b ≡ board_size → RightSizes (cut_board b)
unfolding cut_board
cut-sizes b l = record {
  header = length-bytes_at b 0 16 (omega arith);
  users = table 16 104 32 (omega arith);
  posts = table 3344 312 64 (omega arith);
  pending = table 23312 32 16 (omega arith);
  notes = table 23824 26 1024 (omega arith);
}
  where
    table : (o size n : ℕ) → o + n * size ≤ length b → map length (pieces (replicate n size) o b) ≡ replicate n size
    table o size n h = sizes-pieces (replicate n size) o b (let t = sum-replicate n size in omega arith)

-- region k of r written over by that of t, where the other regions are the same
pub region_written : (r t : BoardRecords) → RightSizes r → RightSizes t → (k : ℕ) → k < 5 → set (regions r) k (get_or (regions t) k []) ≡ regions t
    → patch (join_records r) (offset region_sizes k) (get_or (regions t) k []) ≡ join_records t
unfolding join_records
region_written r t z y k h e =
    patch_region r z k (get_or (regions t) k []) h (sym (get_or-map length (regions t) k []) ∙ ap (λ (zs : List ℕ). get_or zs k 0) (sizes-regions t y))
    ∙ ap flatten e

-- ---- any board

-- the counts are read off the board's first bytes
pub header_number : (b : List ℕ) (at n : ℕ) → at + n ≤ 16 → number_in (cut_board b).header at n ≡ number_in b at n
unfolding cut_board
header_number b at n h = ap from_le_bytes (bytes_at-bytes_at b 0 16 at n h ∙ ap (λ (o : ℕ). bytes_at b o n) (zero-add at))

pub take-pieces : (n : ℕ) (zs : List ℕ) (at : ℕ) (b : List ℕ) → take n (pieces zs at b) ≡ pieces (take n zs) at b
unfolding pieces
take-pieces zero zs at b = refl
take-pieces (suc n) [] at b = refl
take-pieces (suc n) (z ∷ zs) at b = ap (λ (l : List (List ℕ)). bytes_at b at z ∷ l) (take-pieces n zs (at + z) b)

pub drop-pieces : (n : ℕ) (zs : List ℕ) (at : ℕ) (b : List ℕ) → drop n (pieces zs at b) ≡ pieces (drop n zs) (at + offset zs n) b
unfolding pieces offset sum
drop-pieces zero zs at b = ap (λ (k : ℕ). pieces zs k b) (sym (add-zero at))
drop-pieces (suc n) [] at b = refl
drop-pieces (suc n) (z ∷ zs) at b = drop-pieces n zs (at + z) b ∙ ap (λ (k : ℕ). pieces (drop n zs) k b) (add_assoc at z (offset zs n))

module _ (b : List ℕ) (size : ℕ) where
  next : (o i : ℕ) → o + size + i * size ≡ o + suc i * size
  next o i = let m = suc-mul i size in omega arith

  pub piece_at : (n o i : ℕ) → i < n → get_or (pieces (replicate n size) o b) i [] ≡ bytes_at b (o + i * size) size
  unfolding pieces
  piece_at zero o i h = absurd (not-suc-le-zero h)
  piece_at (suc n) o zero h = ap (λ (k : ℕ). bytes_at b k size) (let z = zero-mul size in omega arith)
  piece_at (suc n) o (suc i) h = piece_at n (o + size) i (le_of_suc-le-suc h) ∙ ap (λ (k : ℕ). bytes_at b k size) (next o i)

  -- the first k records of a table, and those behind them
  pub take-table : (n o k : ℕ) → k ≤ n → take k (pieces (replicate n size) o b) ≡ pieces (replicate k size) o b
  take-table n o k h = take-pieces k (replicate n size) o b ∙ ap (λ (zs : List ℕ). pieces zs o b) (take-replicate k n size h)

  pub drop-table : (n o k : ℕ) → k ≤ n → drop k (pieces (replicate n size) o b) ≡ pieces (replicate (n - k) size) (o + k * size) b
  drop-table n o k h =
      drop-pieces k (replicate n size) o b
      ∙ ap₂ (λ (zs : List ℕ) (at : ℕ). pieces zs (o + at) b) (drop-replicate k n size h) (offset-replicate n size k h)

  -- records are zero exactly if the run of their bytes is
  pub zero-pieces : (n o : ℕ) → for_all all_zero (pieces (replicate n size) o b) ≡ all_zero (bytes_at b o (n * size))
  unfolding pieces for_all all_zero
  zero-pieces zero o = sym (ap all_zero (ap (bytes_at b o) (zero-mul size) ∙ bytes_at_none b o))
  zero-pieces (suc n) o =
      let e : size + n * size ≡ suc n * size = let m = suc-mul n size in omega arith in
      ap (λ (t : Bool). all_zero (bytes_at b o size) && t) (zero-pieces n (o + size))
      ∙ sym (zero_join b o size (n * size)) ∙ ap (λ (m : ℕ). all_zero (bytes_at b o m)) e

  pub length_records : (n o : ℕ) → length (pieces (replicate n size) o b) ≡ n
  length_records n o = length-pieces (replicate n size) o b ∙ length-replicate n size

  -- a test of each record is one at each place
  pub table_below : (p : List ℕ → Bool) (n o : ℕ)
      → for_all p (pieces (replicate n size) o b) ≡ all_below n (λ (i : ℕ). p (bytes_at b (o + i * size) size))
  table_below p n o =
      all_below_lem p (pieces (replicate n size) o b) [] (λ (i : ℕ). bytes_at b (o + i * size) size) (length_records n o) (λ i h. piece_at n o i h)

  pub zero_records : (n o : ℕ) → all_below n (λ (i : ℕ). all_zero (bytes_at b (o + i * size) size)) ≡ all_zero (bytes_at b o (n * size))
  zero_records n o = sym (table_below all_zero n o) ∙ zero-pieces n o

  -- the numbers of records are their first fields
  pub table-numbers : {A : Type 0} (decode_record : List ℕ → A) (number : A → ℕ) → ((r : List ℕ) → number (decode_record r) ≡ number_in r 0 4) → 4 ≤ size
      → (n o : ℕ) → record_numbers b o size n ≡ map number (map decode_record (pieces (replicate n size) o b))
  unfolding pieces record_numbers
  table-numbers decode_record number e h zero o = refl
  table-numbers decode_record number e h (suc n) o =
      ap₂ (λ (x : ℕ) (xs : List ℕ). x ∷ xs)
      (sym (e (bytes_at b o size) ∙ ap from_le_bytes (bytes_at-bytes_at b o size 0 4 h) ∙ ap (λ (k : ℕ). number_in b k 4) (add-zero o)))
      (table-numbers decode_record number e h n (o + size))
