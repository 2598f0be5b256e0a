-- All records of a board in one list: the board is cut into them again, also with bytes behind it and after bytes were written into one.
use Prim.Native.Nat.{ℕ, ◌+◌, ◌<◌}
use native.Mathlib.Omega.{arith}
use mathlib.Core.Path.{◌≡◌, refl, sym, ap, ◌∙◌}
use mathlib.Core.List.{List, [], ◌∷◌, ◌++◌, map, flatten, sum, append-nil, map-append}
use mathlib.Core.Bool.{Bool, true}
use lib.ListN.{length, take, drop, get_or, set, replicate, length-map, get_or-map}
use lib.Seq.{map-set_same}
use lib.Dec.{eqb, leb, ltb, lit<}
use borrow.Author.Tests.{leb-true, ltb-true, eqb-true}
use Rattle.layout.specs.Bytes.{bytes_at, patch, offset, pieces}
use Rattle.layout.proofs.BooleanLaws.{and_left, and_right}
use Rattle.layout.proofs.ByteLaws.{length-patch, patch-bytes_at}
use Rattle.layout.proofs.ConcatenationLaws.{flatten_append, length-flatten, pieces-flatten, bytes_at-flatten, patch-flatten, offset_le}
use Rattle.model.specs.Lists.{for_all, all_true}
use Rattle.model.specs.State.{user_limit, post_limit, pending_limit, note_count}
use Rattle.model.specs.Board.{board_size, BoardRecords, cut_board, join_records}
use Rattle.model.proofs.ListLaws.{true_at}
use Rattle.model.proofs.CutLaws.{RightSizes, take-pieces, drop-pieces}

abbrev pub all_records : BoardRecords → List (List ℕ)
all_records r = r.header ∷ (r.users ++ (r.posts ++ (r.pending ++ r.notes)))

abbrev pub all_sizes : List ℕ
all_sizes = 16 ∷ (replicate user_limit 104 ++ (replicate post_limit 312 ++ (replicate pending_limit 32 ++ replicate note_count 26)))

abbrev pub board_tables : List (List ℕ) → BoardRecords
board_tables rs = record {
  header = get_or rs 0 [];
  users = take user_limit (drop 1 rs);
  posts = take post_limit (drop 33 rs);
  pending = take pending_limit (drop 97 rs);
  notes = take note_count (drop 113 rs);
}

pub flatten_all : (r : BoardRecords) → flatten (all_records r) ≡ join_records r
unfolding join_records flatten
flatten_all r = simp (flatten_append, append-nil)

pub sizes_all : (r : BoardRecords) → RightSizes r → map length (all_records r) ≡ all_sizes
sizes_all r s = simp map-append (λ i. s.header i ∷ (s.users i ++ (s.posts i ++ (s.pending i ++ s.notes i))))

pub length_all : (rs : List (List ℕ)) → map length rs ≡ all_sizes → length (flatten rs) ≡ board_size
unfolding sum
length_all rs e = length-flatten rs ∙ ap (sum ◌+◌ 0) e

-- ---- the cut

-- what stands behind the records is not seen
pub cut_all : (rs : List (List ℕ)) (zs : List ℕ) → map length rs ≡ all_sizes ++ zs → cut_board (flatten rs) ≡ board_tables rs
unfolding cut_board pieces offset sum
cut_all rs zs e =
    let b : List ℕ = flatten rs in
    let ns : List ℕ = all_sizes ++ zs in
    let p : pieces ns 0 b ≡ rs = ap (λ (l : List ℕ). pieces l 0 b) (sym e) ∙ pieces-flatten rs in
    let table : (o n : ℕ) → pieces (take n (drop o ns)) (0 + offset ns o) b ≡ take n (drop o rs) =
    λ o n. sym (ap (take n) (drop-pieces o ns 0 b) ∙ take-pieces n (drop o ns) (0 + offset ns o) b) ∙ ap (λ (l : List (List ℕ)). take n (drop o l)) p
    in
    let h : bytes_at b 0 16 ≡ get_or rs 0 [] = ap (λ (l : List (List ℕ)). get_or l 0 []) p in
    let us = table 1 user_limit in
    let ps = table 33 post_limit in
    let ks = table 97 pending_limit in
    let ms = table 113 note_count in
    λ i. record { header = h i; users = us i; posts = ps i; pending = ks i; notes = ms i }

-- ---- bytes written into one record: which of all records, where in it, and where on the board

pub record Write : Type 0 where
  pub number : ℕ
  pub at : ℕ
  pub place : ℕ
  pub bytes : List ℕ

abbrev pub write_board : Write → List ℕ → List ℕ
write_board w b = patch b w.place w.bytes

abbrev pub write_records : Write → List (List ℕ) → List (List ℕ)
write_records w rs = set rs w.number (patch (get_or rs w.number []) w.at w.bytes)

-- there is such a record, it stands there on the board, and the bytes stay in it
abbrev pub write_tests : List ℕ → Write → List Bool
write_tests zs w =
    ltb w.number (length zs) ∷ eqb w.place (offset zs w.number + w.at)
    ∷ leb (w.at + length w.bytes) (get_or zs w.number 0) ∷ []

module _ (w : Write) (zs : List ℕ) (t : all_true (write_tests zs w) ≡ true) (rs : List (List ℕ)) (e : map length rs ≡ zs) where
  pub write_records_lem : (write_board w (flatten rs) ≡ flatten (write_records w rs)) × (map length (write_records w rs) ≡ zs)
  write_records_lem =
      let k : ℕ = w.number in
      let x : List ℕ = w.bytes in
      let o : ℕ = offset zs k in
      let h = ltb-true k (length zs) (true_at (write_tests zs w) 0 t (lit< tt)) in
      let p = eqb-true w.place (o + w.at) (true_at (write_tests zs w) 1 t (lit< tt)) in
      let l = leb-true (w.at + length x) (get_or zs k 0) (true_at (write_tests zs w) 2 t (lit< tt)) in
      let count : length rs ≡ length zs = sym (length-map rs length) ∙ ap length e in
      let there : k < length rs = omega arith in
      let old : List ℕ = get_or rs k [] in
      let size : length old ≡ get_or zs k 0 = sym (get_or-map length rs k []) ∙ ap (λ (ns : List ℕ). get_or ns k 0) e in
      let same : length (patch old w.at x) ≡ length old = length-patch old w.at x (omega arith) in
      let whole : length (flatten rs) ≡ sum ◌+◌ 0 zs = length-flatten rs ∙ ap (sum ◌+◌ 0) e in
      let inside = offset_le zs k in
      let bytes : write_board w (flatten rs) ≡ flatten (write_records w rs) =
      ap (λ (n : ℕ). patch (flatten rs) n x) p ∙ sym (patch-bytes_at (flatten rs) o (get_or zs k 0) w.at x (omega arith) l)
      ∙ ap (λ (y : List ℕ). patch (flatten rs) o (patch y w.at x)) (bytes_at-flatten zs rs k e there)
      ∙ patch-flatten zs rs k (patch old w.at x) e there (same ∙ size)
      in
      (bytes, map-set_same length rs k (patch old w.at x) [] same ∙ e)

-- ---- writes one after the other

abbrev pub writes_board : List Write → List ℕ → List ℕ
writes_board [] b = b
writes_board (w ∷ ws) b = writes_board ws (write_board w b)

abbrev pub writes_records : List Write → List (List ℕ) → List (List ℕ)
writes_records [] rs = rs
writes_records (w ∷ ws) rs = writes_records ws (write_records w rs)

abbrev pub writes_pass : List ℕ → List Write → Bool
writes_pass zs ws = for_all (λ (w : Write). all_true (write_tests zs w)) ws

pub writes_records_lem : (ws : List Write) (zs : List ℕ) → writes_pass zs ws ≡ true → (rs : List (List ℕ)) → map length rs ≡ zs
    → (writes_board ws (flatten rs) ≡ flatten (writes_records ws rs)) × (map length (writes_records ws rs) ≡ zs)
unfolding for_all
writes_records_lem [] zs t rs e = (refl, e)
writes_records_lem (w ∷ ws) zs t rs e =
    let one = write_records_lem w zs (and_left (all_true (write_tests zs w)) (writes_pass zs ws) t) rs e in
    let rest = writes_records_lem ws zs (and_right (all_true (write_tests zs w)) (writes_pass zs ws) t) (write_records w rs) one.1 in
    (ap (writes_board ws) one.0 ∙ rest.0, rest.1)
