-- Laws of parts read (`bytes_at`), parts written (`patch`, `write_at`), runs of zeros, and rests that are lent.
use Prim.Native.Nat.{ℕ, zero, suc, ◌+◌, ◌-◌, ◌≤◌, ◌<◌}
use native.Mathlib.Nat.{add-zero, add_assoc, sub-zero, zero-sub, suc-sub-suc}
use native.Mathlib.Numerals.{add-one}
use native.Mathlib.Omega.{arith}
use mathlib.Core.Path.{◌≡◌, refl, sym, ap, ap₂, ◌∙◌}
use mathlib.Core.List.{List, [], ◌∷◌, ◌++◌, append_assoc, append-nil}
use mathlib.Core.Bool.{Bool, true, false, ◌&&◌, cond, and_assoc}
use lib.ListN.{length, take, drop, get_or, set, replicate, length-append, length-drop, take-append-drop}
use lib.Seq.{length-take-le, take_all, take-nil, take-take, take-add, drop-drop, drop-cons, take_at, take-append-add, take-append-le, drop-append-add, drop-append-le, drop-length, set_split}
use lib.Dec.{eqb, leb}
use borrow.Author.Rules.{part_to_end}
use borrow.Rule.Slice.PartMut.{put_mid, Post-is}
use borrow.Author.Tests.{le-leb, lt-leb, leb-true, eqb-true}
use Rattle.layout.specs.Bytes.{bytes_at, patch, write_at, all_zero}
use Rattle.layout.proofs.BooleanLaws.{and_left, and_right, and_both, tests_agree}
use Rattle.layout.proofs.RangeLaws.{range_fails}

-- ---- lengths

pub length-bytes_at : (b : List ℕ) (at n : ℕ) → at + n ≤ length b → length (bytes_at b at n) ≡ n
unfolding bytes_at
length-bytes_at b at n h = length-take-le n (drop at b) (rw length-drop (omega arith))

pub length-patch : (b : List ℕ) (at : ℕ) (x : List ℕ) → at + length x ≤ length b → length (patch b at x) ≡ length b
unfolding patch
length-patch b at x h =
    let e : length (take at b) ≡ at = length-take-le at b (omega arith) in
    let d : length (drop (at + length x) b) ≡ length b - (at + length x) = length-drop (at + length x) b in
    simp length-append (rw (e, d) (omega arith))

-- ---- a write, within range and beyond it

module _ (b : List ℕ) (at : ℕ) (x : List ℕ) {n : ℕ} (l : length x ≡ n) where
  pub write-within : at + n ≤ length b → write_at b at x ≡ patch b at x
  unfolding write_at
  write-within h = ap (λ (t : Bool). cond t (patch b at x) b) (le-leb (at + length x) (length b) (omega arith))

  pub write_beyond : length b < at + n → write_at b at x ≡ b
  unfolding write_at
  write_beyond h = ap (λ (t : Bool). cond t (patch b at x) b) (lt-leb (at + length x) (length b) (omega arith))

  -- where the test of the range refused
  pub write-refused : {r : Bool} → r ≡ leb (at + n) (length b) → r ≡ false → b ≡ write_at b at x
  write-refused e t = sym (write_beyond (range_fails at n (length b) e t))

pub length-write : (b : List ℕ) (at : ℕ) (x : List ℕ) → length (write_at b at x) ≡ length b
unfolding write_at
length-write b at x = by_test (leb (at + length x) (length b)) refl
  where
    by_test : (t : Bool) → leb (at + length x) (length b) ≡ t → length (cond t (patch b at x) b) ≡ length b
    by_test true e = length-patch b at x (leb-true (at + length x) (length b) e)
    by_test false e = refl

-- ---- parts of parts

pub bytes_at-bytes_at : (b : List ℕ) (o n o' n' : ℕ) → o' + n' ≤ n → bytes_at (bytes_at b o n) o' n' ≡ bytes_at b (o + o') n'
unfolding bytes_at
bytes_at-bytes_at b o n o' n' h = shorter (drop o b) n o' n' h ∙ ap (λ (l : List ℕ). take n' l) (drop-drop o' o b)
  where
    shorter : (l : List ℕ) (n o n' : ℕ) → o + n' ≤ n → take n' (drop o (take n l)) ≡ take n' (drop o l)
    shorter l n zero n' h = take-take n' n l (omega arith)
    shorter l zero (suc o) n' h = absurd (omega arith)
    shorter [] (suc n) (suc o) n' h = refl
    shorter (x ∷ l) (suc n) (suc o) n' h = shorter l n o n' (omega arith)

pub take-bytes_at : (b : List ℕ) (at m n : ℕ) → m ≤ n → take m (bytes_at b at n) ≡ bytes_at b at m
unfolding bytes_at
take-bytes_at b at m n h = take-take m n (drop at b) h

drop-take : (m n : ℕ) (l : List ℕ) → drop m (take n l) ≡ take (n - m) (drop m l)
drop-take zero n l = ap (λ (k : ℕ). take k l) (sym (sub-zero n))
drop-take (suc m) zero l = sym (ap (λ (k : ℕ). take k (drop (suc m) l)) (zero-sub (suc m)))
drop-take (suc m) (suc n) [] = sym (take-nil (suc n - suc m))
drop-take (suc m) (suc n) (x ∷ l) = drop-take m n l ∙ ap (λ (k : ℕ). take k (drop m l)) (sym (suc-sub-suc n m))

pub drop-bytes_at : (b : List ℕ) (at m n : ℕ) → drop m (bytes_at b at n) ≡ bytes_at b (at + m) (n - m)
unfolding bytes_at
drop-bytes_at b at m n = drop-take m n (drop at b) ∙ ap (take (n - m)) (drop-drop m at b)

pub bytes_at_all : (b : List ℕ) (n : ℕ) → length b ≡ n → bytes_at b 0 n ≡ b
unfolding bytes_at
bytes_at_all b n e = take_all n b (omega arith)

-- to the end
pub bytes_at_end : (b : List ℕ) (at n : ℕ) → length b ≤ at + n → bytes_at b at n ≡ drop at b
unfolding bytes_at
bytes_at_end b at n h = take_all n (drop at b) (rw length-drop (omega arith))

-- two parts, one behind the other, are one
pub bytes_at_join : (b : List ℕ) (at m n : ℕ) → bytes_at b at (m + n) ≡ bytes_at b at m ++ bytes_at b (at + m) n
unfolding bytes_at
bytes_at_join b at m n = take-add m n (drop at b) ∙ ap (λ (l : List ℕ). take m (drop at b) ++ take n l) (drop-drop m at b)

-- what stands from a place on, cut off behind n bytes
pub drop-split : (b : List ℕ) (at n : ℕ) → drop at b ≡ bytes_at b at n ++ drop (at + n) b
unfolding bytes_at
drop-split b at n = sym (take-append-drop n (drop at b)) ∙ ap (λ (l : List ℕ). take n (drop at b) ++ l) (drop-drop n at b)

pub bytes_at_none : (b : List ℕ) (at : ℕ) → bytes_at b at 0 ≡ []
unfolding bytes_at
bytes_at_none b at = refl

-- the first byte of a part, as code reads it
pub bytes_at_cons : (b : List ℕ) (at n : ℕ) → at < length b → bytes_at b at (suc n) ≡ get_or b at 0 ∷ bytes_at b (at + 1) n
unfolding bytes_at
bytes_at_cons b at n h =
    ap (take (suc n)) (drop-cons b at 0 h) ∙ ap (λ (k : ℕ). get_or b at 0 ∷ take n (drop k b)) (sym (add-one at))

-- ---- writes

pub patch_nil : (b : List ℕ) (at : ℕ) → patch b at [] ≡ b
unfolding patch
patch_nil b at = ap (λ (k : ℕ). take at b ++ drop k b) (add-zero at) ∙ take-append-drop at b

-- a write behind the first of two lists, and one that stays in it
pub patch_right : (p q : List ℕ) (m : ℕ) (x : List ℕ) → patch (p ++ q) (length p + m) x ≡ p ++ patch q m x
unfolding patch
patch_right p q m x =
    ap₂ (λ (s t : List ℕ). s ++ (x ++ t)) (take-append-add p q m) (rw add_assoc (drop-append-add p q (m + length x)))
    ∙ append_assoc p (take m q) (x ++ drop (m + length x) q)

pub patch-left : (p q : List ℕ) (at : ℕ) (x : List ℕ) → at + length x ≤ length p → patch (p ++ q) at x ≡ patch p at x ++ q
unfolding patch
patch-left p q at x h =
    let l : at ≤ length p = omega arith in
    rw (take-append-le at p q, drop-append-le (at + length x) p q) (simp append_assoc)

patch-front : (t : List ℕ) (n at : ℕ) (x : List ℕ) → n ≤ length t → at + length x ≤ n → patch t 0 (patch (take n t) at x) ≡ patch t at x
unfolding patch
patch-front t n at x h l =
    let ln : length (take n t) ≡ n = length-take-le n t h in
    let ly : length (patch (take n t) at x) ≡ n = length-patch (take n t) at x (omega arith) ∙ ln in
    let e : 0 + length (patch (take n t) at x) ≡ n = omega arith in
    ap (λ (k : ℕ). patch (take n t) at x ++ drop k t) e
    ∙ sym (patch-left (take n t) (drop n t) at x (omega arith))
    ∙ ap (λ (s : List ℕ). patch s at x) (take-append-drop n t)

-- a write into a part, and the part put back, is the write at the sum of the places
pub patch-bytes_at : (b : List ℕ) (o n o' : ℕ) (x : List ℕ) → o + n ≤ length b → o' + length x ≤ n
    → patch b o (patch (bytes_at b o n) o' x) ≡ patch b (o + o') x
unfolding bytes_at
patch-bytes_at b o n o' x h l =
    let p : List ℕ = take o b in
    let t : List ℕ = drop o b in
    let lp : length p ≡ o = length-take-le o b (omega arith) in
    let lt : length t ≡ length b - o = length-drop o b in
    let behind : (m : ℕ) (y : List ℕ) → patch b (o + m) y ≡ p ++ patch t m y =
    λ m y. ap₂ (λ (s : List ℕ) (k : ℕ). patch s (k + m) y) (sym (take-append-drop o b)) (sym lp) ∙ patch_right p t m y
    in
    ap (λ (k : ℕ). patch b k (patch (take n t) o' x)) (sym (add-zero o))
    ∙ behind 0 (patch (take n t) o' x) ∙ ap (λ (s : List ℕ). p ++ s) (patch-front t n o' x (omega arith) l) ∙ sym (behind o' x)

-- a store is a write of one byte
pub patch_store : (b : List ℕ) (at v : ℕ) → at < length b → set b at v ≡ patch b at (v ∷ [])
unfolding patch
patch_store b at v h = set_split b at v h ∙ ap (λ (k : ℕ). take at b ++ (v ∷ drop k b)) (sym (add-one at))

-- adjacent writes join: a second one right behind the first
pub patch_join : (b : List ℕ) (at : ℕ) (x y : List ℕ) → at + (length x + length y) ≤ length b
    → patch (patch b at x) (at + length x) y ≡ patch b at (x ++ y)
unfolding patch
patch_join b at x y h =
    let p : List ℕ = take at b ++ x in
    let q : List ℕ = drop (at + length x) b in
    let la : length (take at b) ≡ at = length-take-le at b (omega arith) in
    let lp : length p ≡ at + length x = length-append (take at b) x ∙ omega arith in
    let e : take at b ++ (x ++ q) ≡ p ++ q = sym (append_assoc (take at b) x q) in
    let t : take (at + length x) (take at b ++ (x ++ q)) ≡ p = ap (take (at + length x)) e ∙ take_at p q (at + length x) lp in
    let d : drop (at + length x + length y) (take at b ++ (x ++ q)) ≡ drop (at + length (x ++ y)) b =
    ap (drop (at + length x + length y)) e
    ∙ ap (λ (k : ℕ). drop (k + length y) (p ++ q)) (sym lp) ∙ drop-append-add p q (length y)
    ∙ drop-drop (length y) (at + length x) b
    ∙ ap (λ (k : ℕ). drop k b) (add_assoc at (length x) (length y) ∙ ap (λ (k : ℕ). at + k) (sym (length-append x y)))
    in
    ap₂ (λ (u v : List ℕ). u ++ (y ++ v)) t d ∙ regroup (take at b) x y (drop (at + length (x ++ y)) b)
  where
    regroup : (a x y z : List ℕ) → a ++ x ++ (y ++ z) ≡ a ++ (x ++ y ++ z)
    regroup a x y z = simp append_assoc

-- the same with what a function has left in b: x at a place, and y right behind it
pub write_patches : (b : List ℕ) (at : ℕ) (x : List ℕ) {b₁ : List ℕ} → at + length x ≤ length b → b₁ ≡ write_at b at x → b₁ ≡ patch b at x
write_patches b at x h e = e ∙ write-within b at x refl h

module _ (b : List ℕ) (at : ℕ) (x y : List ℕ) {b₁ b₂ : List ℕ} {k : ℕ} (e : b₁ ≡ patch b at x) (l : k ≡ at + length x)
    (h : at + (length x + length y) ≤ length b) where
  pub patch-behind : b₂ ≡ patch b₁ k y → b₂ ≡ patch b at (x ++ y)
  patch-behind f = f ∙ ap₂ (λ (c : List ℕ) (i : ℕ). patch c i y) e l ∙ patch_join b at x y h

  pub write-behind : b₂ ≡ write_at b₁ k y → b₂ ≡ patch b at (x ++ y)
  write-behind f =
      let n : length b₁ ≡ length b = ap length e ∙ length-patch b at x (omega arith) in
      patch-behind (write_patches b₁ k y (omega arith) f)

-- ---- runs of zeros

pub zero_append : (xs ys : List ℕ) → all_zero (xs ++ ys) ≡ (all_zero xs && all_zero ys)
unfolding all_zero
zero_append [] ys = refl
zero_append (x ∷ xs) ys = ap (λ (t : Bool). eqb x 0 && t) (zero_append xs ys) ∙ sym (and_assoc (eqb x 0) (all_zero xs) (all_zero ys))

pub zero_join : (b : List ℕ) (at m n : ℕ) → all_zero (bytes_at b at (m + n)) ≡ (all_zero (bytes_at b at m) && all_zero (bytes_at b (at + m) n))
zero_join b at m n = ap all_zero (bytes_at_join b at m n) ∙ zero_append (bytes_at b at m) (bytes_at b (at + m) n)

pub zero-replicate : (xs : List ℕ) → all_zero xs ≡ true → xs ≡ replicate (length xs) 0
unfolding all_zero
zero-replicate [] e = refl
zero-replicate (x ∷ xs) e =
    ap₂ (λ (a : ℕ) (r : List ℕ). a ∷ r)
    (eqb-true x 0 (and_left (eqb x 0) (all_zero xs) e))
    (zero-replicate xs (and_right (eqb x 0) (all_zero xs) e))

pub replicate-zero : (n : ℕ) → all_zero (replicate n 0) ≡ true
unfolding all_zero
replicate-zero zero = refl
replicate-zero (suc n) = replicate-zero n

module _ (b : List ℕ) (at : ℕ) where
  -- the first bytes of a run of zeros are one
  pub zero-front : (m n : ℕ) → m ≤ n → all_zero (bytes_at b at n) ≡ true → all_zero (bytes_at b at m) ≡ true
  zero-front m n h e =
      let s : m + (n - m) ≡ n = omega arith in
      and_left (all_zero (bytes_at b at m)) (all_zero (bytes_at b (at + m) (n - m)))
      (sym (zero_join b at m (n - m)) ∙ ap (λ (k : ℕ). all_zero (bytes_at b at k)) s ∙ e)

  -- two runs that may overlap are one: the second begins within the first or right behind it and does not end before it
  pub zero_cover : (m o n : ℕ) → o ≤ m → m ≤ o + n → (all_zero (bytes_at b at m) && all_zero (bytes_at b (at + o) n)) ≡ all_zero (bytes_at b at (o + n))
  zero_cover m o n h l =
      let first : Bool = all_zero (bytes_at b at m) in
      let second : Bool = all_zero (bytes_at b (at + o) n) in
      tests_agree (first && second) (all_zero (bytes_at b at (o + n)))
      (λ e. zero_join b at o n ∙ and_both (zero-front o m h (and_left first second e)) (and_right first second e))
      (λ e. and_both (zero-front m (o + n) l e) (and_right (all_zero (bytes_at b at o)) second (sym (zero_join b at o n) ∙ e)))

-- ---- the rest of a list from a place on, as it is lent, and put back

pub length_rest : (b : List ℕ) (at : ℕ) → length (take (length b - at) (drop at b)) ≡ length b - at
length_rest b at = rw part_to_end (length-drop at b)

pub put_rest : (b : List ℕ) (at : ℕ) (x : List ℕ) → at ≤ length b → put_mid at (length b - at) b x ≡ take at b ++ x
put_rest b at x h =
    ap (λ (l : List ℕ). take at b ++ (x ++ l)) (Post-is at (length b) b h ∙ drop-length b) ∙ ap (λ (l : List ℕ). take at b ++ l) (append-nil x)
