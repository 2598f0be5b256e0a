-- A record is the concatenation of its fields, a table that of its records, a board that of its regions.
-- `bytes_at-flatten` and `patch-flatten` read and write one part of a concatenation; `bytes_at-field` and `patch-field` do so where the
-- concatenation is itself a part of b, and `bytes_at-record` and `patch-record` where its parts have one size.
use Prim.Native.Nat.{ℕ, zero, suc, ◌+◌, ◌*◌, ◌≤◌, ◌<◌}
use native.Mathlib.Nat.{zero-add, zero-mul, suc-mul, add_comm, not-suc-le-zero, le_of_suc-le-suc, le_of_lt}
use native.Mathlib.Omega.{arith}
use mathlib.Core.Path.{◌≡◌, refl, sym, ap, ap₂, ◌∙◌, subst}
use mathlib.Core.List.{List, [], ◌∷◌, ◌++◌, map, flatten, sum, append_assoc}
use lib.ListN.{length, take, get_or, set, replicate, length-append, length-map, length-replicate, get_or-replicate, replicate-append-replicate}
use lib.Seq.{take-append_seam, drop-append_seam, drop-append-add, drop_at}
use Rattle.layout.specs.Bytes.{bytes_at, patch, offset, pieces}
use Rattle.layout.proofs.ByteLaws.{length-bytes_at, bytes_at_none, bytes_at_join, bytes_at-bytes_at, patch_right, patch-bytes_at}

pub flatten_append : (xs ys : List (List ℕ)) → flatten (xs ++ ys) ≡ flatten xs ++ flatten ys
unfolding flatten
flatten_append [] ys = refl
flatten_append (x ∷ xs) ys = ap (λ (l : List ℕ). x ++ l) (flatten_append xs ys) ∙ sym (append_assoc x (flatten xs) (flatten ys))

pub length-flatten : (fs : List (List ℕ)) → length (flatten fs) ≡ sum ◌+◌ 0 (map length fs)
unfolding flatten sum
length-flatten [] = refl
length-flatten (f ∷ fs) = length-append f (flatten fs) ∙ ap (λ (n : ℕ). length f + n) (length-flatten fs)

-- pieces one behind the other are the part that was cut
pub flatten-pieces : (zs : List ℕ) (at : ℕ) (b : List ℕ) → flatten (pieces zs at b) ≡ bytes_at b at (sum ◌+◌ 0 zs)
unfolding flatten pieces sum
flatten-pieces [] at b = sym (bytes_at_none b at)
flatten-pieces (z ∷ zs) at b =
    ap (λ (l : List ℕ). bytes_at b at z ++ l) (flatten-pieces zs (at + z) b) ∙ sym (bytes_at_join b at z (sum ◌+◌ 0 zs))

pub length-pieces : (zs : List ℕ) (at : ℕ) (b : List ℕ) → length (pieces zs at b) ≡ length zs
unfolding pieces
length-pieces [] at b = refl
length-pieces (z ∷ zs) at b = ap suc (length-pieces zs (at + z) b)

pub sizes-pieces : (zs : List ℕ) (at : ℕ) (b : List ℕ) → at + sum ◌+◌ 0 zs ≤ length b → map length (pieces zs at b) ≡ zs
unfolding pieces sum
sizes-pieces [] at b h = refl
sizes-pieces (z ∷ zs) at b h =
    ap₂ (λ (x : ℕ) (xs : List ℕ). x ∷ xs) (length-bytes_at b at z (omega arith)) (sizes-pieces zs (at + z) b (omega arith))

-- a concatenation cut at the sizes of its parts
pieces-behind : (p : List ℕ) (fs : List (List ℕ)) → pieces (map length fs) (length p) (p ++ flatten fs) ≡ fs
unfolding flatten pieces bytes_at
pieces-behind p [] = refl
pieces-behind p (f ∷ fs) =
    ap₂ (λ (x : List ℕ) (xs : List (List ℕ)). x ∷ xs)
    (ap (take (length f)) (drop-append_seam p (f ++ flatten fs)) ∙ take-append_seam f (flatten fs))
    (ap₂ (pieces (map length fs)) (sym (length-append p f)) (sym (append_assoc p f (flatten fs))) ∙ pieces-behind (p ++ f) fs)

pub pieces-flatten : (fs : List (List ℕ)) → pieces (map length fs) 0 (flatten fs) ≡ fs
pieces-flatten fs = pieces-behind [] fs

-- zeros in records are zeros
pub flatten-zeros : (c z : ℕ) → flatten {A = ℕ} (replicate c (replicate z 0)) ≡ replicate (c * z) 0
unfolding flatten
flatten-zeros zero z = ap (λ (k : ℕ). replicate k 0) (sym (zero-mul z))
flatten-zeros (suc c) z =
    ap (λ (x : List ℕ). replicate z 0 ++ x) (flatten-zeros c z) ∙ replicate-append-replicate z (c * z) 0
    ∙ ap (λ (k : ℕ). replicate k 0) (add_comm z (c * z) ∙ sym (suc-mul c z))

-- ---- part k of a concatenation, read and written

get_or-length : (fs : List (List ℕ)) (k : ℕ) → get_or (map length fs) k 0 ≡ length (get_or fs k [])
get_or-length [] k = refl
get_or-length (f ∷ fs) zero = refl
get_or-length (f ∷ fs) (suc k) = get_or-length fs k

part-own : (fs : List (List ℕ)) (k : ℕ) → k < length fs → bytes_at (flatten fs) (offset (map length fs) k) (length (get_or fs k [])) ≡ get_or fs k []
unfolding flatten offset sum bytes_at
part-own [] k h = absurd (not-suc-le-zero h)
part-own (f ∷ fs) zero h = take-append_seam f (flatten fs)
part-own (f ∷ fs) (suc k) h =
    ap (take (length (get_or fs k []))) (drop-append-add f (flatten fs) (offset (map length fs) k)) ∙ part-own fs k (le_of_suc-le-suc h)

patch-own : (fs : List (List ℕ)) (k : ℕ) (x : List ℕ) → k < length fs → length x ≡ length (get_or fs k [])
    → patch (flatten fs) (offset (map length fs) k) x ≡ flatten (set fs k x)
unfolding flatten offset sum patch
patch-own [] k x h e = absurd (not-suc-le-zero h)
patch-own (f ∷ fs) zero x h e = ap (λ (l : List ℕ). x ++ l) (drop_at f (flatten fs) (0 + length x) (sym e ∙ sym (zero-add (length x))))
patch-own (f ∷ fs) (suc k) x h e =
    patch_right f (flatten fs) (offset (map length fs) k) x ∙ ap (λ (l : List ℕ). f ++ l) (patch-own fs k x (le_of_suc-le-suc h) e)

pub bytes_at-flatten : (zs : List ℕ) (fs : List (List ℕ)) (k : ℕ) → map length fs ≡ zs → k < length fs
    → bytes_at (flatten fs) (offset zs k) (get_or zs k 0) ≡ get_or fs k []
bytes_at-flatten zs fs k e h =
    subst (λ (l : List ℕ). bytes_at (flatten fs) (offset l k) (get_or l k 0) ≡ get_or fs k []) e (rw (get_or-length fs k) (part-own fs k h))

pub patch-flatten : (zs : List ℕ) (fs : List (List ℕ)) (k : ℕ) (x : List ℕ) → map length fs ≡ zs → k < length fs → length x ≡ get_or zs k 0
    → patch (flatten fs) (offset zs k) x ≡ flatten (set fs k x)
patch-flatten zs fs k x e h l =
    subst (λ (s : List ℕ). patch (flatten fs) (offset s k) x ≡ flatten (set fs k x)) e
    (patch-own fs k x h (l ∙ ap (λ (s : List ℕ). get_or s k 0) (sym e) ∙ get_or-length fs k))

-- ---- fields: the n bytes of b from place o are a concatenation

pub offset_le : (zs : List ℕ) (k : ℕ) → offset zs k + get_or zs k 0 ≤ sum ◌+◌ 0 zs
unfolding offset sum
offset_le [] zero = omega arith
offset_le [] (suc k) = omega arith
offset_le (z ∷ zs) zero = omega arith
offset_le (z ∷ zs) (suc k) = let h = offset_le zs k in omega arith

module _ (b : List ℕ) (o n : ℕ) (zs : List ℕ) (fs : List (List ℕ)) (e : bytes_at b o n ≡ flatten fs) (s : map length fs ≡ zs) (t : sum ◌+◌ 0 zs ≡ n) (k : ℕ) (h : k < length fs) where
  pub bytes_at-field : bytes_at b (o + offset zs k) (get_or zs k 0) ≡ get_or fs k []
  bytes_at-field =
      let l = offset_le zs k in
      sym (bytes_at-bytes_at b o n (offset zs k) (get_or zs k 0) (omega arith))
      ∙ ap (λ (x : List ℕ). bytes_at x (offset zs k) (get_or zs k 0)) e ∙ bytes_at-flatten zs fs k s h

  pub patch-field : (x : List ℕ) → o + n ≤ length b → length x ≡ get_or zs k 0 → patch b (o + offset zs k) x ≡ patch b o (flatten (set fs k x))
  patch-field x f l =
      let p = offset_le zs k in
      sym (patch-bytes_at b o n (offset zs k) x f (omega arith))
      ∙ ap (λ (y : List ℕ). patch b o (patch y (offset zs k) x)) e ∙ ap (patch b o) (patch-flatten zs fs k x s h l)

-- ---- records: the bytes of b from place o are a table of c records of z bytes

pub sum-replicate : (c z : ℕ) → sum ◌+◌ 0 (replicate c z) ≡ c * z
unfolding sum
sum-replicate zero z = sym (zero-mul z)
sum-replicate (suc c) z = ap (λ (n : ℕ). z + n) (sum-replicate c z) ∙ add_comm z (c * z) ∙ sym (suc-mul c z)

pub take-replicate : {A : Type 0} (k c : ℕ) (a : A) → k ≤ c → take k (replicate c a) ≡ replicate k a
take-replicate zero c a h = refl
take-replicate (suc k) zero a h = absurd (not-suc-le-zero h)
take-replicate (suc k) (suc c) a h = ap (λ (r : List _). a ∷ r) (take-replicate k c a (le_of_suc-le-suc h))

-- record i starts at i * z
pub offset-replicate : (c z i : ℕ) → i ≤ c → offset (replicate c z) i ≡ i * z
unfolding offset
offset-replicate c z i h = ap (sum ◌+◌ 0) (take-replicate i c z h) ∙ sum-replicate i z

module _ (b : List ℕ) (o z c : ℕ) (rs : List (List ℕ)) (e : bytes_at b o (c * z) ≡ flatten rs) (s : map length rs ≡ replicate c z) (i : ℕ) (h : i < c) where
  in_table : i < length rs
  in_table = let l : length rs ≡ c = sym (length-map rs length) ∙ ap length s ∙ length-replicate c z in omega arith

  pub bytes_at-record : bytes_at b (o + i * z) z ≡ get_or rs i []
  bytes_at-record =
      subst (λ (k : ℕ). bytes_at b (o + k) z ≡ get_or rs i []) (offset-replicate c z i (le_of_lt h))
      (subst (λ (k : ℕ). bytes_at b (o + offset (replicate c z) i) k ≡ get_or rs i []) (get_or-replicate c i z 0 h)
      (bytes_at-field b o (c * z) (replicate c z) rs e s (sum-replicate c z) i in_table))

  pub patch-record : (x : List ℕ) → o + c * z ≤ length b → length x ≡ z → patch b (o + i * z) x ≡ patch b o (flatten (set rs i x))
  patch-record x f l =
      subst (λ (k : ℕ). patch b (o + k) x ≡ patch b o (flatten (set rs i x))) (offset-replicate c z i (le_of_lt h))
      (patch-field b o (c * z) (replicate c z) rs e s (sum-replicate c z) i in_table x f (l ∙ sym (get_or-replicate c i z 0 h)))
