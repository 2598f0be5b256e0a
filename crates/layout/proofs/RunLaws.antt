-- Laws of runs of bytes: gathered by `|`, written to a part of a slice, moved to an earlier place.
use Prim.Native.Nat.{ℕ, zero, suc, ◌+◌, ◌-◌, ◌≤◌}
use native.Mathlib.Omega.{arith}
use mathlib.Core.Path.{◌≡◌, refl, sym, ap, ap₂, ◌∙◌}
use mathlib.Core.List.{List, [], ◌∷◌, ◌++◌, append_assoc}
use mathlib.Core.Bool.{Bool, ◌&&◌, and_assoc, and-true}
use lib.ListN.{length, take, drop}
use lib.Seq.{paste}
use lib.Dec.{eqb}
use Rattle.std.specs.List.{fold}
use lib.Bits.{bit_or, or_add_and, and_le_l, and_le_r}
use borrow.Author.Tests.{eq-eqb, ne_eqb}
use borrow.Rule.Slice.PartMut.{put_mid, Post-is}
use Rattle.layout.specs.Bytes.{bytes_at, patch, write_at, all_zero}
use Rattle.layout.proofs.ByteLaws.{length-bytes_at, write-within, zero_join}

-- ---- gathering

pub zero-both : (a x y : ℕ) → (x ≡ 0 → y ≡ 0 → a ≡ 0) → (a ≡ 0 → (x ≡ 0) × (y ≡ 0)) → eqb a 0 ≡ (eqb x 0 && eqb y 0)
zero-both a zero zero f g = eq-eqb a 0 (f refl refl)
zero-both a zero (suc y) f g = ne_eqb a 0 (λ e. let h = (g e).1 in omega arith) ∙ sym (ne_eqb (suc y) 0 (λ e. omega arith))
zero-both a (suc x) y f g = ne_eqb a 0 (λ e. let h = (g e).0 in omega arith) ∙ sym (ap (λ (t : Bool). t && eqb y 0) (ne_eqb (suc x) 0 (λ e. omega arith)))

-- an or is zero when both of its parts are
pub or_zero : (x y : ℕ) → eqb (bit_or x y) 0 ≡ (eqb x 0 && eqb y 0)
or_zero x y =
    let s = or_add_and x y in
    let l = and_le_l x y in
    let r = and_le_r x y in
    zero-both (bit_or x y) x y (λ p q. omega arith) (λ e. (omega arith, omega arith))

pub or_both : (x y : ℕ) {s t : Bool} → eqb x 0 ≡ s → eqb y 0 ≡ t → eqb (bit_or x y) 0 ≡ (s && t)
or_both x y e f = or_zero x y ∙ ap₂ (λ (s t : Bool). s && t) e f

-- bytes gathered by `|`
pub gathered_zero : (gathered : ℕ) (xs : List ℕ) → eqb (fold bit_or gathered xs) 0 ≡ (eqb gathered 0 && all_zero xs)
unfolding all_zero
gathered_zero gathered [] = sym (and-true (eqb gathered 0))
gathered_zero gathered (x ∷ xs) =
    gathered_zero (bit_or gathered x) xs
    ∙ ap (λ (t : Bool). t && all_zero xs) (or_zero gathered x) ∙ and_assoc (eqb gathered 0) (eqb x 0) (all_zero xs)

-- what is gathered, and what is left up to `end`
module _ (b : List ℕ) (i end gathered : ℕ) where
  -- w is zero when the next k bytes are
  pub gather_next : (k w : ℕ) → k ≤ end - i → eqb w 0 ≡ all_zero (bytes_at b i k)
      → (eqb (bit_or gathered w) 0 && all_zero (bytes_at b (i + k) (end - (i + k)))) ≡ (eqb gathered 0 && all_zero (bytes_at b i (end - i)))
  gather_next k w h e =
      let left : ℕ = end - (i + k) in
      let d : k + left ≡ end - i = omega arith in
      ap (λ (t : Bool). t && all_zero (bytes_at b (i + k) left)) (or_both gathered w refl e)
      ∙ and_assoc (eqb gathered 0) (all_zero (bytes_at b i k)) (all_zero (bytes_at b (i + k) left))
      ∙ ap (λ (t : Bool). eqb gathered 0 && t) (sym (zero_join b i k left) ∙ ap (λ (n : ℕ). all_zero (bytes_at b i n)) d)

-- ---- a part of a slice written, and put back

pub copied : (b : List ℕ) (at : ℕ) (s : List ℕ) {n : ℕ} {y : List ℕ} → length s ≡ n → at + n ≤ length b → y ≡ s
    → put_mid at (at + n - at) b y ≡ write_at b at s
unfolding patch
copied b at s {n} l h e =
    ap₂ (λ (p q : List ℕ). take at b ++ (p ++ q)) e (Post-is at (at + n) b (omega arith) ∙ ap (λ (k : ℕ). drop (at + k) b) (sym l))
    ∙ sym (write-within b at s l h)

-- bytes moved to an earlier place
pub moved : (b : List ℕ) (to from n : ℕ) → from + n ≤ length b → paste b to (drop from b) n ≡ patch b to (bytes_at b from n)
unfolding patch bytes_at
moved b to from n h =
    append_assoc (take to b) (bytes_at b from n) (drop (to + n) b)
    ∙ ap (λ (k : ℕ). take to b ++ (bytes_at b from n ++ drop (to + k) b)) (sym (length-bytes_at b from n h))
