-- Answers at the front of a buffer, one behind the other.
use Prim.Native.Nat.{ℕ, ◌+◌}
use native.Mathlib.Nat.{zero-add}
use native.Mathlib.Omega.{arith}
use mathlib.Core.Path.{◌≡◌, refl, sym, ap, ◌∙◌}
use mathlib.Core.List.{List, ◌++◌, append_assoc}
use lib.ListN.{length, take, drop, length-append}
use lib.Seq.{take_at, drop_at, drop-drop}
use Rattle.layout.specs.Bytes.{patch}

module _ (o x : List ℕ) where
  pub patch-start : patch o 0 x ≡ x ++ drop (length x) o
  unfolding patch
  patch-start = ap (λ (k : ℕ). x ++ drop k o) (zero-add (length x))

  pub take-start : take (length x) (patch o 0 x) ≡ x
  take-start = ap (take (length x)) patch-start ∙ take_at x (drop (length x) o) (length x) refl

  pub drop-start : drop (length x) (patch o 0 x) ≡ drop (length x) o
  drop-start = ap (drop (length x)) patch-start ∙ drop_at x (drop (length x) o) (length x) refl

  -- a second one right behind it
  pub patch-behind : (y : List ℕ) → x ++ patch (drop (length x) o) 0 y ≡ patch o 0 (x ++ y)
  unfolding patch
  patch-behind y =
      let e : length x + (0 + length y) ≡ 0 + length (x ++ y) = let l = length-append x y in omega arith in
      ap (λ (rest : List ℕ). x ++ (y ++ rest)) (drop-drop (0 + length y) (length x) o ∙ ap (λ (k : ℕ). drop k o) e)
      ∙ sym (append_assoc x y (drop (0 + length (x ++ y)) o))
