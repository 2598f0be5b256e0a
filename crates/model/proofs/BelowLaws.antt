-- Laws of `all_below`: of numbers taken in two parts or in rows, of pairs, of tests that agree, and of a list whose elements all pass.
use Prim.Native.Nat.{ℕ, zero, suc, ◌+◌, ◌*◌, ◌<◌}
use native.Mathlib.Nat.{add-zero, add-suc, mul-zero, mul-suc, eq-or-lt_of_le}
use native.Mathlib.Omega.{arith}
use mathlib.Core.Path.{◌≡◌, refl, sym, ap, ap₂, ◌∙◌}
use mathlib.Core.Logic.{inl, inr}
use mathlib.Core.List.{List}
use mathlib.Core.Bool.{Bool, true, ◌&&◌, and_assoc, and-true}
use lib.ListN.{length, get_or}
use lib.Dec.{ltb}
use borrow.Author.Tests.{ltb-true, ltb-false}
use borrow.Table.Steps.{cases}
use Rattle.layout.proofs.BooleanLaws.{and_exchange, tests_agree}
use Rattle.model.specs.Lists.{for_all, all_below}
use Rattle.model.proofs.ListLaws.{all_at, all_by, below_at, below_by}

-- tests that agree
pub below-same : (n : ℕ) (p q : ℕ → Bool) → ((i : ℕ) → i < n → p i ≡ q i) → all_below n p ≡ all_below n q
unfolding all_below
below-same zero p q f = refl
below-same (suc n) p q f = ap₂ ◌&&◌ (below-same n p q (λ i h. f i (omega arith))) (f n (omega arith))

-- two tests are one
pub below_both : (n : ℕ) (p q : ℕ → Bool) → (all_below n p && all_below n q) ≡ all_below n (λ (i : ℕ). p i && q i)
unfolding all_below
below_both zero p q = refl
below_both (suc n) p q =
    and_exchange (all_below n p) (p n) (all_below n q) (q n) ∙ ap (λ (t : Bool). t && (p n && q n)) (below_both n p q)

-- the first m numbers and the n behind them
pub below_plus : (p : ℕ → Bool) (m n : ℕ) → all_below (m + n) p ≡ (all_below m p && all_below n (λ (k : ℕ). p (m + k)))
unfolding all_below
below_plus p m zero = ap (λ (k : ℕ). all_below k p) (add-zero m) ∙ sym (and-true (all_below m p))
below_plus p m (suc n) =
    ap (λ (k : ℕ). all_below k p) (add-suc m n) ∙ ap (λ (t : Bool). t && p (m + n)) (below_plus p m n)
    ∙ and_assoc (all_below m p) (all_below n (λ (k : ℕ). p (m + k))) (p (m + n))

-- the numbers below d * c, taken d at a time
pub below_grid : (d c : ℕ) (p : ℕ → Bool) → all_below (d * c) p ≡ all_below c (λ (i : ℕ). all_below d (λ (j : ℕ). p (d * i + j)))
unfolding all_below
below_grid d zero p = ap (λ (k : ℕ). all_below k p) (mul-zero d)
below_grid d (suc c) p =
    ap (λ (k : ℕ). all_below k p) (mul-suc d c) ∙ below_plus p (d * c) d
    ∙ ap (λ (t : Bool). t && all_below d (λ (j : ℕ). p (d * c + j))) (below_grid d c p)

-- a test of pairs that holds of j and i where it holds of i and j, and of i and i, is a test of the pairs with j below i
pub half_of_pairs : (n : ℕ) (p : ℕ → ℕ → Bool) → ((i j : ℕ) → p i j ≡ true → p j i ≡ true) → ((i : ℕ) → p i i ≡ true)
    → all_below n (λ (i : ℕ). all_below i (p i)) ≡ all_below n (λ (i : ℕ). all_below n (p i))
half_of_pairs n p swapped same =
    tests_agree (all_below n half) (all_below n full)
    (λ e. below_by n full (λ i h. below_by n (p i) (λ j l. by_order e i j h l)))
    (λ e. below_by n half (λ i h. below_by i (p i) (λ j l. below_at n (p i) (below_at n full e i h) j (omega arith))))
  where
    half : ℕ → Bool
    half i = all_below i (p i)

    full : ℕ → Bool
    full i = all_below n (p i)

    lower : all_below n half ≡ true → (i j : ℕ) → i < n → j < i → p i j ≡ true
    lower e i j h l = below_at i (p i) (below_at n half e i h) j l

    by_order : all_below n half ≡ true → (i j : ℕ) → i < n → j < n → p i j ≡ true
    by_order e i j h l =
        cases (ltb j i) (λ t. lower e i j h (ltb-true j i t))
        (λ t. elim (eq-or-lt_of_le (ltb-false j i t)) [ inl q ↦ ap (p i) (sym q) ∙ same i | inr k ↦ swapped j i (lower e j i l k) ])

-- every element of a list passes exactly if that at each place does; at place i stands f i
pub all_below_lem : {A : Type 0} (p : A → Bool) (xs : List A) (d : A) (f : ℕ → A) {n : ℕ} → length xs ≡ n → ((i : ℕ) → i < n → get_or xs i d ≡ f i)
    → for_all p xs ≡ all_below n (λ (i : ℕ). p (f i))
all_below_lem p xs d f {n} l at =
    let q : ℕ → Bool = λ i. p (f i) in
    tests_agree (for_all p xs) (all_below n q)
    (λ e. below_by n q (λ i h. ap p (sym (at i h)) ∙ all_at p xs i d e (omega arith)))
    (λ e. all_by p xs d (λ i h. ap p (at i (omega arith)) ∙ below_at n q e i (omega arith)))
