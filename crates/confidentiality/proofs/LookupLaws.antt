-- Values looked up by number: the value of a list that stands at the place that a number has in a list of numbers, where one is added and
-- where one is set.
use Prim.Native.Nat.{ℕ}
use native.Mathlib.Omega.{arith}
use mathlib.Core.Path.{◌≡◌, refl, sym, ap, ◌∙◌}
use mathlib.Core.List.{List, [], ◌∷◌, ◌++◌}
use mathlib.Core.Bool.{Bool, true, false, false≢true, cond, ◌||◌}
use mathlib.Core.Option.{Option, some, none, some-injective, none-ne-some}
use lib.ListN.{length, get_or, set}
use lib.Dec.{eqb}
use borrow.Author.Tests.{ltb-true, eqb-true, eqb-false}
use Rattle.layout.specs.Search.{index_of, index_after}
use Rattle.model.specs.Lists.{for_all, contains}
use Rattle.model.proofs.ListLaws.{all_at, contains_cons, absent_cons}

-- the value of xs at the place of n in ns, if n is in ns; the lists have one length
unfoldable pub value_in : List ℕ → List ℕ → ℕ → Option ℕ
value_in ns xs n = cond (contains n ns) (some (get_or xs (index_of n ns) 0)) none

value_cons : (k : ℕ) (ns : List ℕ) (x : ℕ) (xs : List ℕ) (n : ℕ) → value_in (k ∷ ns) (x ∷ xs) n ≡ cond (eqb k n) (some x) (value_in ns xs n)
unfolding value_in index_of
value_cons k ns x xs n =
    ap (λ (t : Bool). cond t (some (get_or (x ∷ xs) (index_after (eqb k n) (index_of n ns)) 0)) none) (contains_cons n k ns) ∙ by_test (eqb k n)
  where
    by_test : (t : Bool) → cond (t || contains n ns) (some (get_or (x ∷ xs) (index_after t (index_of n ns)) 0)) none
        ≡ cond t (some x) (cond (contains n ns) (some (get_or xs (index_of n ns) 0)) none)
    by_test true = refl
    by_test false = refl

-- tests for two numbers, in either order, and one test made twice
tests_swap : {A : Type 0} (k m n : ℕ) (p q r : A) → eqb k m ≡ false → cond (eqb k n) p (cond (eqb m n) q r) ≡ cond (eqb m n) q (cond (eqb k n) p r)
tests_swap k m n p q r differ = by_tests (eqb k n) (eqb m n) refl refl
  where
    by_tests : (a b : Bool) → eqb k n ≡ a → eqb m n ≡ b → cond a p (cond b q r) ≡ cond b q (cond a p r)
    by_tests true true e f = absurd (eqb-false k m differ (eqb-true k n e ∙ sym (eqb-true m n f)))
    by_tests true false e f = refl
    by_tests false b e f = refl

tests_same : {A : Type 0} (t : Bool) (p q r : A) → cond t p r ≡ cond t p (cond t q r)
tests_same true p q r = refl
tests_same false p q r = refl

module _ (m x n : ℕ) where
  -- behind the others, under a number that is new
  pub value_add : (ns xs : List ℕ) → length ns ≡ length xs → contains m ns ≡ false
      → value_in (ns ++ (m ∷ [])) (xs ++ (x ∷ [])) n ≡ cond (eqb m n) (some x) (value_in ns xs n)
  unfolding value_in contains index_of
  value_add [] [] l e = value_cons m [] x [] n
  value_add [] (y ∷ xs) l e = absurd (omega arith)
  value_add (k ∷ ns) [] l e = absurd (omega arith)
  value_add (k ∷ ns) (y ∷ xs) l e =
      let other = absent_cons m k ns e in
      value_cons k (ns ++ (m ∷ [])) y (xs ++ (x ∷ [])) n
      ∙ ap (cond (eqb k n) (some y)) (value_add ns xs (omega arith) other.1)
      ∙ tests_swap k m n (some y) (some x) (value_in ns xs n) other.0
      ∙ ap (cond (eqb m n) (some x)) (sym (value_cons k ns y xs n))

  -- at the place of a number that is there
  pub value_set : (ns xs : List ℕ) → length ns ≡ length xs → contains m ns ≡ true
      → value_in ns (set xs (index_of m ns) x) n ≡ cond (eqb m n) (some x) (value_in ns xs n)
  unfolding contains index_of
  value_set [] xs l e = absurd (false≢true e)
  value_set (k ∷ ns) [] l e = absurd (omega arith)
  value_set (k ∷ ns) (y ∷ xs) l e = by_test (eqb k m) refl (sym (contains_cons m k ns) ∙ e) (value_set ns xs (omega arith))
    where
      by_test : (t : Bool) → eqb k m ≡ t → (t || contains m ns) ≡ true
          → (contains m ns ≡ true → value_in ns (set xs (index_of m ns) x) n ≡ cond (eqb m n) (some x) (value_in ns xs n))
          → value_in (k ∷ ns) (set (y ∷ xs) (index_after t (index_of m ns)) x) n ≡ cond (eqb m n) (some x) (value_in (k ∷ ns) (y ∷ xs) n)
      by_test true q f later =
          let same : eqb k n ≡ eqb m n = ap (λ (z : ℕ). eqb z n) (eqb-true k m q) in
          value_cons k ns x xs n ∙ ap (λ (t : Bool). cond t (some x) (value_in ns xs n)) same
          ∙ tests_same (eqb m n) (some x) (some y) (value_in ns xs n)
          ∙ ap (λ (t : Bool). cond (eqb m n) (some x) (cond t (some y) (value_in ns xs n))) (sym same)
          ∙ ap (cond (eqb m n) (some x)) (sym (value_cons k ns y xs n))
      by_test false q f later =
          value_cons k ns y (set xs (index_of m ns) x) n
          ∙ ap (cond (eqb k n) (some y)) (later f)
          ∙ tests_swap k m n (some y) (some x) (value_in ns xs n) q
          ∙ ap (cond (eqb m n) (some x)) (sym (value_cons k ns y xs n))

-- what all values pass
pub value_passes : (p : ℕ → Bool) (ns xs : List ℕ) (n x : ℕ) → length ns ≡ length xs → for_all p xs ≡ true → value_in ns xs n ≡ some x → p x ≡ true
unfolding value_in contains
value_passes p ns xs n x l all q = by_test (contains n ns) refl q
  where
    by_test : (b : Bool) → contains n ns ≡ b → cond b (some (get_or xs (index_of n ns) 0)) none ≡ some x → p x ≡ true
    by_test true e r =
        ap p (sym (some-injective (get_or xs (index_of n ns) 0) x r))
        ∙ all_at p xs (index_of n ns) 0 all (omega (arith, ltb-true (index_of n ns) (length ns) e))
    by_test false e r = absurd (none-ne-some x r)
