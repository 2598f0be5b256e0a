-- What a loop keeps that leaves at the first of n numbers whose test fails: a clause tests each number below n, and those below i passed.
use Prim.Native.Nat.{ℕ, ◌+◌, ◌≤◌, ◌<◌}
use native.Mathlib.Numerals.{add-one}
use native.Mathlib.Omega.{arith}
use mathlib.Core.Path.{◌≡◌, refl, sym, ap, ◌∙◌}
use mathlib.Core.List.{List, [], ◌∷◌}
use Rattle.std.specs.List.{list_all}
use lib.ListN.{length, get_or}
use mathlib.Core.Bool.{Bool, true, false, ◌&&◌, true≢false}
use Rattle.layout.proofs.BooleanLaws.{and_both, refuted, chain_stops, chain_goes_on}
use Rattle.model.specs.Lists.{for_all, all_below}
use Rattle.model.proofs.ListLaws.{below_at}
use Rattle.model.proofs.BelowLaws.{all_below_lem}

pub record Passed (clause : Bool) (test : ℕ → Bool) (n i : ℕ) : Type 0 where
  pub within : i ≤ n
  pub each : clause ≡ all_below n test
  pub passed : all_below i test ≡ true

module _ {clause : Bool} {test : ℕ → Bool} {n : ℕ} where
  pub passed_none : clause ≡ all_below n test → Passed clause test n 0
  unfolding all_below
  passed_none e = record { within = omega arith; each = e; passed = refl }

  module _ {i : ℕ} (p : Passed clause test n i) where
    pub passed-next : i < n → test i ≡ true → Passed clause test n (i + 1)
    unfolding all_below
    passed-next h e = record { within = omega arith; each = p.each; passed = ap (λ (k : ℕ). all_below k test) (add-one i) ∙ and_both p.passed e }

    pub passed_stops : i < n → test i ≡ false → false ≡ clause
    passed_stops h f = sym (refuted clause (λ e. true≢false (sym (below_at n test (sym p.each ∙ e) i h) ∙ f)))

    pub passed-ends : n ≤ i → true ≡ clause
    passed-ends h = let q : i ≡ n = (let l = p.within in omega arith) in sym p.passed ∙ ap (λ (k : ℕ). all_below k test) q ∙ sym p.each

    -- where the test of a number is two tests, done in turn
    module _ (s t : Bool) (h : i < n) (e : test i ≡ (s && t)) where
      pub first_fails : s ≡ false → false ≡ clause
      first_fails f = passed_stops h (e ∙ sym (chain_stops s t f))

      pub second_fails : s ≡ true → t ≡ false → false ≡ clause
      second_fails q f = passed_stops h (e ∙ sym (chain_goes_on s t q (sym f)))

      pub both-pass : s ≡ true → t ≡ true → Passed clause test n (i + 1)
      both-pass q r = passed-next h (e ∙ and_both q r)

-- a test of each record of a list is one at each place
pub each_record : (p : List ℕ → Bool) (rs : List (List ℕ)) → for_all p rs ≡ all_below (length rs) (λ (i : ℕ). p (get_or rs i []))
each_record p rs = all_below_lem p rs [] (λ (i : ℕ). get_or rs i []) refl (λ i h. refl)

-- the library's test of all elements is the model's
pub all_elements : {A : Type 0} (p : A → Bool) (xs : List A) → list_all p xs ≡ for_all p xs
unfolding for_all
all_elements p [] = refl
all_elements p (x ∷ xs) = ap (λ (t : Bool). p x && t) (all_elements p xs)
