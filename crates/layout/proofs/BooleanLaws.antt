-- Laws of tests: joined by `&&` and `||`, in chains as functions with early returns leave them, of the choices by them (`cond`), and of
-- tests whether a number is 0.
use Prim.Native.Nat.{ℕ, zero, suc}
use mathlib.Core.Bool.{Bool, true, false, cond, ◌&&◌, ◌||◌, and-false, true≢false, false≢true}
use mathlib.Core.Path.{◌≡◌, refl, sym, ap, ◌∙◌}
use lib.Dec.{eqb, leb, ltb, leb-suc-zero, leb-suc-suc, eqb-suc-zero}

pub and_left : (a b : Bool) → (a && b) ≡ true → a ≡ true
and_left true b e = refl
and_left false b e = absurd (false≢true e)

pub and_right : (a b : Bool) → (a && b) ≡ true → b ≡ true
and_right true b e = e
and_right false b e = absurd (false≢true e)

pub and_both : {a b : Bool} → a ≡ true → b ≡ true → (a && b) ≡ true
and_both p q = rw (p, q)

pub or_neither : (a b : Bool) → (a || b) ≡ false → (a ≡ false) × (b ≡ false)
or_neither true b e = absurd (true≢false e)
or_neither false b e = (refl, e)

pub and_exchange : (a b c d : Bool) → (a && b && (c && d)) ≡ (a && c && (b && d))
and_exchange true b true d = refl
and_exchange true b false d = and-false b
and_exchange false b c d = refl

-- two tests are the same where each holds with the other
pub tests_agree : (a b : Bool) → (a ≡ true → b ≡ true) → (b ≡ true → a ≡ true) → a ≡ b
tests_agree true b f g = sym (f refl)
tests_agree false true f g = g refl
tests_agree false false f g = refl

-- a test that cannot hold fails
pub refuted : (t : Bool) → (t ≡ true → ⊥) → t ≡ false
refuted true f = absurd (f refl)
refuted false f = refl

-- a test behind another one counts only where that one holds
pub and_where : (a b c : Bool) → (a ≡ true → b ≡ c) → (a && b) ≡ (a && c)
and_where true b c f = f refl
and_where false b c f = refl

-- a call r of a test c, whose negation was taken or left
pub test_fails : {r c : Bool} → r ≡ c → r ≡ false → c ≡ false
test_fails e t = sym e ∙ t

pub test_holds : {r c : Bool} → r ≡ c → r ≡ true → c ≡ true
test_holds e t = sym e ∙ t

-- a chain that ends at a test that fails, and one that goes on behind a test that holds
pub chain_stops : (a b : Bool) → a ≡ false → false ≡ (a && b)
chain_stops a b e = sym (ap (λ (t : Bool). t && b) e)

pub chain_goes_on : (a b : Bool) {r : Bool} → a ≡ true → r ≡ b → r ≡ (a && b)
chain_goes_on a b e q = q ∙ sym (ap (λ (t : Bool). t && b) e)

-- both at once: a chain at a call r of its first test
pub call_stops : (b : Bool) {r a : Bool} → r ≡ a → r ≡ false → false ≡ (a && b)
call_stops b {a = a} e t = chain_stops a b (test_fails e t)

pub call_goes_on : (b : Bool) {r a q : Bool} → r ≡ a → r ≡ true → q ≡ b → q ≡ (a && b)
call_goes_on b {a = a} e t = chain_goes_on a b (test_holds e t)

-- ---- choices

pub apply_cond : {A B : Type 0} (f : A → B) (t : Bool) (x y : A) → f (cond t x y) ≡ cond t (f x) (f y)
apply_cond f true x y = refl
apply_cond f false x y = refl

pub cond_same : {A : Type 0} (t : Bool) (x : A) → cond t x x ≡ x
cond_same true x = refl
cond_same false x = refl

-- ---- a number compared with 0 and with 1

pub at_most-zero : (n : ℕ) → leb n 0 ≡ eqb n 0
at_most-zero zero = refl
at_most-zero (suc n) = leb-suc-zero n ∙ sym (eqb-suc-zero n)

pub below_one : (n : ℕ) → ltb n 1 ≡ eqb n 0
below_one n = leb-suc-suc n 0 ∙ at_most-zero n
