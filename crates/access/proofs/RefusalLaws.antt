-- How rows decide: the number that rows give, row by row and behind others, and what a function returns that tests them in their order.
use Prim.Native.Nat.{ℕ}
use native.Mathlib.Omega.{arith}
use mathlib.Core.Path.{◌≡◌, refl, sym, ap, ◌∙◌}
use mathlib.Core.List.{List, [], ◌∷◌, ◌++◌}
use mathlib.Core.Bool.{Bool, true, false, not, cond}
use mathlib.Core.Option
use mathlib.Core.Option.{some, none}
use Rattle.std.specs.Prelude.{Option, Result, Ok, Err, IsErrAnd}
use Rattle.std.specs.Option.{ok_or}
use Rattle.model.specs.State.{State}
use Rattle.model.specs.Actions.{Cause}
use Rattle.model.specs.Refusals.{cause_number, RefusalRow, first_cause, number_returned, first_number, Right, right_of, lacks_right, after_login, user_rows}
use Rattle.model.proofs.RefusalTheorems.{no_cause, first_none, first_some}
use Rattle.access.specs.Refusals.{refusal_number, result_number}
use Rattle.access.specs.Tables.{place_if}
use Rattle.access.specs.declared.refusals.Refusal.{Refusal}
use Rattle.access.specs.declared.refusals.Refusal.TheVariants.{WrongStart, WrongLogin, NotAdmin, Missing, NotEntitled, AlreadyThere, Full}

-- ---- one row

module _ (cause : Cause) (rows : List RefusalRow) where
  pub row_applies : {t : Bool} → t ≡ true → first_number ((cause, t) ∷ rows) ≡ cause_number cause
  unfolding first_number first_cause
  row_applies e = ap (λ (t : Bool). number_returned (cond t (some cause) (first_cause rows))) e

  pub row-passes : {t : Bool} → t ≡ false → first_number ((cause, t) ∷ rows) ≡ first_number rows
  unfolding first_number first_cause
  row-passes e = ap (λ (t : Bool). number_returned (cond t (some cause) (first_cause rows))) e

-- ---- rows behind others

pub no_number : (rows : List RefusalRow) → first_number rows ≡ 0 → first_cause rows ≡ none
unfolding first_number
no_number rows e = no_cause (first_cause rows) e

module _ (xs ys : List RefusalRow) where
  -- the first ones do not apply
  pub rows_pass : first_number xs ≡ 0 → first_number (xs ++ ys) ≡ first_number ys
  unfolding first_number
  rows_pass e = ap number_returned (first_none ys xs (no_number xs e))

  -- one of them does
  pub rows_refuse : (first_number xs ≡ 0 → ⊥) → first_number (xs ++ ys) ≡ first_number xs
  unfolding first_number
  rows_refuse n = by_cause (first_cause xs) refl
    where
      by_cause : (o : Option.Option Cause) → first_cause xs ≡ o → number_returned (first_cause (xs ++ ys)) ≡ number_returned (first_cause xs)
      by_cause none e = absurd (n (ap number_returned e))
      by_cause (some c) e = ap number_returned (first_some ys xs c e ∙ sym e)

-- ---- what a function returns that tests row by row: by a callee's result for the rows before, or by a callee's test of a row

-- no refusal has the number 0
pub refusal_counts : (r : Refusal) → refusal_number r ≡ 0 → ⊥
refusal_counts WrongStart e = omega (arith, e)
refusal_counts WrongLogin e = omega (arith, e)
refusal_counts NotAdmin e = omega (arith, e)
refusal_counts Missing e = omega (arith, e)
refusal_counts NotEntitled e = omega (arith, e)
refusal_counts AlreadyThere e = omega (arith, e)
refusal_counts Full e = omega (arith, e)

-- a refusal that `?` hands up keeps its number
pub handed_up : {A : Type 0} (up : Result A Refusal) (r : Refusal) → IsErrAnd up (λ x. x ≡ r) → result_number up ≡ refusal_number r
handed_up (Ok x) r h = absurd h
handed_up (Err x) r h = ap refusal_number h

module _ (xs ys : List RefusalRow) where
  pub earlier_refuse : (r : Refusal) → refusal_number r ≡ first_number xs → refusal_number r ≡ first_number (xs ++ ys)
  earlier_refuse r e = e ∙ sym (rows_refuse xs ys (λ z. refusal_counts r (e ∙ z)))

  pub earlier-pass : 0 ≡ first_number xs → {n : ℕ} → n ≡ first_number ys → n ≡ first_number (xs ++ ys)
  earlier-pass e f = f ∙ sym (rows_pass xs ys (sym e))

-- r is the test whose failure the row refuses
module _ (cause : Cause) (rows : List RefusalRow) {r t : Bool} (e : r ≡ t) where
  pub test_refuses : r ≡ false → cause_number cause ≡ first_number ((cause, not t) ∷ rows)
  test_refuses f = sym (row_applies cause rows (ap not (sym e ∙ f)))

  pub test_passes : r ≡ true → {n : ℕ} → n ≡ first_number rows → n ≡ first_number ((cause, not t) ∷ rows)
  test_passes f g = g ∙ sym (row-passes cause rows (ap not (sym e ∙ f)))

-- what `ok_or` makes of the optional place o of a record, where t says whether there is one; f is the refusal where there is none
search-number : {o : Option ℕ} (t : Bool) (place : ℕ) (f : Refusal) → o ≡ place_if t place → result_number (ok_or o f) ≡ cond t 0 (refusal_number f)
search-number t place f e = ap (λ (x : Option ℕ). result_number (ok_or x f)) e ∙ by_test t
  where
    by_test : (t : Bool) → result_number (ok_or (place_if t place) f) ≡ cond t 0 (refusal_number f)
    by_test true = refl
    by_test false = refl

module _ (cause : Cause) (rows : List RefusalRow) {o : Option ℕ} (t : Bool) (place : ℕ) (f : Refusal) (e : o ≡ place_if t place) where
  pub missing-refuses : (r : Refusal) → Err r ≡ ok_or o f → refusal_number f ≡ cause_number cause → refusal_number r ≡ first_number ((cause, not t) ∷ rows)
  missing-refuses r g n = by_test t (ap (result_number {A = ℕ}) g ∙ search-number t place f e)
    where
      by_test : (t : Bool) → refusal_number r ≡ cond t 0 (refusal_number f) → refusal_number r ≡ first_number ((cause, not t) ∷ rows)
      by_test true q = absurd (refusal_counts r q)
      by_test false q = q ∙ n ∙ sym (row_applies cause rows refl)

  pub found_passes : {i : ℕ} → Ok i ≡ ok_or o f → {n : ℕ} → n ≡ first_number rows → n ≡ first_number ((cause, not t) ∷ rows)
  found_passes g {n = n} h = by_test t (ap (result_number {A = ℕ}) g ∙ search-number t place f e)
    where
      by_test : (t : Bool) → 0 ≡ cond t 0 (refusal_number f) → n ≡ first_number ((cause, not t) ∷ rows)
      by_test true q = h ∙ sym (row-passes cause rows refl)
      by_test false q = absurd (refusal_counts f (sym q))

pub none_refuse : 0 ≡ first_number []
unfolding first_number first_cause
none_refuse = refl

-- the place that was found
pub found_at : {o : Option ℕ} (t : Bool) (place : ℕ) (f : Refusal) {i : ℕ} → o ≡ place_if t place → Ok i ≡ ok_or o f → i ≡ place
found_at t place f {i = i} e g = by_test t (g ∙ ap (λ (x : Option ℕ). ok_or x f) e)
  where
    by_test : (t : Bool) → Ok i ≡ ok_or (place_if t place) f → i ≡ place
    by_test true q = cc
    by_test false q = cc

-- a single row, by the number of what a function returns that tests it
pub single_row : (cause : Cause) {r t : Bool} {n : ℕ} → n ≡ cond r 0 (cause_number cause) → r ≡ t → n ≡ first_number ((cause, not t) ∷ [])
unfolding first_number first_cause
single_row cause {t = t} f e = f ∙ ap (λ (x : Bool). cond x 0 (cause_number cause)) e ∙ by_test t
  where
    by_test : (t : Bool) → cond t 0 (cause_number cause) ≡ first_number ((cause, not t) ∷ [])
    by_test true = refl
    by_test false = refl

-- .. and by a search of a table
pub single-search : (cause : Cause) {o : Option ℕ} (t : Bool) (place : ℕ) (f : Refusal) (e : o ≡ place_if t place)
    → refusal_number f ≡ cause_number cause → result_number (ok_or o f) ≡ first_number ((cause, not t) ∷ [])
single-search cause t place f e n = single_row cause (search-number t place f e ∙ ap (cond t 0) n) refl

-- the rows of the login, and those of another user, in front of others

module _ (s : State) (u p : ℕ) (rows : List RefusalRow) where
  pub login-refuses : (r : Refusal) → refusal_number r ≡ first_number (after_login s u p []) → refusal_number r ≡ first_number (after_login s u p rows)
  unfolding after_login
  login-refuses = earlier_refuse (after_login s u p []) rows

  pub login-passes : 0 ≡ first_number (after_login s u p []) → {n : ℕ} → n ≡ first_number rows → n ≡ first_number (after_login s u p rows)
  unfolding after_login
  login-passes e f = earlier-pass (after_login s u p []) rows e f

  pub user-refuses : (v : ℕ) (r : Refusal) → refusal_number r ≡ first_number (user_rows s u p v []) → refusal_number r ≡ first_number (user_rows s u p v rows)
  unfolding user_rows after_login
  user-refuses v = earlier_refuse (user_rows s u p v []) rows

  pub user-passes : (v : ℕ) → 0 ≡ first_number (user_rows s u p v []) → {n : ℕ} → n ≡ first_number rows → n ≡ first_number (user_rows s u p v rows)
  unfolding user_rows after_login
  user-passes v e f = earlier-pass (user_rows s u p v []) rows e f

-- the number of the row of a right, which is that of the kind
pub of_kind : (s : State) (right : Right) (kind u x : ℕ) {n : ℕ} → n ≡ first_number (lacks_right s right u x) → right ≡ right_of kind
    → n ≡ first_number (lacks_right s (right_of kind) u x)
of_kind s right kind u x f e = f ∙ ap (λ (r : Right). first_number (lacks_right s r u x)) e
