-- `target_number` meets its contract: behind U P and a number another one decides, and the body has to end with it.
use Prim.Native.Nat.{ℕ, ◌+◌}
use mathlib.Core.Path.{◌≡◌, sym, ap, ◌∙◌}
use mathlib.Core.List.{[], ◌∷◌}
use mathlib.Core.Bool.{true}
use Rattle.layout.proofs.BooleanLaws.{test_fails, test_holds}
use Rattle.reader.specs.Fields.{width_bytes, begins_target, uint, field_fits, field_end, fields_fit}
use Rattle.reader.proofs.FieldLaws.{was_true, was_false, is_there, is_none, target_fields, target_unfit, target_begun, next_unfit, next_fits, ended, not_ended}
use Rattle.reader.proofs.bodies.target_number.Goals as goal
use Rattle.reader.proofs.bodies.target_number.Goals.{In_ok-login, Else-not-number_fits, After-bytes}

begun : (c : In_ok-login) → begins_target c.args.body.now ≡ true
begun c = (was_true _ _ c.in_ok-login.ensures).0

fits : (c : Else-not-number_fits) → let a = c.args in field_fits (uint (width_bytes a.width) a.least a.greatest) a.body.now 16 ≡ true
fits c = test_holds c.number_fits.ensures c.if-not-number_fits.false

-- behind the number nothing may stand
rest : (c : After-bytes) →
    let a = c.args in
    fields_fit (target_fields (uint (width_bytes a.width) a.least a.greatest ∷ [])) a.body.now 0 ≡ fields_fit [] a.body.now (16 + c.bytes.result)
unfolding field_end
rest c =
    let n = (goal.at.After-bytes c).Else-not-number_fits in
    target_begun _ _ (begun (goal.at.Else-not-number_fits n).In_ok-login) ∙ next_fits [] _ _ 16 (fits n) (ap (λ (w : ℕ). 16 + w) (sym c.bytes.ensures))

pub returns-in_err-login : goal.returns-in_err-login
returns-in_err-login c = c.from_residual.ensures ∙ is_none _ (target_unfit _ _ (was_false _ _ c.in_err-login.ensures))

pub returns-then-not-number_fits : goal.returns-then-not-number_fits
returns-then-not-number_fits c =
    is_none _ (target_begun _ _ (begun (goal.at.returns-then-not-number_fits c).In_ok-login) ∙ next_unfit [] _ _ 16 (test_fails c.number_fits.ensures c.if-not-number_fits.true))

pub returns-then-body-bytes : goal.returns-then-body-bytes
returns-then-body-bytes c = is_none _ (rest (goal.at.returns-then-body-bytes c).After-bytes ∙ not_ended _ _ c.if-body-bytes.true)

pub returns : goal.returns
returns c =
    let read = (was_true _ _ c.in_ok-login.ensures).1 in
    is_there (rest (goal.at.returns c).After-bytes ∙ ended _ _ c.if-body-bytes.false)
    (λ i. ((read i).0, (read i).1, c.number.ensures i))
