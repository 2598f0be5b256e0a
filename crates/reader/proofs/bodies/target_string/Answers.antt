-- `target_string` meets its contract: behind U P and a number a string decides, and the body has to end with it.
use Prim.Native.Nat.{◌+◌}
use native.Mathlib.Omega.{arith}
use mathlib.Core.Path.{◌≡◌, sym, ap, ◌∙◌}
use mathlib.Core.List.{[], ◌∷◌}
use mathlib.Core.Bool.{true}
use Rattle.reader.specs.Fields.{begins_target, string, field_fits, field_end, fields_fit}
use Rattle.reader.specs.declared.Span.{Span}
use Rattle.reader.proofs.FieldLaws.{was_true, was_false, is_there, is_none, target_fields, target_unfit, target_begun, next_unfit, next_fits, ended, not_ended, string_end}
use Rattle.reader.proofs.bodies.target_string.Goals as goal
use Rattle.reader.proofs.bodies.target_string.Goals.{In_ok-login, In_ok-text}

begun : (c : In_ok-login) → begins_target c.args.body.now ≡ true
begun c = (was_true _ _ c.in_ok-login.ensures).0

fits : (c : In_ok-text) → field_fits (string c.args.limit) c.args.body.now 16 ≡ true
fits c = (was_true _ _ c.in_ok-text.ensures).0

-- behind the string nothing may stand
rest : (c : In_ok-text) →
    fields_fit (target_fields (string c.args.limit ∷ [])) c.args.body.now 0 ≡ fields_fit [] c.args.body.now (c.in_ok-text.text.start + c.in_ok-text.text.len)
unfolding field_end
rest c =
    target_begun _ _ (begun (goal.at.In_ok-text c).In_ok-login)
    ∙ next_fits [] _ _ 16 (fits c) (sym (ap (λ (s : Span). s.start + s.len) (was_true _ _ c.in_ok-text.ensures).1))

pub returns-in_err-login : goal.returns-in_err-login
returns-in_err-login c = c.from_residual.ensures ∙ is_none _ (target_unfit _ _ (was_false _ _ c.in_err-login.ensures))

pub returns-in_err-text : goal.returns-in_err-text
returns-in_err-text c =
    c.from_residual-in_err-text.ensures
    ∙ is_none _ (target_begun _ _ (begun (goal.at.returns-in_err-text c).In_ok-login) ∙ next_unfit [] _ _ 16 (was_false _ _ c.in_err-text.ensures))

pub overflow_add-text : goal.overflow_add-text
overflow_add-text c =
    let h = string_end _ _ _ (fits (goal.at.overflow_add-text c).In_ok-text) in
    let s = ap (λ (s : Span). s.start + s.len) (was_true _ _ c.in_ok-text.ensures).1 in
    omega arith

pub returns-then-body-text : goal.returns-then-body-text
returns-then-body-text c = is_none _ (rest (goal.at.returns-then-body-text c).In_ok-text ∙ not_ended _ _ c.if-body-text.true)

pub returns : goal.returns
returns c =
    let read = (was_true _ _ c.in_ok-login.ensures).1 in
    let text = (was_true _ _ c.in_ok-text.ensures).1 in
    is_there (rest (goal.at.returns c).In_ok-text ∙ ended _ _ c.if-body-text.false) (λ i. ((read i).0, (read i).1, text i))
