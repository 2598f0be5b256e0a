-- `request` meets its contract: U, and behind it a string, and the body has to end with it.
use Prim.Native.Nat.{◌+◌}
use native.Mathlib.Omega.{arith}
use mathlib.Core.Path.{◌≡◌, refl, sym, ap, ◌∙◌}
use mathlib.Core.List.{[], ◌∷◌}
use mathlib.Core.Bool.{true}
use Rattle.reader.specs.Fields.{staff_number, string, field_fits, field_end, fields_fit}
use Rattle.reader.specs.declared.Span.{Span}
use Rattle.reader.proofs.FieldLaws.{was_true, was_false, is_there, is_none, next_unfit, next_fits, ended, not_ended, string_end}
use Rattle.reader.proofs.bodies.request.Goals as goal
use Rattle.reader.proofs.bodies.request.Goals.{In_ok-user, In_ok-note}

-- behind U the string decides
begun : (c : In_ok-user) → let s = c.args.body.now in
    fields_fit (staff_number ∷ string c.args.limit ∷ []) s 0 ≡ fields_fit (string c.args.limit ∷ []) s 4
unfolding field_end
begun c = next_fits _ _ _ 0 (was_true _ _ c.in_ok-user.ensures).0 refl

fits : (c : In_ok-note) → field_fits (string c.args.limit) c.args.body.now 4 ≡ true
fits c = (was_true _ _ c.in_ok-note.ensures).0

-- behind the string nothing may stand
rest : (c : In_ok-note) → let s = c.args.body.now in
    fields_fit (staff_number ∷ string c.args.limit ∷ []) s 0 ≡ fields_fit [] s (c.in_ok-note.note.start + c.in_ok-note.note.len)
unfolding field_end
rest c =
    begun (goal.at.In_ok-note c).In_ok-user
    ∙ next_fits [] _ _ 4 (fits c) (sym (ap (λ (s : Span). s.start + s.len) (was_true _ _ c.in_ok-note.ensures).1))

pub returns-in_err-user : goal.returns-in_err-user
returns-in_err-user c = c.from_residual.ensures ∙ is_none _ (next_unfit _ _ _ 0 (was_false _ _ c.in_err-user.ensures))

pub returns-in_err-note : goal.returns-in_err-note
returns-in_err-note c =
    c.from_residual-in_err-note.ensures ∙ is_none _ (begun (goal.at.returns-in_err-note c).In_ok-user ∙ next_unfit [] _ _ 4 (was_false _ _ c.in_err-note.ensures))

pub overflow_add-note : goal.overflow_add-note
overflow_add-note c =
    let h = string_end _ _ _ (fits (goal.at.overflow_add-note c).In_ok-note) in
    let s = ap (λ (s : Span). s.start + s.len) (was_true _ _ c.in_ok-note.ensures).1 in
    omega arith

pub returns-then-body-note : goal.returns-then-body-note
returns-then-body-note c = is_none _ (rest (goal.at.returns-then-body-note c).In_ok-note ∙ not_ended _ _ c.if-body-note.true)

pub returns : goal.returns
returns c =
    let user = (was_true _ _ c.in_ok-user.ensures).1 in
    let note = (was_true _ _ c.in_ok-note.ensures).1 in
    is_there (rest (goal.at.returns c).In_ok-note ∙ ended _ _ c.if-body-note.false) (λ i. (user i, note i))
