-- `user` meets its contract: behind U P a new password, a name and an info decide, each behind the one before it, and the body has to end with the info.
use Prim.Native.Nat.{ℕ, ◌+◌}
use native.Mathlib.Omega.{arith}
use mathlib.Core.Path.{◌≡◌, refl, sym, ap, ◌∙◌}
use mathlib.Core.List.{List, [], ◌∷◌}
use mathlib.Core.Bool.{true}
use Rattle.reader.specs.Fields.{password, user_name, user_info, number_in, field_fits, field_end, fields_fit}
use Rattle.reader.specs.Messages.{span_at}
use Rattle.reader.specs.declared.Span.{Span}
use Rattle.reader.proofs.FieldLaws.{was_true, was_false, is_there, is_none, login_unfit, login_begun, next_unfit, next_fits, ended, not_ended, string_end}
use Rattle.reader.proofs.MessageLaws.{user_fields}
use Rattle.reader.proofs.bodies.user.Goals as goal
use Rattle.reader.proofs.bodies.user.Goals.{In_ok-login, In_ok-password, In_ok-name, In_ok-info}

-- the place behind a string that was read
behind : (n : Span) (s : List ℕ) (at : ℕ) → n ≡ span_at s at → n.start + n.len ≡ at + 2 + number_in s at 2
behind n s at e = ap (λ (x : Span). x.start + x.len) e

-- what decides behind each field
at_password : (c : In_ok-login) → let s = c.args.body.now in fields_fit user_fields s 0 ≡ fields_fit (password ∷ user_name ∷ user_info ∷ []) s 12
at_password c = login_begun _ _ (was_true _ _ c.in_ok-login.ensures).0

at_name : (c : In_ok-password) → let s = c.args.body.now in fields_fit user_fields s 0 ≡ fields_fit (user_name ∷ user_info ∷ []) s 20
unfolding field_end
at_name c = at_password (goal.at.In_ok-password c).In_ok-login ∙ next_fits _ _ _ 12 (was_true _ _ c.in_ok-password.ensures).0 refl

name_fits : (c : In_ok-name) → field_fits user_name c.args.body.now 20 ≡ true
name_fits c = (was_true _ _ c.in_ok-name.ensures).0

name_ends : (c : In_ok-name) → c.in_ok-name.name.start + c.in_ok-name.name.len ≡ 22 + number_in c.args.body.now 20 2
name_ends c = behind _ _ 20 (was_true _ _ c.in_ok-name.ensures).1

at_info : (c : In_ok-name) → let s = c.args.body.now in
    fields_fit user_fields s 0 ≡ fields_fit (user_info ∷ []) s (c.in_ok-name.name.start + c.in_ok-name.name.len)
unfolding field_end
at_info c = at_name (goal.at.In_ok-name c).In_ok-password ∙ next_fits _ _ _ 20 (name_fits c) (sym (name_ends c))

info_fits : (c : In_ok-info) → field_fits user_info c.args.body.now (c.in_ok-name.name.start + c.in_ok-name.name.len) ≡ true
info_fits c = (was_true _ _ c.in_ok-info.ensures).0

at_end : (c : In_ok-info) → let s = c.args.body.now in fields_fit user_fields s 0 ≡ fields_fit [] s (c.in_ok-info.info.start + c.in_ok-info.info.len)
unfolding field_end
at_end c = at_info (goal.at.In_ok-info c).In_ok-name ∙ next_fits [] _ _ _ (info_fits c) (sym (behind _ _ _ (was_true _ _ c.in_ok-info.ensures).1))

pub returns-in_err-login : goal.returns-in_err-login
returns-in_err-login c = c.from_residual.ensures ∙ is_none _ (login_unfit _ _ (was_false _ _ c.in_err-login.ensures))

pub returns-in_err-password : goal.returns-in_err-password
returns-in_err-password c =
    c.from_residual-in_err-password.ensures
    ∙ is_none _ (at_password (goal.at.returns-in_err-password c).In_ok-login ∙ next_unfit _ _ _ 12 (was_false _ _ c.in_err-password.ensures))

pub returns-in_err-name : goal.returns-in_err-name
returns-in_err-name c =
    c.from_residual-in_err-name.ensures ∙ is_none _ (at_name (goal.at.returns-in_err-name c).In_ok-password ∙ next_unfit _ _ _ 20 (was_false _ _ c.in_err-name.ensures))

pub overflow_add-name : goal.overflow_add-name
overflow_add-name c =
    let n = (goal.at.overflow_add-name c).In_ok-name in
    omega (arith, string_end _ _ _ (name_fits n), name_ends n)

pub returns-in_err-info : goal.returns-in_err-info
returns-in_err-info c =
    c.from_residual-in_err-info.ensures ∙ is_none _ (at_info (goal.at.returns-in_err-info c).In_ok-name ∙ next_unfit [] _ _ _ (was_false _ _ c.in_err-info.ensures))

pub overflow_add-info : goal.overflow_add-info
overflow_add-info c =
    let i = (goal.at.overflow_add-info c).In_ok-info in
    omega (arith, string_end _ _ _ (info_fits i), behind _ _ _ (was_true _ _ c.in_ok-info.ensures).1)

pub returns-then-body-info : goal.returns-then-body-info
returns-then-body-info c = is_none _ (at_end (goal.at.returns-then-body-info c).In_ok-info ∙ not_ended _ _ c.if-body-info.true)

pub returns : goal.returns
returns c =
    let i = (goal.at.returns c).In_ok-info in
    let login = (was_true _ _ c.in_ok-login.ensures).1 in
    let password = (was_true _ _ c.in_ok-password.ensures).1 in
    let name = (was_true _ _ c.in_ok-name.ensures).1 in
    let info = (was_true _ _ c.in_ok-info.ensures).1 ∙ ap (span_at c.args.body.now) (name_ends (goal.at.In_ok-info i).In_ok-name) in
    is_there (at_end i ∙ ended _ _ c.if-body-info.false) (λ j. (login j, password j, name j, info j))
