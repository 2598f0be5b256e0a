-- `reading_action` meets its contract: 0503 has U P alone (`login-content`), and every other kind U P and a number (`target-content`).
use Prim.Native.Nat.{ℕ}
use native.Mathlib.Omega.{arith}
use mathlib.Core.Path.{◌≡◌, refl, sym, ap, ◌∙◌}
use mathlib.Core.List.{[], ◌∷◌}
use mathlib.Core.Option.{some}
use Rattle.reader.specs.Fields.{number_value}
use Rattle.reader.specs.Kinds.{kind_fields, fields_in, kinds}
use Rattle.reader.specs.Messages.{enum_content, body_content, content, login_values}
use Rattle.reader.proofs.FieldLaws.{target_fields}
use Rattle.reader.proofs.KindLaws.{each_between, last_kind}
use Rattle.reader.proofs.MessageLaws.{unread, login-content, target-content, ReadTarget, read_targets}
use Rattle.reader.proofs.family.reading_action.Goals as goal
use Rattle.reader.proofs.family.reading_action.Goals.{Else-kind-eq1283, In_ok-login-2, In_default}

-- the fields of the other kinds, and their content
fields : (c : Else-kind-eq1283) → kind_fields c.args.kind ≡ some (target_fields [])
fields c = each_between ReadTarget 0x0501 10 read_targets _ (omega arith) (omega arith) c.if-kind-eq1283.false

made : (c : In_ok-login-2) {k : ℕ} →
    let a = c.args in
    a.kind ≡ k → content k (login_values c.in_ok-login-2.login (number_value c.in_ok-login-2.number ∷ [])) ≡ body_content a.kind (kind_fields a.kind) a.body.now
made c e = target-content _ _ _ e (ap kind_fields (sym e) ∙ fields (goal.at.In_ok-login-2 c).Else-kind-eq1283) c.in_ok-login-2.ensures

-- the last arm is that of 050a: the first test leaves 0503, the match the others
last : (c : In_default) → c.args.kind ≡ 0x050a
last c = last_kind 0x0501 9 _ (omega arith, (omega arith, (omega arith, (omega arith, (omega arith, (omega arith, (omega arith, (omega arith, (omega arith, tt))))))))) (omega arith) (omega arith)

pub returns-in_err-login : goal.returns-in_err-login
unfolding kind_fields fields_in kinds
returns-in_err-login c = rw c.from_residual.ensures (unread c.args.kind 0x0503 _ c.if-kind-eq1283.true _ _ refl c.in_err-login.ensures)

pub returns-then-kind-eq1283 : goal.returns-then-kind-eq1283
unfolding enum_content kind_fields fields_in kinds
returns-then-kind-eq1283 c = login-content c.args.kind 0x0503 _ c.if-kind-eq1283.true refl c.in_ok-login.ensures

pub returns-in_err-login-2 : goal.returns-in_err-login-2
returns-in_err-login-2 c =
    rw c.from_residual-in_err-login-2.ensures
    (unread c.args.kind _ _ refl _ _ (fields (goal.at.returns-in_err-login-2 c).Else-kind-eq1283) c.in_err-login-2.ensures)

pub returns-in-1281 : goal.returns-in-1281
unfolding enum_content
returns-in-1281 c = made (goal.at.returns-in-1281 c).In_ok-login-2 c.in-1281.is

pub returns-in-1282 : goal.returns-in-1282
unfolding enum_content
returns-in-1282 c = made (goal.at.returns-in-1282 c).In_ok-login-2 c.in-1282.is

pub returns-in-1284 : goal.returns-in-1284
unfolding enum_content
returns-in-1284 c = made (goal.at.returns-in-1284 c).In_ok-login-2 c.in-1284.is

pub returns-in-1285 : goal.returns-in-1285
unfolding enum_content
returns-in-1285 c = made (goal.at.returns-in-1285 c).In_ok-login-2 c.in-1285.is

pub returns-in-1286 : goal.returns-in-1286
unfolding enum_content
returns-in-1286 c = made (goal.at.returns-in-1286 c).In_ok-login-2 c.in-1286.is

pub returns-in-1287 : goal.returns-in-1287
unfolding enum_content
returns-in-1287 c = made (goal.at.returns-in-1287 c).In_ok-login-2 c.in-1287.is

pub returns-in-1288 : goal.returns-in-1288
unfolding enum_content
returns-in-1288 c = made (goal.at.returns-in-1288 c).In_ok-login-2 c.in-1288.is

pub returns-in-1289 : goal.returns-in-1289
unfolding enum_content
returns-in-1289 c = made (goal.at.returns-in-1289 c).In_ok-login-2 c.in-1289.is

pub returns-in_default : goal.returns-in_default
unfolding enum_content
returns-in_default c = made (goal.at.returns-in_default c).In_ok-login-2 (last (goal.at.returns-in_default c).In_default)
