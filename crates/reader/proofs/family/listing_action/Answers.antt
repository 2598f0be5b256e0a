-- `listing_action` meets its contract: 0606 has U P and a number (`target-content`), and every other kind U P alone (`login-content`).
use Prim.Native.Nat.{ℕ}
use native.Mathlib.Omega.{arith}
use mathlib.Core.Path.{◌≡◌, refl, sym, ap, ◌∙◌}
use mathlib.Core.List.{[]}
use mathlib.Core.Option.{some}
use Rattle.reader.specs.Kinds.{kind_fields, fields_in, kinds}
use Rattle.reader.specs.Messages.{enum_content, body_content, content, login_values}
use Rattle.reader.proofs.FieldLaws.{login_fields}
use Rattle.reader.proofs.KindLaws.{each_between}
use Rattle.reader.proofs.MessageLaws.{unread, login-content, target-content, ListLogin, list_logins}
use Rattle.reader.proofs.family.listing_action.Goals as goal
use Rattle.reader.proofs.family.listing_action.Goals.{Else-kind-eq1542, In_ok-login-2}

-- the fields of the other kinds, and their content
fields : (c : Else-kind-eq1542) → kind_fields c.args.kind ≡ some login_fields
fields c = each_between ListLogin 0x0601 5 list_logins _ (omega arith) (omega arith)

made : (c : In_ok-login-2) {k : ℕ} →
    let a = c.args in
    a.kind ≡ k → content k (login_values c.in_ok-login-2.login []) ≡ body_content a.kind (kind_fields a.kind) a.body.now
made c e = login-content _ _ _ e (ap kind_fields (sym e) ∙ fields (goal.at.In_ok-login-2 c).Else-kind-eq1542) c.in_ok-login-2.ensures

pub returns-in_err-login : goal.returns-in_err-login
unfolding kind_fields fields_in kinds
returns-in_err-login c = rw c.from_residual.ensures (unread c.args.kind 0x0606 _ c.if-kind-eq1542.true _ _ refl c.in_err-login.ensures)

pub returns-then-kind-eq1542 : goal.returns-then-kind-eq1542
unfolding enum_content kind_fields fields_in kinds
returns-then-kind-eq1542 c = target-content c.args.kind 0x0606 _ c.if-kind-eq1542.true refl c.in_ok-login.ensures

pub returns-in_err-login-2 : goal.returns-in_err-login-2
returns-in_err-login-2 c =
    rw c.from_residual-in_err-login-2.ensures
    (unread c.args.kind _ _ refl _ _ (fields (goal.at.returns-in_err-login-2 c).Else-kind-eq1542) c.in_err-login-2.ensures)

pub returns-in-1537 : goal.returns-in-1537
unfolding enum_content
returns-in-1537 c = made (goal.at.returns-in-1537 c).In_ok-login-2 c.in-1537.is

pub returns-in-1538 : goal.returns-in-1538
unfolding enum_content
returns-in-1538 c = made (goal.at.returns-in-1538 c).In_ok-login-2 c.in-1538.is

pub returns-in-1539 : goal.returns-in-1539
unfolding enum_content
returns-in-1539 c = made (goal.at.returns-in-1539 c).In_ok-login-2 c.in-1539.is

pub returns-in-1540 : goal.returns-in-1540
unfolding enum_content
returns-in-1540 c = made (goal.at.returns-in-1540 c).In_ok-login-2 c.in-1540.is

pub returns-in_default : goal.returns-in_default
unfolding enum_content
returns-in_default c = made (goal.at.returns-in_default c).In_ok-login-2 (omega arith)
