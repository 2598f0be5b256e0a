-- `creation_action` meets its contract: each kind has the content of what its reader gives, and none where the body does not fit.
use native.Mathlib.Omega.{arith}
use mathlib.Core.Path.{refl}
use Rattle.reader.specs.Kinds.{kind_fields, fields_in, kinds}
use Rattle.reader.specs.Messages.{enum_content}
use Rattle.reader.proofs.MessageLaws.{unread, request-content, target-content, number-content, string-content}
use Rattle.reader.proofs.family.creation_action.Goals as goal

pub returns-in_err-user-in-513 : goal.returns-in_err-user-in-513
unfolding kind_fields fields_in kinds
returns-in_err-user-in-513 c = rw c.from_residual.ensures (unread c.args.kind 0x0201 _ c.in-513.is _ _ refl c.in_err-user-in-513.ensures)

pub returns-in_ok-user-in-513 : goal.returns-in_ok-user-in-513
unfolding enum_content kind_fields fields_in kinds
returns-in_ok-user-in-513 c = request-content c.args.kind 0x0201 _ c.in-513.is refl c.in_ok-user-in-513.ensures

pub returns-in_err-login-in-514 : goal.returns-in_err-login-in-514
unfolding kind_fields fields_in kinds
returns-in_err-login-in-514 c = rw c.from_residual-in_err-login-in-514.ensures (unread c.args.kind 0x0202 _ c.in-514.is _ _ refl c.in_err-login-in-514.ensures)

pub returns-in_ok-login-in-514 : goal.returns-in_ok-login-in-514
unfolding enum_content kind_fields fields_in kinds
returns-in_ok-login-in-514 c = number-content c.args.kind 0x0202 _ c.in-514.is refl c.in_ok-login-in-514.ensures

pub returns-in_err-login-in-515 : goal.returns-in_err-login-in-515
unfolding kind_fields fields_in kinds
returns-in_err-login-in-515 c = rw c.from_residual-in_err-login-in-515.ensures (unread c.args.kind 0x0203 _ c.in-515.is _ _ refl c.in_err-login-in-515.ensures)

pub returns-in_ok-login-in-515 : goal.returns-in_ok-login-in-515
unfolding enum_content kind_fields fields_in kinds
returns-in_ok-login-in-515 c = string-content c.args.kind 0x0203 _ c.in-515.is refl c.in_ok-login-in-515.ensures

pub returns-in_err-login-in-516 : goal.returns-in_err-login-in-516
unfolding kind_fields fields_in kinds
returns-in_err-login-in-516 c = rw c.from_residual-in_err-login-in-516.ensures (unread c.args.kind 0x0204 _ c.in-516.is _ _ refl c.in_err-login-in-516.ensures)

pub returns-in_ok-login-in-516 : goal.returns-in_ok-login-in-516
unfolding enum_content kind_fields fields_in kinds
returns-in_ok-login-in-516 c = string-content c.args.kind 0x0204 _ c.in-516.is refl c.in_ok-login-in-516.ensures

pub returns-in_err-login-in_default : goal.returns-in_err-login-in_default
unfolding kind_fields fields_in kinds
returns-in_err-login-in_default c = rw c.from_residual-in_err-login-in_default.ensures (unread c.args.kind 0x0205 _ (omega arith) _ _ refl c.in_err-login-in_default.ensures)

pub returns-in_ok-login-in_default : goal.returns-in_ok-login-in_default
unfolding enum_content kind_fields fields_in kinds
returns-in_ok-login-in_default c = target-content c.args.kind 0x0205 _ (omega arith) refl c.in_ok-login-in_default.ensures
