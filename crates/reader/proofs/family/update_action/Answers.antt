-- `update_action` meets its contract: each kind has the content of what its reader gives, and none where the body does not fit.
use native.Mathlib.Omega.{arith}
use mathlib.Core.Path.{refl}
use Rattle.reader.specs.Kinds.{kind_fields, fields_in, kinds}
use Rattle.reader.specs.Messages.{enum_content}
use Rattle.reader.proofs.MessageLaws.{unread, user-content, number-content, string-content, number-bounded}
use Rattle.reader.proofs.family.update_action.Goals as goal

pub returns-in_err-login-in-1025 : goal.returns-in_err-login-in-1025
unfolding kind_fields fields_in kinds
returns-in_err-login-in-1025 c = rw c.from_residual.ensures (unread c.args.kind 0x0401 _ c.in-1025.is _ _ refl c.in_err-login-in-1025.ensures)

pub returns-in_ok-login-in-1025 : goal.returns-in_ok-login-in-1025
unfolding enum_content kind_fields fields_in kinds
returns-in_ok-login-in-1025 c = user-content c.args.kind _ c.in-1025.is c.in_ok-login-in-1025.ensures

pub returns-in_err-login-in-1026 : goal.returns-in_err-login-in-1026
unfolding kind_fields fields_in kinds
returns-in_err-login-in-1026 c = rw c.from_residual-in_err-login-in-1026.ensures (unread c.args.kind 0x0402 _ c.in-1026.is _ _ refl c.in_err-login-in-1026.ensures)

pub returns-in_ok-login-in-1026 : goal.returns-in_ok-login-in-1026
unfolding enum_content kind_fields fields_in kinds
returns-in_ok-login-in-1026 c = string-content c.args.kind 0x0402 _ c.in-1026.is refl c.in_ok-login-in-1026.ensures

pub returns-in_err-login-in-1027 : goal.returns-in_err-login-in-1027
unfolding kind_fields fields_in kinds
returns-in_err-login-in-1027 c = rw c.from_residual-in_err-login-in-1027.ensures (unread c.args.kind 0x0403 _ c.in-1027.is _ _ refl c.in_err-login-in-1027.ensures)

pub returns-in_ok-login-in-1027 : goal.returns-in_ok-login-in-1027
unfolding enum_content kind_fields fields_in kinds
returns-in_ok-login-in-1027 c = string-content c.args.kind 0x0403 _ c.in-1027.is refl c.in_ok-login-in-1027.ensures

pub returns-in_err-login-in-1028 : goal.returns-in_err-login-in-1028
unfolding kind_fields fields_in kinds
returns-in_err-login-in-1028 c = rw c.from_residual-in_err-login-in-1028.ensures (unread c.args.kind 0x0404 _ c.in-1028.is _ _ refl c.in_err-login-in-1028.ensures)

pub returns-in_ok-login-in-1028 : goal.returns-in_ok-login-in-1028
unfolding enum_content kind_fields fields_in kinds
returns-in_ok-login-in-1028 c = number-content c.args.kind 0x0404 _ c.in-1028.is refl c.in_ok-login-in-1028.ensures

pub returns-in_err-login-in_default : goal.returns-in_err-login-in_default
unfolding kind_fields fields_in kinds
returns-in_err-login-in_default c = rw c.from_residual-in_err-login-in_default.ensures (unread c.args.kind 0x0405 _ (omega arith) _ _ refl c.in_err-login-in_default.ensures)

pub returns-in_ok-login-in_default : goal.returns-in_ok-login-in_default
unfolding enum_content kind_fields fields_in kinds
returns-in_ok-login-in_default c = number-content c.args.kind 0x0405 _ (omega arith) refl c.in_ok-login-in_default.ensures

pub overflow_cast-result : goal.overflow_cast-result
overflow_cast-result c = omega (arith, number-bounded 4 0 0xffff_ffff _ c.in_ok-login-in-1028.ensures)

pub overflow_cast-result-in_default : goal.overflow_cast-result-in_default
overflow_cast-result-in_default c = omega (arith, number-bounded 1 0 1 _ c.in_ok-login-in_default.ensures)
