-- `deletion_action` meets its contract: U P and a number are what the body has.
use mathlib.Core.Path.{refl}
use Rattle.reader.specs.Kinds.{kind_fields, fields_in, kinds}
use Rattle.reader.specs.Messages.{enum_content}
use Rattle.reader.proofs.MessageLaws.{unread, target-content}
use Rattle.reader.proofs.family.deletion_action.Goals as goal

pub returns-in_err-login : goal.returns-in_err-login
unfolding kind_fields fields_in kinds
returns-in_err-login c = rw c.from_residual.ensures (unread _ 0x0301 _ refl _ _ refl c.in_err-login.ensures)

pub returns : goal.returns
unfolding enum_content kind_fields fields_in kinds
returns c = target-content _ 0x0301 _ refl refl c.in_ok-login.ensures
