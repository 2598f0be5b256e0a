-- `permitted_pending` meets its contract: the rows of the login, then that of the right, then that of the pending registration.
use mathlib.Core.Path.{refl, ap, ◌∙◌}
use Rattle.model.specs.Actions.{pending_missing}
use Rattle.model.specs.Refusals.{cause_number, pending_rows}
use Rattle.access.specs.Refusals.{result_number}
use Rattle.access.proofs.RightLaws.{pending_stands}
use Rattle.access.proofs.RefusalLaws.{handed_up, earlier_refuse, earlier-pass, login-refuses, login-passes, single-search, of_kind}
use Rattle.access.proofs.sound_board.SoundBoard.permitted_pending.Goals as goal

pub returns-in_err-sender-clause-number : goal.returns-in_err-sender-clause-number
unfolding pending_rows
returns-in_err-sender-clause-number c = handed_up _ _ c.from_residual.ensures.1 ∙ login-refuses _ _ _ _ _ c.in_err-sender.ensures.number

pub check_right-requires : goal.check_right-requires
check_right-requires c = (c.in_ok-sender.ensures.slot, pending_stands _ _ _ _ c.right_of.ensures c.requires)

pub returns-in_err-check_right-clause-number : goal.returns-in_err-check_right-clause-number
unfolding pending_rows
returns-in_err-check_right-clause-number c =
    handed_up _ _ c.from_residual-in_err-check_right.ensures.1
    ∙ login-passes _ _ _ _ c.in_ok-sender.ensures.number (earlier_refuse _ _ _ (of_kind _ _ _ _ _ c.in_err-check_right.ensures c.right_of.ensures))

pub returns-clause-number : goal.returns-clause-number
unfolding pending_rows cause_number
returns-clause-number c =
    login-passes _ _ _ _ c.in_ok-sender.ensures.number
    (earlier-pass _ _ (of_kind _ _ _ _ _ c.in_ok-check_right.ensures c.right_of.ensures)
    (ap result_number c.ok_or.ensures.value ∙ single-search pending_missing _ _ _ c.find.ensures refl))
