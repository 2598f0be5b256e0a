-- `log_in_with` meets its contract: the rows of the login stand before the one for the other user.
use mathlib.Core.Path.{refl, ◌∙◌}
use mathlib.Core.List.{[]}
use Rattle.model.specs.Actions.{user_missing}
use Rattle.model.specs.Refusals.{cause_number, user_rows}
use Rattle.access.proofs.RefusalLaws.{handed_up, login-refuses, login-passes, none_refuse, missing-refuses, found_passes}
use Rattle.access.proofs.sound_board.SoundBoard.log_in_with.Goals as goal

pub returns-in_err-i-clause-number : goal.returns-in_err-i-clause-number
unfolding user_rows
returns-in_err-i-clause-number c = handed_up _ _ c.from_residual.ensures.1 ∙ login-refuses _ _ _ _ _ c.in_err-i.ensures.number

pub returns-in_err-j-clause-number : goal.returns-in_err-j-clause-number
unfolding user_rows cause_number
returns-in_err-j-clause-number c =
    handed_up _ _ c.from_residual-in_err-j.ensures.1
    ∙ login-passes _ _ _ _ c.in_ok-i.ensures.number (missing-refuses user_missing [] _ _ _ c.find.ensures _ c.in_err-j.ensures.value refl)

pub returns-clause-number : goal.returns-clause-number
unfolding user_rows
returns-clause-number c =
    login-passes _ _ _ _ c.in_ok-i.ensures.number (found_passes user_missing [] _ _ _ c.find.ensures c.in_ok-j.ensures.value none_refuse)
