-- `permitted_post` meets its contract: the rows of the login, then that of the post, then that of the right.
use mathlib.Core.Path.{refl, ◌∙◌}
use Rattle.model.specs.Actions.{post_missing}
use Rattle.model.specs.Refusals.{cause_number, post_rows}
use Rattle.access.proofs.RightLaws.{post_stands}
use Rattle.access.proofs.RefusalLaws.{handed_up, login-refuses, login-passes, missing-refuses, found_passes, found_at, of_kind}
use Rattle.access.proofs.sound_board.SoundBoard.permitted_post.Goals as goal

pub returns-in_err-i-clause-number : goal.returns-in_err-i-clause-number
unfolding post_rows
returns-in_err-i-clause-number c = handed_up _ _ c.from_residual.ensures.1 ∙ login-refuses _ _ _ _ _ c.in_err-i.ensures.number

pub returns-in_err-place-clause-number : goal.returns-in_err-place-clause-number
unfolding post_rows cause_number
returns-in_err-place-clause-number c =
    handed_up _ _ c.from_residual-in_err-place.ensures.1
    ∙ login-passes _ _ _ _ c.in_ok-i.ensures.number (missing-refuses post_missing _ _ _ _ c.find.ensures _ c.in_err-place.ensures.value refl)

pub check_right-requires : goal.check_right-requires
check_right-requires c = (
  c.in_ok-i.ensures.slot,
  post_stands _ _ _ _ c.right_of.ensures c.requires (found_at _ _ _ c.find.ensures c.in_ok-place.ensures.value),
)

pub returns-in_err-check_right-clause-number : goal.returns-in_err-check_right-clause-number
unfolding post_rows
returns-in_err-check_right-clause-number c =
    handed_up _ _ c.from_residual-in_err-check_right.ensures.1
    ∙ login-passes _ _ _ _ c.in_ok-i.ensures.number
    (found_passes post_missing _ _ _ _ c.find.ensures c.in_ok-place.ensures.value (of_kind _ _ _ _ _ c.in_err-check_right.ensures c.right_of.ensures))

pub returns-clause-number : goal.returns-clause-number
unfolding post_rows
returns-clause-number c =
    login-passes _ _ _ _ c.in_ok-i.ensures.number
    (found_passes post_missing _ _ _ _ c.find.ensures c.in_ok-place.ensures.value (of_kind _ _ _ _ _ c.in_ok-check_right.ensures c.right_of.ensures))
