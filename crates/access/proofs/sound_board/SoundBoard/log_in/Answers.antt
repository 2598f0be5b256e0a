-- `log_in` meets its contract: its tests are those of the two rows.
use mathlib.Core.Path.{◌≡◌, refl, sym, ◌∙◌}
use mathlib.Core.List.{[]}
use borrow.Author.Tests.{eq-eqb, ne_eqb}
use Rattle.model.specs.State.{User}
use Rattle.model.specs.Board.{decode}
use Rattle.model.specs.Lookups.{user_numbered}
use Rattle.model.specs.Actions.{unknown_sender, wrong_password}
use Rattle.model.specs.Refusals.{cause_number, after_login}
use Rattle.access.proofs.RecordReads.{numbered_user}
use Rattle.access.proofs.RefusalLaws.{handed_up, none_refuse, test_refuses, test_passes, missing-refuses, found_passes, found_at}
use Rattle.access.proofs.sound_board.SoundBoard.log_in.Goals as goal
use Rattle.access.proofs.sound_board.SoundBoard.log_in.Goals.{After-user_password}

pub returns-in_err-i-clause-number : goal.returns-in_err-i-clause-number
unfolding after_login cause_number
returns-in_err-i-clause-number c =
    handed_up _ _ c.from_residual.ensures.1 ∙ missing-refuses unknown_sender _ _ _ _ c.find.ensures _ c.in_err-i.ensures.value refl

-- the password that is read is that of the sender's slot
password : (c : After-user_password) → c.user_password.result ≡ (user_numbered (decode c.args.self.now.bytes.now) c.args.login.user).password
password c = numbered_user _ _ (λ (x : User). x.password) (found_at _ _ _ c.find.ensures c.in_ok-i.ensures.value) c.user_password.ensures

pub returns-then-user_password-login-clause-number : goal.returns-then-user_password-login-clause-number
unfolding after_login cause_number
returns-then-user_password-login-clause-number c =
    found_passes unknown_sender _ _ _ _ c.find.ensures c.in_ok-i.ensures.value
    (test_refuses wrong_password [] (sym (ne_eqb _ _ (λ e. c.if-user_password-login.true (password (goal.at.returns-then-user_password-login-clause-number c).After-user_password ∙ e)))) refl)

pub returns-clause-number : goal.returns-clause-number
unfolding after_login
returns-clause-number c =
    found_passes unknown_sender _ _ _ _ c.find.ensures c.in_ok-i.ensures.value
    (test_passes wrong_password [] (sym (eq-eqb _ _ (sym (password (goal.at.returns-clause-number c).After-user_password) ∙ c.if-user_password-login.false))) refl none_refuse)
