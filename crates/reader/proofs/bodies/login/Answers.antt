-- `login` meets its contract: the body begins with U P, and ends behind them.
use mathlib.Core.Path.{◌∙◌}
use mathlib.Core.List.{[]}
use Rattle.reader.proofs.FieldLaws.{was_true, was_false, is_there, is_none, login_unfit, login_begun, ended, not_ended}
use Rattle.reader.proofs.bodies.login.Goals as goal

pub returns-in_err-login : goal.returns-in_err-login
returns-in_err-login c = c.from_residual.ensures ∙ is_none _ (login_unfit [] _ (was_false _ _ c.in_err-login.ensures))

pub returns-then-body-ne12 : goal.returns-then-body-ne12
returns-then-body-ne12 c = is_none _ (login_begun [] _ (was_true _ _ c.in_ok-login.ensures).0 ∙ not_ended _ 12 c.if-body-ne12.true)

pub returns : goal.returns
returns c =
    let begun = was_true _ _ c.in_ok-login.ensures in
    is_there (login_begun [] _ begun.0 ∙ ended _ 12 c.if-body-ne12.false) begun.1
