-- `target` meets its contract: the body begins with U P and a number, and ends behind them.
use mathlib.Core.Path.{◌∙◌}
use mathlib.Core.List.{[]}
use Rattle.reader.proofs.FieldLaws.{was_true, was_false, is_there, is_none, target_unfit, target_begun, ended, not_ended}
use Rattle.reader.proofs.bodies.target.Goals as goal

pub returns-in_err-target : goal.returns-in_err-target
returns-in_err-target c = c.from_residual.ensures ∙ is_none _ (target_unfit [] _ (was_false _ _ c.in_err-target.ensures))

pub returns-then-body-ne16 : goal.returns-then-body-ne16
returns-then-body-ne16 c = is_none _ (target_begun [] _ (was_true _ _ c.in_ok-target.ensures).0 ∙ not_ended _ 16 c.if-body-ne16.true)

pub returns : goal.returns
returns c =
    let begun = was_true _ _ c.in_ok-target.ensures in
    is_there (target_begun [] _ begun.0 ∙ ended _ 16 c.if-body-ne16.false) begun.1
