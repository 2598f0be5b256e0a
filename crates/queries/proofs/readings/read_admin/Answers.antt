-- `read_admin` meets its contract: the byte written is 1 where the admin asks, and 0 elsewhere.
use native.Mathlib.Omega.{arith}
use Rattle.model.specs.Refusals.{query_refusals}
use Rattle.model.specs.Answers.{answer_body}
use Rattle.queries.proofs.QueryLaws.{query-refused, query-answered}
use Rattle.queries.proofs.readings.read_admin.Goals as goal

pub returns-in_err-log_in : goal.returns-in_err-log_in
unfolding query_refusals
returns-in_err-log_in c = query-refused _ _ _ _ _ c.in_err-log_in.ensures.number c.from_residual.ensures.1

pub returns : goal.returns
unfolding query_refusals answer_body
returns c =
    query-answered _ _ _ c.in_ok-log_in.ensures.number c.write_field.ensures
    (grind (arith, c.from.ensures, c.is_admin-answer.ensures))
