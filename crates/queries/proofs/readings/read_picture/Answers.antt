-- `read_picture` meets its contract: the number written is the picture of the post at its place.
use mathlib.Core.Path.{ap, ◌∙◌}
use Rattle.layout.specs.Numbers.{to_le_bytes}
use Rattle.model.specs.State.{Post}
use Rattle.access.proofs.RecordReads.{numbered_post}
use Rattle.model.specs.Refusals.{query_refusals}
use Rattle.model.specs.Answers.{answer_body}
use Rattle.queries.proofs.QueryLaws.{query-refused, query-answered, number-bytes}
use Rattle.queries.proofs.readings.read_picture.Goals as goal

pub returns-in_err-place : goal.returns-in_err-place
unfolding query_refusals
returns-in_err-place c = query-refused _ _ _ _ _ c.in_err-place.ensures.number c.from_residual.ensures.1

pub returns : goal.returns
unfolding query_refusals answer_body
returns c =
    let placed = c.in_ok-place.ensures in
    query-answered _ _ _ placed.number c.write_field.ensures
    (c.to_le_bytes.ensures ∙ number-bytes _ ∙ ap (to_le_bytes 4) (numbered_post _ _ (λ (x : Post). x.picture) placed.place c.post_picture.ensures))
