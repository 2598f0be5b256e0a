-- `read_owner` meets its contract: the number written is that of the user in the slot of the post's owner.
use mathlib.Core.Path.{ap, ◌∙◌}
use Rattle.layout.specs.Numbers.{to_le_bytes}
use Rattle.model.specs.State.{User, Post, user_at}
use Rattle.model.specs.Lookups.{owner_of}
use Rattle.access.proofs.RecordReads.{numbered_post}
use Rattle.model.specs.Refusals.{query_refusals}
use Rattle.model.specs.Answers.{answer_body}
use Rattle.queries.proofs.QueryLaws.{query-refused, query-answered, number-bytes}
use Rattle.queries.proofs.readings.read_owner.Goals as goal

pub returns-in_err-place : goal.returns-in_err-place
unfolding query_refusals
returns-in_err-place c = query-refused _ _ _ _ _ c.in_err-place.ensures.number c.from_residual.ensures.1

pub returns : goal.returns
unfolding query_refusals answer_body owner_of
returns c =
    let placed = c.in_ok-place.ensures in
    let slot = numbered_post _ _ (λ (x : Post). x.owner) placed.place c.post_owner-owner.ensures in
    query-answered _ _ _ placed.number c.write_field.ensures
    (c.to_le_bytes.ensures ∙ number-bytes _ ∙ ap (to_le_bytes 4) (c.user_number.ensures ∙ ap (λ (x : User). x.number) (ap (user_at _) slot)))
