-- `update_text` meets its contract: the text is written at the place of an accepted post.
use lib.Dec.{lit≤}
use Rattle.reader.specs.Fields.{text_limit}
use Rattle.model.specs.Refusals.{change_refusals}
use Rattle.model.proofs.ChangeWrites.{writes_u_text_post}
use Rattle.access.proofs.AcceptedPlaces.{post-place-within}
use Rattle.changes.proofs.ChangeLaws.{change-handed_up}
use Rattle.changes.proofs.PostUpdates.{string-updated}
use Rattle.changes.proofs.updates.update_text.Goals as goal

pub returns-in_err-place : goal.returns-in_err-place
unfolding change_refusals
returns-in_err-place c = change-handed_up _ _ _ _ c.from_residual.ensures.1 c.in_err-place.ensures.number

pub field_at-at-requires : goal.field_at-at-requires
field_at-at-requires c = ((post-place-within c.requires.0 _ _ _ _ c.in_ok-place.ensures.number c.in_ok-place.ensures.place).room, lit≤ tt)

pub returns : goal.returns
unfolding change_refusals
returns c =
    string-updated c.requires.0 _ c.in_ok-place.ensures.place (post-place-within c.requires.0 _ _ _ _ c.in_ok-place.ensures.number c.in_ok-place.ensures.place) _ c.in_ok-place.ensures.number 54 c.field_at-at.ensures text_limit _ (lit≤ tt)
    c.requires.1 c.write_string.ensures
    (λ h. writes_u_text_post c.requires.0.encoded _ _ _ h _ c.requires.1)
