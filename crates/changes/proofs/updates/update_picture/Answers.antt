-- `update_picture` meets its contract: the picture is written at the place of an accepted post.
use Prim.Native.Nat.{◌^◌, ◌<◌}
use native.Mathlib.Omega.{arith}
use lib.Dec.{lit≤}
use Rattle.model.specs.Refusals.{change_refusals}
use Rattle.model.proofs.ChangeWrites.{writes_u_img_post}
use Rattle.access.proofs.AcceptedPlaces.{post-place-within}
use Rattle.changes.proofs.ChangeLaws.{change-handed_up}
use Rattle.changes.proofs.PostUpdates.{number_updated}
use Rattle.changes.proofs.updates.update_picture.Goals as goal

pub returns-in_err-place : goal.returns-in_err-place
unfolding change_refusals
returns-in_err-place c = change-handed_up _ _ _ _ c.from_residual.ensures.1 c.in_err-place.ensures.number

pub field_at-at-requires : goal.field_at-at-requires
field_at-at-requires c = ((post-place-within c.requires _ _ _ _ c.in_ok-place.ensures.number c.in_ok-place.ensures.place).room, lit≤ tt)

pub returns : goal.returns
unfolding change_refusals
returns c =
    let bound : c.args.picture < 2 ^ 32 = omega (arith, c.ranges.picture) in
    number_updated c.requires _ c.in_ok-place.ensures.place (post-place-within c.requires _ _ _ _ c.in_ok-place.ensures.number c.in_ok-place.ensures.place) _ c.in_ok-place.ensures.number 4 c.field_at-at.ensures 4 _ (lit≤ tt)
    c.write_number.ensures
    (λ h. writes_u_img_post c.requires.encoded _ _ _ h _ bound)
