-- The goals of `put_words` that need a hand: each turn writes the words of a field (`filling_goes_on`).
use native.Mathlib.Omega.{arith}
use mathlib.Core.Path.{ap}
use Rattle.writer.specs.Table.{place_behind}
use Rattle.writer.specs.declared.body.Place.{Place}
use Rattle.writer.proofs.BodyLaws.{field_next, no_field}
use Rattle.writer.proofs.ReadLaws.{filling_starts, first_fits, field_room, filling_goes_on, filling_ends}
use Rattle.writer.proofs.body.put_words.Goals as goal

pub loop-field-init : goal.loop-field-init
loop-field-init c = filling_starts _ _ _ c.requires.0 c.requires.1

pub put_field-place-requires : goal.put_field-place-requires
put_field-place-requires c =
    let s = c.loop-field.invariant in
    let n = field_next c.args.fields.now c.loop-field.field-index _ c.loop-field-test.true in
    (first_fits _ _ _ s _ n, omega (arith, field_room _ _ _ s _ n))

pub loop-field-preserved : goal.loop-field-preserved
unfolding place_behind
loop-field-preserved c =
    let b = c.put_field-place.ensures.behind in
    filling_goes_on _ _ _ c.loop-field.invariant _ (field_next c.args.fields.now c.loop-field.field-index _ c.loop-field-test.true)
    c.put_field-place.ensures.written (ap (λ (p : Place). p.at) b) (ap (λ (p : Place). p.words) b)

pub shape_of-values : goal.shape_of-values
shape_of-values c = c.loop-field.invariant.same

pub returns : goal.returns
returns c = filling_ends _ _ _ c.loop-field.invariant (no_field c.args.fields.now c.loop-field.field-index (omega arith))
