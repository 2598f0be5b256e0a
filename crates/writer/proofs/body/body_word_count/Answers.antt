-- The goals of `body_word_count` that need a hand: each turn counts the words of a field (`count_goes_on`), or finds that it does not fit (`count_unfit`).
use native.Mathlib.Omega.{arith}
use mathlib.Core.Path.{ap, ◌∙◌}
use Rattle.reader.proofs.FieldLaws.{was_true, was_false}
use Rattle.writer.specs.Table.{place_behind}
use Rattle.writer.specs.declared.body.Place.{Place}
use Rattle.writer.specs.declared.table.Field.TheVariants.{StaffNumber}
use Rattle.writer.proofs.BodyLaws.{field_next, no_field}
use Rattle.writer.proofs.ReadLaws.{counting_starts, word-left, count_unfit, count_goes_on, count-done, bytes_left}
use Rattle.writer.proofs.body.body_word_count.Goals as goal

pub loop-field-init : goal.loop-field-init
loop-field-init c = counting_starts _ _ c.requires

pub behind_field-requires : goal.behind_field-requires
behind_field-requires c = word-left _ _ c.loop-field.invariant _ (field_next c.args.fields.now c.loop-field.field-index StaffNumber c.loop-field-test.true)

pub returns-in_err-place : goal.returns-in_err-place
returns-in_err-place c =
    c.from_residual.ensures
    ∙ count_unfit _ _ c.loop-field.invariant _ (field_next c.args.fields.now c.loop-field.field-index _ c.loop-field-test.true) (was_false _ _ c.in_err-place.ensures)

pub loop-field-preserved : goal.loop-field-preserved
unfolding place_behind
loop-field-preserved c =
    let b = was_true _ _ c.in_ok-place.ensures in
    count_goes_on _ _ c.loop-field.invariant _ (field_next c.args.fields.now c.loop-field.field-index _ c.loop-field-test.true)
    b.0 (ap (λ (p : Place). p.at) b.1) (ap (λ (p : Place). p.words) b.1)

pub returns-then-body-place : goal.returns-then-body-place
returns-then-body-place c = bytes_left _ _ c.loop-field.invariant (no_field c.args.fields.now c.loop-field.field-index (omega arith)) c.if-body-place.true

pub returns : goal.returns
returns c = count-done _ _ c.loop-field.invariant (no_field c.args.fields.now c.loop-field.field-index (omega arith)) c.if-body-place.false
