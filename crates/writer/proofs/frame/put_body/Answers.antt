-- The goals of `put_body` that need a hand: each turn writes a value and leaves what is behind it (`writing_goes_on`).
use Prim.Native.Nat.{ℕ, ◌≤◌}
use native.Mathlib.Omega.{arith}
use mathlib.Core.Path.{ap, ◌∙◌}
use lib.ListN.{length, drop}
use borrow.Author.Rules.{part_to_end}
use Rattle.writer.proofs.ValueLaws.{words_there, few-words}
use Rattle.writer.proofs.BodyLaws.{field_next, no_field, writing_starts, first_fits, value_room, value-small, writing_goes_on, writing_ends}
use Rattle.writer.proofs.frame.put_body.Goals as goal
use Rattle.writer.proofs.frame.put_body.Goals.{After-word_count}

pub loop-field-init : goal.loop-field-init
loop-field-init c = writing_starts _ _ _ _ c.requires.0 c.requires.1 c.requires.2

pub put_value-at-requires : goal.put_value-at-requires
put_value-at-requires c =
    let s = c.loop-field.invariant in
    let n = field_next c.args.fields.now c.loop-field.field-index _ c.loop-field-test.true in
    (first_fits _ _ _ _ s _ n, omega (arith, value-small _ _ _ _ s _ n), value_room _ _ _ _ s _ n)

-- the words of the value are there
there : (c : After-word_count) → c.word_count.result ≤ length c.loop-field.words.now
there c =
    words_there _ _ _ (first_fits _ _ _ _ c.loop-field.invariant _ (field_next c.args.fields.now c.loop-field.field-index _ c.loop-field-test.true))
    c.word_count.ensures

pub offset_bounds-words-word_count : goal.offset_bounds-words-word_count
offset_bounds-words-word_count c = omega (arith, few-words _ c.word_count.ensures)

pub slice_bounds-words-count : goal.slice_bounds-words-count
slice_bounds-words-count c = there c

pub slice_bounds-words-start : goal.slice_bounds-words-start
slice_bounds-words-start c = there c

pub loop-field-preserved : goal.loop-field-preserved
loop-field-preserved c =
    writing_goes_on _ _ _ _ c.loop-field.invariant _ (field_next c.args.fields.now c.loop-field.field-index _ c.loop-field-test.true)
    c.put_value-at.ensures.written c.put_value-at.ensures.behind
    (part_to_end c.loop-field.words.now c.word_count.result ∙ ap (λ (k : ℕ). drop k c.loop-field.words.now) c.word_count.ensures)

pub shape_of-frame : goal.shape_of-frame
shape_of-frame c = c.loop-field.invariant.same

pub returns : goal.returns
returns c = writing_ends _ _ _ _ c.loop-field.invariant (no_field c.args.fields.now c.loop-field.field-index (omega arith))
