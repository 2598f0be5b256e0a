-- The goals of `frame_size` that need a hand: each turn counts a field (`size_goes_on`), or finds that no frame carries the value (`size_unfit`).
use Prim.Native.Nat.{ℕ, ◌≤◌}
use native.Mathlib.Omega.{arith}
use mathlib.Core.Path.{ap, ◌∙◌}
use lib.ListN.{length, drop}
use borrow.Author.Rules.{part_to_end}
use borrow.Author.Tests.{eqb-true, eqb-false}
use Rattle.layout.proofs.BooleanLaws.{test_fails, test_holds}
use Rattle.reader.proofs.FrameLaws.{none_found}
use Rattle.writer.proofs.ValueLaws.{words_there, found_fits, found_size, none-unfit, few-words}
use Rattle.writer.proofs.BodyLaws.{field_next, no_field, sizing_starts, size_unfit, size_small, size_goes_on, size-done, words_left}
use Rattle.writer.proofs.frame.frame_size.Goals as goal
use Rattle.writer.proofs.frame.frame_size.Goals.{In_ok-size, After-word_count}

pub loop-field-init : goal.loop-field-init
loop-field-init c = sizing_starts _ _ _ c.requires

pub returns-in_err-size : goal.returns-in_err-size
returns-in_err-size c =
    c.from_residual.ensures
    ∙ none_found (size_unfit _ _ _ c.loop-field.invariant _ (field_next c.args.fields.now c.loop-field.field-index _ c.loop-field-test.true) (none-unfit _ _ _ c.in_err-size.ensures))

pub overflow_add-size : goal.overflow_add-size
overflow_add-size c =
    omega (
      arith,
      size_small _ _ _ c.loop-field.invariant _ (field_next c.args.fields.now c.loop-field.field-index _ c.loop-field-test.true) (found_fits _ _ _ c.in_ok-size.ensures),
      found_size _ _ _ c.in_ok-size.ensures,
    )

-- the words of the value are there
there : (c : After-word_count) → c.word_count.result ≤ length c.loop-field.words.now
there c = words_there _ _ _ (found_fits _ _ _ c.in_ok-size.ensures) c.word_count.ensures

pub offset_bounds-words-word_count : goal.offset_bounds-words-word_count
offset_bounds-words-word_count c = omega (arith, few-words _ c.word_count.ensures)

pub slice_bounds-words-count : goal.slice_bounds-words-count
slice_bounds-words-count c = there c

pub slice_bounds-words-start : goal.slice_bounds-words-start
slice_bounds-words-start c = there c

pub loop-field-preserved : goal.loop-field-preserved
loop-field-preserved c =
    size_goes_on _ _ _ c.loop-field.invariant _ (field_next c.args.fields.now c.loop-field.field-index _ c.loop-field-test.true)
    (found_fits _ _ _ c.in_ok-size.ensures) (found_size _ _ _ c.in_ok-size.ensures)
    (part_to_end c.loop-field.words.now c.word_count.result ∙ ap (λ (k : ℕ). drop k c.loop-field.words.now) c.word_count.ensures)

pub returns-then-not-is_empty : goal.returns-then-not-is_empty
returns-then-not-is_empty c =
    words_left _ _ _ c.loop-field.invariant (no_field c.args.fields.now c.loop-field.field-index (omega arith))
    (eqb-false _ 0 (test_fails c.is_empty.ensures c.if-not-is_empty.true))

pub returns : goal.returns
returns c =
    size-done _ _ _ c.loop-field.invariant (no_field c.args.fields.now c.loop-field.field-index (omega arith)) (eqb-true _ 0 (test_holds c.is_empty.ensures c.if-not-is_empty.false))
