-- The goals of `write_answers` that need a hand: the answer that stands next lies within the rest, and its line is written before those of what follows.
use Rattle.std.proofs.Common.{arith, refl, sym, ◌∙◌}
use borrow.Author.Rules.{part_to_end}
use lib.Seq.{length-take-le}
use Rattle.reader.proofs.FrameLaws.{found_none, found_is, found_some}
use Rattle.transcript.proofs.AnswerLineLaws.{none_left, no_answer, size-inside, room-next, next-written}
use Rattle.transcript.proofs.write_answers.Goals as goal

pub returns-in_default : goal.returns-in_default
returns-in_default c = no_answer c.loop-done.invariant refl (found_none (sym c.in_default.is ∙ c.frame_length_up_to.ensures))

pub slice_bounds-write_answer-end : goal.slice_bounds-write_answer-end
slice_bounds-write_answer-end c = sym (length-take-le _ _ (size-inside c.loop-done.invariant (found_is c.in-Some.ensures)))

pub write_answer-requires : goal.write_answer-requires
write_answer-requires c = room-next c.loop-done.invariant (found_is c.in-Some.ensures) (found_some _ c.in-Some.ensures)

pub slice_bounds-rest-count : goal.slice_bounds-rest-count
slice_bounds-rest-count c = size-inside c.loop-done.invariant (found_is c.in-Some.ensures)

pub slice_bounds-rest-start : goal.slice_bounds-rest-start
slice_bounds-rest-start c = size-inside c.loop-done.invariant (found_is c.in-Some.ensures)

pub loop-done-preserved : goal.loop-done-preserved
loop-done-preserved c =
    next-written c.loop-done.invariant (found_is c.in-Some.ensures) (found_some _ c.in-Some.ensures) (omega (arith, c.loop-done-test.true))
    (part_to_end c.loop-done.rest.now c.in-Some.size) c.write_answer.ensures

pub returns : goal.returns
returns c = none_left c.loop-done.invariant (omega (arith, c.loop-done-test.false))
