-- The goals of `replay_rest`: each stop is one of the model's, and a message done in front of the rest is the model's next message.
use Prim.Native.Nat.{ℕ, ◌≤◌}
use native.Mathlib.Omega.{arith}
use mathlib.Core.Path.{◌≡◌, sym, ap, ◌∙◌}
use mathlib.Core.List.{List}
use mathlib.Core.Bool.{true}
use lib.ListN.{length}
use lib.Seq.{length-take-le}
use lib.Pow.{are_bytes}
use Rattle.layout.proofs.ByteLaws.{length_rest}
use Rattle.layout.proofs.NumberLaws.{bytes_of}
use Rattle.reader.proofs.FrameLaws.{found_none, found_is, found_some, found-inside}
use Rattle.model.specs.Soundness.{is_sound}
use Rattle.model.specs.Step.{StepResult}
use Rattle.model.proofs.StepTheorems.{step_sound}
use Rattle.replay.proofs.ReplayLaws.{answer-inside, journal_used_lem, buffer-short, frame-cut, message-done}
use Rattle.replay.proofs.+replay_rest.Goals as goal
use Rattle.replay.proofs.+replay_rest.Goals.{After-answer_size-written}

-- the board that was lent is bytes ..
board-bytes : {t : ℕ} (c : After-answer_size-written t) → are_bytes c.args.board.now ≡ true
board-bytes c = bytes_of c.args.board.now (λ i h. omega (arith, c.slice_known-1.given i))

-- .. so what the step has written lies within the buffer
written-inside : {t : ℕ} (c : After-answer_size-written t) → c.answer_size-written.result ≤ length c.answer_size-written.new.out
written-inside c =
    let s = c.answer_size-written in
    answer-inside _ _ _ (board-bytes c) s.result s.new.board s.new.out s.ensures

pub returns-then-is_empty : goal.returns-then-is_empty
returns-then-is_empty t c = journal_used_lem _ _ _ c.stopped.ensures (sym c.is_empty.ensures ∙ c.if-is_empty.true)

pub returns-then-out-lt-ANSWER_LIMIT : goal.returns-then-out-lt-ANSWER_LIMIT
returns-then-out-lt-ANSWER_LIMIT t c =
    buffer-short _ _ _ c.stopped-then-out-lt-ANSWER_LIMIT.ensures (sym c.is_empty.ensures ∙ c.if-is_empty.false) c.if-out-lt-ANSWER_LIMIT.true

pub returns-in_default : goal.returns-in_default
returns-in_default t c =
    frame-cut _ _ _ c.stopped-in_default.ensures (sym c.is_empty.ensures ∙ c.if-is_empty.false) c.if-out-lt-ANSWER_LIMIT.false
    (found_none (sym c.in_default.is ∙ c.frame_length.ensures))

pub slice_bounds-answer_size-end : goal.slice_bounds-answer_size-end
slice_bounds-answer_size-end t c =
    sym (length-take-le c.in-Some.size c.args.journal.now (found-inside c.args.journal.now (found_is c.in-Some.ensures)))

-- the parts lent on
pub slice_bounds-replay_rest-count : goal.slice_bounds-replay_rest-count
slice_bounds-replay_rest-count t c = found-inside c.args.journal.now (found_is c.in-Some.ensures)

pub slice_bounds-replay_rest-start : goal.slice_bounds-replay_rest-start
slice_bounds-replay_rest-start t c = found-inside c.args.journal.now (found_is c.in-Some.ensures)

pub slice_bounds-replay_rest-count-2 : goal.slice_bounds-replay_rest-count-2
slice_bounds-replay_rest-count-2 t c = written-inside (goal.at.slice_bounds-replay_rest-count-2 t c).After-answer_size-written

pub slice_bounds-replay_rest-start-2 : goal.slice_bounds-replay_rest-start-2
slice_bounds-replay_rest-start-2 t c = written-inside (goal.at.slice_bounds-replay_rest-start-2 t c).After-answer_size-written

-- the rest is shorter, and the board that a message left is sound
pub replay_rest-rest-requires : goal.replay_rest-rest-requires
replay_rest-rest-requires t c =
    let journal : List ℕ = c.args.journal.now in
    let bytes = board-bytes (goal.at.replay_rest-rest-requires t c).After-answer_size-written in (
      omega (
        arith,
        length_rest journal c.in-Some.size,
        found-inside journal (found_is c.in-Some.ensures),
        (found_some _ c.in-Some.ensures),
        c.decreases,
      ),
      sym (ap (λ (x : StepResult). is_sound x.board) c.answer_size-written.ensures)
          ∙ step_sound _ c.args.board.now c.args.out.now bytes c.requires,
    )

pub returns : goal.returns
returns t c =
    let a = c.args in
    let bytes = board-bytes (goal.at.returns t c).After-answer_size-written in
    let s = c.answer_size-written in
    let r = c.replay_rest-rest in
    message-done a.journal.now a.board.now a.out.now bytes c.in-Some.size s.result s.new.board s.new.out r.result
    r.new.board r.new.out (sym c.is_empty.ensures ∙ c.if-is_empty.false) c.if-out-lt-ANSWER_LIMIT.false (found_is c.in-Some.ensures) (found_some _ c.in-Some.ensures)
    s.ensures r.ensures
