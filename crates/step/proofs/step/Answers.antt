-- `step` meets its contract: 1 and 2 leave everything alone; behind both tests the rest is `step_sound`.
use mathlib.Core.Path.{sym, ap, ◌∙◌}
use Rattle.layout.proofs.BooleanLaws.{test_fails, test_holds}
use Rattle.model.proofs.StepTheorems.{unsound_refused, short-refused}
use Rattle.step.specs.Results.{stepped}
use Rattle.step.specs.declared.Answer.{Answer}
use Rattle.step.proofs.step.Goals as goal

pub returns-then-not-sound : goal.returns-then-not-sound
returns-then-not-sound c =
    let a = c.args in
    ap (λ (x : Answer). stepped x a.board.now a.out.now) c.unanswered.ensures
    ∙ sym (unsound_refused a.msg.now a.board.now a.out.now (test_fails c.sound.ensures c.if-not-sound.true))

pub returns-then-out-lt-ANSWER_LIMIT : goal.returns-then-out-lt-ANSWER_LIMIT
returns-then-out-lt-ANSWER_LIMIT c =
    let a = c.args in
    ap (λ (x : Answer). stepped x a.board.now a.out.now) c.unanswered-then-out-lt-ANSWER_LIMIT.ensures
    ∙ sym (short-refused a.msg.now a.board.now a.out.now (test_holds c.sound.ensures c.if-not-sound.false) c.if-out-lt-ANSWER_LIMIT.true)
