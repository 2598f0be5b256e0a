-- `write_answers` meets its contract. The loop's invariant: with the lines that are left the text is the whole one, and there is room for them.
use Rattle.std.proofs.Common.{◌-◌}
use Rattle.transcript.proofs.AnswerLineLaws.{LinesLeft}
use Rattle.transcript.proofs.write_answers.Given as goal

abbrev pub invariant-loop-done : goal.invariant-loop-done
invariant-loop-done l = LinesLeft l.initial.writer l.answers l.count l.writer (l.count - l.done) l.rest
