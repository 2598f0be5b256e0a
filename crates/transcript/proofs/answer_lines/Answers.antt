-- `answer_lines` meets its contract: a short buffer is left as it was, else the lines stand first, in the buffer that the writer is over.
use Rattle.std.proofs.Common.{rules, arith, ap₂, ◌∙◌}
use Rattle.layout.specs.Bytes.{bytes_written}
use Rattle.report.proofs.ReportLaws.{too_short, written_text}
use Rattle.report.proofs.TextLaws.{Writes-whole}
use Rattle.transcript.specs.AnswerLines.{answers_result}
use Rattle.transcript.proofs.answer_lines.Goals as goal

pub returns-then-text-answers : goal.returns-then-text-answers
unfolding answers_result
returns-then-text-answers c = too_short _ _ _ (omega (arith, c.if-text-answers.true))

pub returns : goal.returns
unfolding answers_result
returns c =
    let w = c.new-writer.ensures in
    written_text _ _ _ (omega (arith, c.if-text-answers.false)) (ap₂ bytes_written c.size.ensures (search rules) ∙ Writes-whole _ w.empty w.untouched c.write_answers.ensures)
