-- `lines` meets its contract: a short buffer is left as it was, a long journal has one word, and else the text is that of the run from the
-- empty board. The writer is over the text buffer, so what it holds at the end stands there.
use native.Mathlib.Omega.{arith}
use mathlib.Core.Path.{ap, ap₂, ◌∙◌}
use lib.ListN.{length}
use borrow.Author.Rules.{rules}
use lib.Dec.{lit≤}
use Rattle.layout.specs.Bytes.{bytes_written}
use Rattle.model.specs.Board.{empty_board}
use Rattle.model.proofs.SoundnessTheorems.{empty-sound}
use Rattle.report.specs.Results.{report_result}
use Rattle.report.proofs.ReportLaws.{too_short, too_long, replayed_text}
use Rattle.report.proofs.TextLaws.{Writes-whole}
use Rattle.report.proofs.lines.Goals as goal

pub returns-then-text-lt-REPORT_LIMIT : goal.returns-then-text-lt-REPORT_LIMIT
unfolding report_result
returns-then-text-lt-REPORT_LIMIT c = too_short _ _ _ c.if-text-lt-REPORT_LIMIT.true

pub returns-then-journal-gt-JOURNAL_LIMIT : goal.returns-then-journal-gt-JOURNAL_LIMIT
returns-then-journal-gt-JOURNAL_LIMIT c =
    let w = c.new-writer.ensures in
    too_long _ _ c.if-text-lt-REPORT_LIMIT.false c.if-journal-gt-JOURNAL_LIMIT.true
    (ap₂ bytes_written c.size.ensures (search rules) ∙ Writes-whole _ w.empty w.untouched c.bytes.ensures)

pub write_rest-requires : goal.write_rest-requires
unfolding empty_board
write_rest-requires c =
    let w = c.new-writer.ensures in (
      empty-sound,
      lit≤ tt,
      omega (arith, c.if-journal-gt-JOURNAL_LIMIT.false),
      omega (arith, ap length w.untouched, w.empty, c.if-journal-gt-JOURNAL_LIMIT.false, c.if-text-lt-REPORT_LIMIT.false),
    )

pub returns : goal.returns
unfolding empty_board
returns c =
    let w = c.new-writer.ensures in
    replayed_text _ _ c.if-text-lt-REPORT_LIMIT.false c.if-journal-gt-JOURNAL_LIMIT.false
    (ap₂ bytes_written c.size-2.ensures (search rules) ∙ Writes-whole _ w.empty w.untouched c.write_rest.ensures)
