-- `print_lines` meets its contract: what `lines` wrote lies within the text buffer.
use Rattle.report.specs.Results.{report_result}
use Rattle.report.proofs.ReportLaws.{report_short, written-inside}
use Rattle.journal_io.proofs.print_lines.Goals as goal

pub print_text-requires : goal.print_text-requires
unfolding report_result
print_text-requires g c = let d = c.lines-report in written-inside _ _ _ (report_short _) d.result d.ensures
