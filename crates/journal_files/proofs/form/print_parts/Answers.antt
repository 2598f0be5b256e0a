-- `print_parts` is safe and ends: a replay passes no more than the rest of the journal, and that rest falls.
use Rattle.transcript.proofs.AnswerLineLaws.{lines_inside}
use Rattle.journal_files.proofs.PartLaws.{passed-inside}
use Rattle.journal_files.proofs.form.print_parts.Goals as goal

pub print_text-requires : goal.print_text-requires
print_text-requires g c = let w = c.answer_lines-report in lines_inside _ _ _ w.result w.ensures

pub slice_bounds-rest-count : goal.slice_bounds-rest-count
slice_bounds-rest-count g c = passed-inside _ _ _ c.replay-done.result c.replay-done.ensures

pub slice_bounds-rest-start : goal.slice_bounds-rest-start
slice_bounds-rest-start g c = passed-inside _ _ _ c.replay-done.result c.replay-done.ensures
