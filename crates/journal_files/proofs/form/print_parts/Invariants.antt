-- The rest of the journal falls.
use Rattle.std.proofs.Common.{length}
use Rattle.journal_files.proofs.form.print_parts.Given as goal

abbrev pub decreases-loop-rest : goal.decreases-loop-rest
decreases-loop-rest g l = length l.rest
