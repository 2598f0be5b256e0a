-- `write_rest` meets its contract: the journal's length falls from call to call.
use lib.ListN.{length}
use Rattle.report.proofs.+write_rest.Given as goal

abbrev pub decreases-write_rest : goal.decreases-write_rest
decreases-write_rest l = length l.journal.now
