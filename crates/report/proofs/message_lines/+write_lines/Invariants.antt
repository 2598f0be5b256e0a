-- `write_lines` meets its contract: the number of messages falls from call to call.
use Rattle.report.proofs.message_lines.+write_lines.Given as goal

abbrev pub decreases-write_lines : goal.decreases-write_lines
decreases-write_lines l = l.messages
