-- `replay_rest` meets its contract: the journal's length falls from call to call.
use lib.ListN.{length}
use Rattle.replay.proofs.+replay_rest.Given as goal

abbrev pub decreases-replay_rest : goal.decreases-replay_rest
decreases-replay_rest l = length l.journal.now
