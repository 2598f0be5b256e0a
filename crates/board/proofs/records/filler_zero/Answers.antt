-- `filler_zero` meets its contract: the filler of the header is a run, those of the pending records are numbers below 1.
use Rattle.std.proofs.Common.{rules}
use Rattle.board.proofs.TableClauses.{filler-fields}
use Rattle.board.proofs.records.filler_zero.Goals as goal

pub returns-then-all_zero : goal.returns-then-all_zero
returns-then-all_zero c =
    rw (filler-fields c.args.board.now) (search rules)

pub returns-else-all_zero : goal.returns-else-all_zero
returns-else-all_zero c =
    rw (filler-fields c.args.board.now) (search rules)
