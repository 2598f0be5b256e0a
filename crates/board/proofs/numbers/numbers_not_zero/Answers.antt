-- `numbers_not_zero` meets its contract: 0 is searched in each table.
use Rattle.std.proofs.Common.{rules}
use Rattle.board.proofs.NumberClauses.{nonzero-tables}
use Rattle.board.proofs.numbers.numbers_not_zero.Goals as goal

pub returns-then-is_absent-2 : goal.returns-then-is_absent-2
returns-then-is_absent-2 c = rw (nonzero-tables c.args.board.now) (search rules)

pub returns-else-is_absent-2 : goal.returns-else-is_absent-2
returns-else-is_absent-2 c = rw (nonzero-tables c.args.board.now) (search rules)
