-- `numbers_distinct` meets its contract: each table is tested by itself.
use Rattle.std.proofs.Common.{rules}
use Rattle.board.proofs.NumberClauses.{distinct-tables}
use Rattle.board.proofs.numbers.numbers_distinct.Goals as goal

pub returns-then-distinct_numbers-2 : goal.returns-then-distinct_numbers-2
returns-then-distinct_numbers-2 c = rw (distinct-tables c.args.board.now) (search rules)

pub returns-else-distinct_numbers-2 : goal.returns-else-distinct_numbers-2
returns-else-distinct_numbers-2 c = rw (distinct-tables c.args.board.now) (search rules)
