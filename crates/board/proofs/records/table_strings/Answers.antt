-- `table_strings` meets its contract: each string field of each table is tested in all used records.
use Rattle.std.proofs.Common.{rules}
use Rattle.board.proofs.TableClauses.{string-fields}
use Rattle.board.proofs.records.table_strings.Goals as goal

pub returns-then-fields_hold_strings-4 : goal.returns-then-fields_hold_strings-4
returns-then-fields_hold_strings-4 c =
    rw (string-fields c.args.board.now) (search rules)

pub returns-else-fields_hold_strings-4 : goal.returns-else-fields_hold_strings-4
returns-else-fields_hold_strings-4 c =
    rw (string-fields c.args.board.now) (search rules)
