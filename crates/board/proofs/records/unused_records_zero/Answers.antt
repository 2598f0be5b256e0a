-- `unused_records_zero` meets its contract: the records of each table behind its used ones are tested.
use native.Mathlib.Omega.{arith}
use lib.Dec.{lit<}
use Rattle.std.proofs.Common.{rules}
use Rattle.board.proofs.RecordPlaces.{used-limits}
use Rattle.board.proofs.TableClauses.{unused-tables}
use Rattle.board.proofs.records.unused_records_zero.Goals as goal

pub unused_zero-requires : goal.unused_zero-requires
unused_zero-requires c =
    let board = c.args.board.now in
    (lit< tt, ((used-limits board).0, omega arith))

pub unused_zero-requires-then-unused_zero : goal.unused_zero-requires-then-unused_zero
unused_zero-requires-then-unused_zero c =
    let board = c.args.board.now in
    (lit< tt, ((used-limits board).1, omega arith))

pub unused_zero-requires-then-unused_zero-2 : goal.unused_zero-requires-then-unused_zero-2
unused_zero-requires-then-unused_zero-2 c =
    let board = c.args.board.now in
    (lit< tt, ((used-limits board).2, omega arith))

pub returns-then-unused_zero-2 : goal.returns-then-unused_zero-2
returns-then-unused_zero-2 c =
    rw (unused-tables c.args.board.now) (search rules)

pub returns-else-unused_zero-2 : goal.returns-else-unused_zero-2
returns-else-unused_zero-2 c =
    rw (unused-tables c.args.board.now) (search rules)
