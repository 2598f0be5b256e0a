-- `write_staff_list` meets its contract. The loop's invariant: the numbers of the records whose bits are set below j stand behind the count
-- (`NumbersWritten`).
use Rattle.access.specs.Tables.{table_start, record_size}
use Rattle.queries.proofs.ListWrites.{NumbersWritten}
use Rattle.queries.proofs.answers.write_staff_list.Given as goal

abbrev pub invariant-loop-j : goal.invariant-loop-j
invariant-loop-j l = NumbersWritten l.board.bytes.now (table_start l.table) (record_size l.table) l.row l.initial.out l.out l.at l.j
