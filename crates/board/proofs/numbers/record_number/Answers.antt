-- `record_number` meets its contract: the number is read from the first four bytes.
use Rattle.layout.specs.Bytes.{bytes_at}
use Rattle.layout.specs.Tables.{record_number}
use Rattle.board.proofs.numbers.record_number.Goals as goal

pub returns : goal.returns
unfolding record_number bytes_at
returns g c = c.read_u32.ensures
