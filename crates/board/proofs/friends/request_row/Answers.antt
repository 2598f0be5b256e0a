-- `request_row` meets its contract: the request row of a user stands in the record.
use Rattle.model.specs.Board.{decode_user}
use Rattle.board.proofs.friends.request_row.Goals as goal

pub returns : goal.returns
unfolding decode_user
returns c = c.read_u32.ensures
