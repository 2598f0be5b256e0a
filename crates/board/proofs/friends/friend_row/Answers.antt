-- `friend_row` meets its contract: the friend row of a user stands in the record.
use Rattle.model.specs.Board.{decode_user}
use Rattle.board.proofs.friends.friend_row.Goals as goal

pub returns : goal.returns
unfolding decode_user
returns c = c.read_u32.ensures
