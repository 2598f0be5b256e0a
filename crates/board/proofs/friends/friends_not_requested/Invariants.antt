-- `friends_not_requested` meets its contract. The loop's invariant: the rows of the users passed have no bit in common.
use lib.ListN.{length}
use Rattle.model.specs.Board.{decode}
use Rattle.model.specs.Soundness.{friends_not_requested}
use Rattle.board.proofs.LoopLaws.{Passed}
use Rattle.board.proofs.FriendClauses.{rows_apart}
use Rattle.board.proofs.friends.friends_not_requested.Given as goal

abbrev pub invariant-loop-user : goal.invariant-loop-user
invariant-loop-user l = let users = l.board.users.now in Passed (friends_not_requested (decode l.board.bytes.now)) (rows_apart users) (length users) l.user-index
