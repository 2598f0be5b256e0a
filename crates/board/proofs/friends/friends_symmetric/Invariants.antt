-- `friends_symmetric` meets its contract. The loop's invariant: the rows of the first i slots agree with those before them.
use lib.ListN.{length}
use Rattle.model.specs.Board.{decode}
use Rattle.model.specs.Soundness.{friends_symmetric}
use Rattle.board.proofs.LoopLaws.{Passed}
use Rattle.board.proofs.FriendClauses.{symmetric_below}
use Rattle.board.proofs.friends.friends_symmetric.Given as goal

abbrev pub invariant-loop-i : goal.invariant-loop-i
invariant-loop-i l = let users = l.board.users.now in Passed (friends_symmetric (decode l.board.bytes.now)) (symmetric_below users) (length users) l.i
