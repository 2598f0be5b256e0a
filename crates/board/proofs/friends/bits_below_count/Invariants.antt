-- `bits_below_count` meets its contract. The loop's invariant: nothing is left of the rows of the users passed after a shift by n.
use lib.ListN.{length}
use Rattle.model.specs.Board.{decode}
use Rattle.model.specs.Soundness.{bits_below_count}
use Rattle.board.proofs.LoopLaws.{Passed}
use Rattle.board.proofs.FriendClauses.{without_bits_from}
use Rattle.board.proofs.friends.bits_below_count.Given as goal

abbrev pub invariant-loop-user : goal.invariant-loop-user
invariant-loop-user l = let users = l.board.users.now in Passed (bits_below_count (decode l.board.bytes.now)) (without_bits_from users (length users)) (length users) l.user-index
