-- `no_own_bit` meets its contract. The loop's invariant: the rows of the first i slots are without their own bit.
use lib.ListN.{length}
use Rattle.model.specs.Board.{decode}
use Rattle.model.specs.Soundness.{no_own_bit}
use Rattle.board.proofs.LoopLaws.{Passed}
use Rattle.board.proofs.FriendClauses.{without_own_bit}
use Rattle.board.proofs.friends.no_own_bit.Given as goal

abbrev pub invariant-loop-i : goal.invariant-loop-i
invariant-loop-i l = let users = l.board.users.now in Passed (no_own_bit (decode l.board.bytes.now)) (without_own_bit users) (length users) l.i
