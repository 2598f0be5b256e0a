-- The goals of `friends_symmetric` that need a hand.
use native.Mathlib.Omega.{arith}
use Rattle.layout.proofs.BooleanLaws.{test_fails, test_holds}
use Rattle.board.proofs.LoopLaws.{passed_none, passed-next, passed_stops, passed-ends}
use Rattle.board.proofs.RecordPlaces.{used-limits}
use Rattle.board.proofs.FriendClauses.{symmetric-half}
use Rattle.board.proofs.friends.friends_symmetric.Goals as goal

pub loop-i-init : goal.loop-i-init
loop-i-init c = passed_none (symmetric-half c.args.board.now)

pub symmetric_row-requires : goal.symmetric_row-requires
symmetric_row-requires c = let board = c.args.board.now in (omega arith, (used-limits board).0)

pub returns-then-not-symmetric_row : goal.returns-then-not-symmetric_row
returns-then-not-symmetric_row c =
    passed_stops c.loop-i.invariant c.loop-i-test.true (test_fails c.symmetric_row.ensures c.if-not-symmetric_row.true)

pub loop-i-preserved : goal.loop-i-preserved
loop-i-preserved c = passed-next c.loop-i.invariant c.loop-i-test.true (test_holds c.symmetric_row.ensures c.if-not-symmetric_row.false)

pub returns : goal.returns
returns c = passed-ends c.loop-i.invariant c.loop-i-test.false
