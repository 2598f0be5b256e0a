-- The goals of `friends_not_requested` that need a hand.
use Prim.Native.Nat.{ℕ}
use native.Mathlib.Omega.{arith}
use mathlib.Core.Path.{◌≡◌, sym, ap₂, ◌∙◌}
use lib.Bits.{bit_and}
use lib.Dec.{eqb}
use borrow.Author.Tests.{eq-eqb, ne_eqb}
use Rattle.board.proofs.LoopLaws.{passed_none, passed-next, passed_stops, passed-ends}
use Rattle.board.proofs.FriendClauses.{rows_apart, and_zero, apart-rows}
use Rattle.board.proofs.friends.friends_not_requested.Goals as goal
use Rattle.board.proofs.friends.friends_not_requested.Goals.{After-request_row}

pub loop-user-init : goal.loop-user-init
loop-user-init c = passed_none (apart-rows c.args.board.now)

-- what is tested are the rows of the user
tested : (c : After-request_row) → eqb (bit_and c.friend_row.result c.request_row.result) 0 ≡ rows_apart c.args.board.now.users.now c.loop-user.user-index
tested c =
    ap₂ (λ (x y : ℕ). eqb (bit_and x y) 0) c.friend_row.ensures c.request_row.ensures
    ∙ and_zero _ _ (omega (arith, c.friend_row.ensures))

pub returns-then-friend_row-request_row-ne0 : goal.returns-then-friend_row-request_row-ne0
returns-then-friend_row-request_row-ne0 c =
    passed_stops c.loop-user.invariant c.loop-user-test.true
    (sym (tested (goal.at.returns-then-friend_row-request_row-ne0 c).After-request_row) ∙ ne_eqb _ 0 c.if-friend_row-request_row-ne0.true)

pub loop-user-preserved : goal.loop-user-preserved
loop-user-preserved c =
    passed-next c.loop-user.invariant c.loop-user-test.true
    (sym (tested (goal.at.loop-user-preserved c).After-request_row) ∙ eq-eqb _ 0 c.if-friend_row-request_row-ne0.false)

pub returns : goal.returns
returns c = passed-ends c.loop-user.invariant c.loop-user-test.false
