-- The goals of `bits_below_count` that need a hand.
use Prim.Native.Nat.{ℕ, ◌/◌, ◌^◌}
use native.Mathlib.Omega.{arith}
use mathlib.Core.Path.{◌≡◌, refl, sym, ap, ◌∙◌}
use mathlib.Core.Bool.{Bool}
use lib.Dec.{eqb}
use lib.ListN.{length}
use borrow.Author.Tests.{eq-eqb, ne_eqb}
use Rattle.board.proofs.LoopLaws.{passed_none, passed-ends, first_fails, second_fails, both-pass}
use Rattle.board.proofs.RecordPlaces.{used-limits}
use Rattle.board.proofs.FriendClauses.{bits_below}
use Rattle.board.proofs.friends.bits_below_count.Goals as goal
use Rattle.board.proofs.friends.bits_below_count.Goals.{then-friend_row-n-ne0-via-then-friend_row-n-ne0, then-friend_row-n-ne0-via-else-friend_row-n-ne0+then-request_row-n-ne0}

-- what is shifted is the row of the user
shifted : (n : ℕ) {row stored : ℕ} {t : Bool} → row ≡ stored → eqb (row / 2 ^ n) 0 ≡ t → eqb (stored / 2 ^ n) 0 ≡ t
shifted n e h = ap (λ (x : ℕ). eqb (x / 2 ^ n) 0) (sym e) ∙ h

pub loop-user-init : goal.loop-user-init
loop-user-init c = passed_none (bits_below c.args.board.now)

pub overflow_shr-friend_row : goal.overflow_shr-friend_row
overflow_shr-friend_row c = let board = c.args.board.now in let l = (used-limits board).0 in omega arith

pub overflow_shr-request_row : goal.overflow_shr-request_row
overflow_shr-request_row c = let board = c.args.board.now in let l = (used-limits board).0 in omega arith

pub returns-then-friend_row-n-ne0 : goal.returns-then-friend_row-n-ne0
returns-then-friend_row-n-ne0 c =
    let n : ℕ = length c.args.board.now.users.now in
    let passed = c.loop-user.invariant in
    elim c.then-friend_row-n-ne0.branch [
      | then-friend_row-n-ne0-via-then-friend_row-n-ne0 w ↦
          first_fails passed _ _ c.loop-user-test.true refl (shifted n c.friend_row.ensures (ne_eqb _ 0 w.if-friend_row-n-ne0.true))
      | then-friend_row-n-ne0-via-else-friend_row-n-ne0+then-request_row-n-ne0 w ↦
          second_fails passed _ _ c.loop-user-test.true refl (shifted n c.friend_row.ensures (eq-eqb _ 0 w.if-friend_row-n-ne0.false))
          (shifted n w.request_row.ensures (ne_eqb _ 0 w.if-request_row-n-ne0.true))
    ]

pub loop-user-preserved : goal.loop-user-preserved
loop-user-preserved c =
    let n : ℕ = length c.args.board.now.users.now in
    both-pass c.loop-user.invariant _ _ c.loop-user-test.true refl (shifted n c.friend_row.ensures (eq-eqb _ 0 c.if-friend_row-n-ne0.false))
    (shifted n c.request_row.ensures (eq-eqb _ 0 c.if-request_row-n-ne0.false))

pub returns : goal.returns
returns c = passed-ends c.loop-user.invariant c.loop-user-test.false
