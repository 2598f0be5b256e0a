-- The goals of `no_own_bit` that need a hand.
use Prim.Native.Nat.{ℕ}
use mathlib.Core.Path.{◌≡◌, refl, sym, ap, ◌∙◌}
use mathlib.Core.Bool.{Bool, not}
use Rattle.layout.specs.Bits.{has_bit}
use Rattle.board.proofs.LoopLaws.{passed_none, passed-ends, first_fails, second_fails, both-pass}
use Rattle.board.proofs.FriendClauses.{own_bits}
use Rattle.board.proofs.friends.no_own_bit.Goals as goal
use Rattle.board.proofs.friends.no_own_bit.Goals.{then-has_bit-via-then-has_bit, then-has_bit-via-else-has_bit+then-has_bit-2}

-- what is tested is the bit of the user's row
tested : (i : ℕ) {r s : Bool} {row stored : ℕ} → row ≡ stored → r ≡ has_bit row i → r ≡ s → not (has_bit stored i) ≡ not s
tested i e h t = ap not (ap (λ (x : ℕ). has_bit x i) (sym e) ∙ sym h ∙ t)

pub loop-i-init : goal.loop-i-init
loop-i-init c = passed_none (own_bits c.args.board.now)

pub returns-then-has_bit : goal.returns-then-has_bit
returns-then-has_bit c =
    let l = c.loop-i in
    elim c.then-has_bit.branch [
      | then-has_bit-via-then-has_bit w ↦ first_fails l.invariant _ _ c.loop-i-test.true refl (tested l.i c.friend_row.ensures c.has_bit.ensures w.if-has_bit.true)
      | then-has_bit-via-else-has_bit+then-has_bit-2 w ↦
          second_fails l.invariant _ _ c.loop-i-test.true refl (tested l.i c.friend_row.ensures c.has_bit.ensures w.if-has_bit.false)
          (tested l.i w.request_row.ensures w.has_bit-else-has_bit.ensures w.if-has_bit-2.true)
    ]

pub loop-i-preserved : goal.loop-i-preserved
loop-i-preserved c =
    let l = c.loop-i in
    both-pass l.invariant _ _ c.loop-i-test.true refl (tested l.i c.friend_row.ensures c.has_bit.ensures c.if-has_bit.false)
    (tested l.i c.request_row.ensures c.has_bit-else-has_bit.ensures c.if-has_bit-2.false)

pub returns : goal.returns
returns c = passed-ends c.loop-i.invariant c.loop-i-test.false
