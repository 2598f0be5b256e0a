-- The goals of `symmetric_row` that need a hand.
use Prim.Native.Nat.{ℕ, ◌/◌}
use native.Mathlib.Nat.{div-one}
use native.Mathlib.Omega.{arith}
use mathlib.Core.Path.{◌≡◌, refl, sym, ap, ◌∙◌}
use lib.Pow.{shr-shr}
use Rattle.model.specs.Lists.{all_below}
use Rattle.board.specs.BoardTests.{friend_row, symmetric_at}
use Rattle.board.proofs.FriendClauses.{gather_bits}
use Rattle.board.proofs.friends.symmetric_row.Goals as goal

pub loop-j-init : goal.loop-j-init
unfolding all_below
loop-j-init c = (c.friend_row-rest.ensures ∙ sym (div-one _), refl)

pub loop-j-preserved : goal.loop-j-preserved
loop-j-preserved c =
    let a = c.args in
    let inv = c.loop-j.invariant in (
      ap (λ (x : ℕ). x / 2) inv.0 ∙ shr-shr (friend_row a.users.now a.i) c.loop-j.j 1,
      gather_bits a.users.now a.i c.loop-j.j c.loop-j.differing inv.0 c.friend_row.ensures inv.1,
    )

pub returns : goal.returns
returns c =
    let l = c.loop-j in
    let a = c.args in
    let all-compared : l.j ≡ a.i = omega arith in
    l.invariant.1 ∙ ap (λ (k : ℕ). all_below k (symmetric_at a.users.now a.i)) all-compared
