-- `is_admin` meets its contract: where there are users, the number in slot 0 is compared.
use Prim.Native.Nat.{ℕ, ◌≤◌, ◌<◌}
use native.Mathlib.Omega.{arith}
use mathlib.Core.Path.{ap, ◌∙◌}
use mathlib.Core.Bool.{not}
use lib.ListN.{length}
use lib.Dec.{eqb}
use borrow.Author.Tests.{lt-ltb, le-ltb, eq-eqb}
use Rattle.layout.proofs.BooleanLaws.{chain_stops, chain_goes_on}
use Rattle.model.specs.State.{is_admin}
use Rattle.model.specs.Board.{decode}
use Rattle.access.proofs.sound_board.SoundBoard.is_admin.Goals as goal

pub returns-else-count-ne0 : goal.returns-else-count-ne0
unfolding is_admin
returns-else-count-ne0 c =
    let users = (decode c.args.self.now.bytes.now).users in
    let none : length users ≤ 0 = omega arith in
    ap not (eq-eqb _ _ c.if-count-ne0.false) ∙ chain_stops _ _ (le-ltb _ _ none)

pub returns-then-count-ne0 : goal.returns-then-count-ne0
unfolding is_admin
returns-then-count-ne0 c =
    let a = c.args in
    let some : 0 < length (decode a.self.now.bytes.now).users = omega arith in
    chain_goes_on _ _ (lt-ltb _ _ some) (ap (λ (x : ℕ). eqb x a.u) c.user_number.ensures)
