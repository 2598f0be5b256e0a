-- `start_system` meets its contract: without users the one row of 0101 does not apply, and the user is added in slot 0.
use Prim.Native.Nat.{ℕ}
use native.Mathlib.Omega.{arith}
use mathlib.Core.Path.{◌≡◌, sym, ap, ◌∙◌}
use mathlib.Core.Bool.{not}
use lib.ListN.{length}
use lib.Dec.{lit<}
use borrow.Author.Tests.{eq-eqb, ne_eqb}
use Rattle.model.specs.Board.{decode}
use Rattle.model.specs.Refusals.{change_refusals, cause_number}
use Rattle.model.proofs.ChangeWrites.{user_added, writes_start_sys}
use Rattle.model.proofs.SoundBoards.{sound-length}
use Rattle.changes.proofs.ChangeRows.{all_rows, refused-here, passed_here, accepted-here}
use Rattle.changes.proofs.creations.start_system.Goals as goal

pub returns-then-count-ne0 : goal.returns-then-count-ne0
unfolding change_refusals cause_number
returns-then-count-ne0 c = refused-here (all_rows _ _) (ap not (ne_eqb _ 0 (λ e. c.if-count-ne0.true (c.count.ensures ∙ e))))

pub add_user-requires : goal.add_user-requires
add_user-requires c = (lit< tt, sound-length c.requires)

pub returns : goal.returns
unfolding change_refusals
returns c =
    let u = c.args.login.user in
    let p = c.args.login.password in
    let b = c.args.board.now in
    let empty : length (decode b).users ≡ 0 = sym c.count.ensures ∙ c.if-count-ne0.false in
    accepted-here (passed_here (all_rows _ _) (ap not (eq-eqb _ 0 empty)))
    (c.add_user.ensures ∙ ap (λ (n : ℕ). user_added b n u p) (sym empty))
    (writes_start_sys c.requires.encoded u p (omega arith) (omega arith) (omega arith))
