-- `request_registration` meets its contract: it tests the rows of 0201 one after the other, and writes the count, the number and the note.
use Prim.Native.Nat.{ℕ}
use native.Mathlib.Omega.{arith}
use mathlib.Core.Path.{sym, ap, ◌∙◌}
use lib.ListN.{length}
use borrow.Author.Tests.{eq-eqb, ne_eqb, le-leb, lt-leb}
use Rattle.model.specs.State.{pending_limit}
use Rattle.model.specs.Board.{decode}
use Rattle.model.specs.Actions.{c_nu_req}
use Rattle.model.specs.Refusals.{change_refusals, cause_number}
use Rattle.model.proofs.ChangeWrites.{pending_added, writes_c_nu_req}
use Rattle.model.proofs.SoundBoards.{sound-length}
use Rattle.changes.proofs.ChangeRows.{RowsBehind, all_rows, refused-here, passed_here, accepted-here}
use Rattle.changes.proofs.creations.request_registration.Goals as goal
use Rattle.changes.proofs.creations.request_registration.Goals.{then-holds-via-then-holds, then-holds-via-else-holds+then-holds-2, Else-holds-2, Else-count-eq0, Start}

-- the rows left behind the first k
abbrev LeftBehind : ℕ → Start → Type 0
LeftBehind k c = RowsBehind c.args.board.now (c_nu_req c.args.u c.args.note.now) k

behind-users : (c : Else-count-eq0) → LeftBehind 1 (goal.at.Else-count-eq0 c).Start
unfolding change_refusals
behind-users c = passed_here (all_rows _ _) (ne_eqb _ 0 (λ e. c.if-count-eq0.false (c.count.ensures ∙ e)))

behind-tables : (c : Else-holds-2) → LeftBehind 3 (goal.at.Else-holds-2 c).Start
unfolding change_refusals
behind-tables c =
    passed_here (passed_here (behind-users (goal.at.Else-holds-2 c).Else-count-eq0) (sym c.holds.ensures ∙ c.if-holds.false)) (sym c.holds-else-holds.ensures ∙ c.if-holds-2.false)

pub returns-then-count-eq0 : goal.returns-then-count-eq0
unfolding change_refusals cause_number
returns-then-count-eq0 c = refused-here (all_rows _ _) (eq-eqb _ 0 (sym c.count.ensures ∙ c.if-count-eq0.true))

pub returns-then-holds : goal.returns-then-holds
unfolding change_refusals cause_number
returns-then-holds c =
    let users = behind-users (goal.at.returns-then-holds c).Else-count-eq0 in
    let registered = sym c.holds.ensures in
    elim c.then-holds.branch [
      | then-holds-via-then-holds w ↦ refused-here users (registered ∙ w.if-holds.true)
      | then-holds-via-else-holds+then-holds-2 w ↦
          refused-here (passed_here users (registered ∙ w.if-holds.false)) (sym w.holds-else-holds.ensures ∙ w.if-holds-2.true)
    ]

pub returns-then-n-ge-PENDING_LIMIT : goal.returns-then-n-ge-PENDING_LIMIT
unfolding change_refusals cause_number
returns-then-n-ge-PENDING_LIMIT c =
    let n = c.count-n.ensures in
    refused-here (behind-tables (goal.at.returns-then-n-ge-PENDING_LIMIT c).Else-holds-2)
    (le-leb pending_limit (length (decode c.args.board.now).pending) (omega arith))

pub add_pending-requires : goal.add_pending-requires
add_pending-requires c =
    (omega arith, sound-length c.requires.0, c.requires.1)

pub returns : goal.returns
unfolding change_refusals
returns c =
    let n = c.count-n.ensures in
    let a = c.args in
    let b = a.board.now in
    accepted-here (passed_here (behind-tables (goal.at.returns c).Else-holds-2) (lt-leb pending_limit (length (decode b).pending) (omega arith)))
    (c.add_pending.ensures ∙ ap (λ (k : ℕ). pending_added b k a.u a.note.now) n)
    (writes_c_nu_req c.requires.0.encoded a.u a.note.now (omega arith) (omega arith) c.requires.1)
