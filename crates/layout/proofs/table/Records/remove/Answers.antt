-- `remove` meets its contract: the bytes moved and the zeros behind them are one write (`moved_zeroed`), and the test of the range bounds each place.
use Rattle.layout.proofs.RangeLaws.{range_fails, range_holds}
use Rattle.layout.proofs.TableLaws.{record_parts, remove_absent, remove_beyond, moved_zeroed}
use Rattle.layout.proofs.RunLaws.{moved}
use native.Mathlib.Omega.{arith}
use mathlib.Core.Path.{◌≡◌, sym, ◌∙◌}
use Prim.Native.Nat.{◌+◌, ◌-◌, ◌*◌, ◌≤◌}
use lib.ListN.{length}
use Rattle.layout.proofs.table.Records.remove.Goals as goal
use Rattle.layout.proofs.table.Records.remove.Goals.{Else-not-lie_within}

-- the table lies within b: what stands before record i, record i, and the rest
fits : (c : Else-not-lie_within) →
    let a = c.args in
    (a.self.base + a.n * a.self.size ≤ length a.b.now)
    × ((a.i + 1) * a.self.size ≡ a.i * a.self.size + a.self.size)
    × ((a.i + 1) * a.self.size + (a.n - (a.i + 1)) * a.self.size ≡ a.n * a.self.size)
fits c =
    let a = c.args in
    let p = record_parts a.self.size a.n a.i c.if-n-i.false in
    (range_holds a.self.base (a.n * a.self.size) (length a.b.now) c.lie_within.ensures c.if-not-lie_within.false, p.0, p.1)

pub returns-then-n-i : goal.returns-then-n-i
returns-then-n-i c = let a = c.args in sym (remove_absent a.b.now a.self.base a.self.size a.n a.i c.if-n-i.true)

pub returns-then-not-lie_within : goal.returns-then-not-lie_within
returns-then-not-lie_within c =
    let a = c.args in
    let f = range_fails a.self.base (a.n * a.self.size) (length a.b.now) c.lie_within.ensures c.if-not-lie_within.true in
    sym (remove_beyond a.b.now a.self.base a.self.size a.n a.i f)

pub copy_within-requires-clause-in_bounds : goal.copy_within-requires-clause-in_bounds
copy_within-requires-clause-in_bounds c = let p = fits (goal.at.copy_within-requires-clause-in_bounds c).Else-not-lie_within in omega arith

pub copy_within-requires-clause-dest_in_bounds : goal.copy_within-requires-clause-dest_in_bounds
copy_within-requires-clause-dest_in_bounds c = let p = fits (goal.at.copy_within-requires-clause-dest_in_bounds c).Else-not-lie_within in omega arith

pub returns : goal.returns
returns c =
    let a = c.args in
    let p = fits (goal.at.returns c).Else-not-lie_within in
    let behind : a.self.base + (a.i + 1) * a.self.size + (a.n - (a.i + 1)) * a.self.size ≤ length a.b.now = omega arith in
    let kept : a.self.base + (a.i + 1) * a.self.size + (a.n - (a.i + 1)) * a.self.size - (a.self.base + (a.i + 1) * a.self.size) ≡ (a.n - (a.i + 1)) * a.self.size = omega arith in
    moved_zeroed a.b.now a.self.base a.self.size a.n a.i c.if-n-i.false p.0
    (rw kept at c.copy_within.ensures.after ∙ moved a.b.now (a.self.base + a.i * a.self.size) (a.self.base + (a.i + 1) * a.self.size) ((a.n - (a.i + 1)) * a.self.size) behind)
    c.zero_fill.ensures
