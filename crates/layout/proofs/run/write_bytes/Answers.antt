-- `write_bytes` meets its contract: the library's copy into the rest of b from `at` on is the write (`copied`).
use Prim.Native.Nat.{◌+◌, ◌≤◌}
use mathlib.Core.Path.{refl}
use lib.ListN.{length}
use Rattle.layout.proofs.RangeLaws.{range_holds}
use Rattle.layout.proofs.ByteLaws.{write-refused}
use Rattle.layout.proofs.RunLaws.{copied}
use Rattle.layout.proofs.run.write_bytes.Goals as goal
use Rattle.layout.proofs.run.write_bytes.Goals.{Else-not-within}

-- s fits into b from `at` on
inside : (c : Else-not-within) →
    let a = c.args in a.at + length a.s.now ≤ length a.b.now
inside c =
    let a = c.args in
    range_holds a.at (length a.s.now) (length a.b.now) c.within.ensures c.if-not-within.false

pub returns-then-not-within : goal.returns-then-not-within
returns-then-not-within c = let a = c.args in write-refused a.b.now a.at a.s.now refl c.within.ensures c.if-not-within.true

pub returns : goal.returns
returns c =
    let a = c.args in
    copied a.b.now a.at a.s.now refl (inside (goal.at.returns c).Else-not-within) c.copy_from_slice.ensures.after
