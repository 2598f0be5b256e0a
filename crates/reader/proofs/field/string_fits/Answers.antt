-- `string_fits` meets its contract: its tests are those of the field, the two bytes of the length first (`string-cut`, `string-whole`).
use Prim.Native.Nat.{◌+◌, ◌≤◌}
use native.Mathlib.Omega.{arith}
use lib.ListN.{length}
use borrow.Author.Tests.{le-leb}
use Rattle.layout.proofs.BooleanLaws.{test_fails, test_holds, chain_stops}
use Rattle.layout.proofs.RangeLaws.{range_holds}
use Rattle.reader.specs.Fields.{field_fits}
use Rattle.reader.proofs.FieldLaws.{string-cut, string-whole}
use Rattle.reader.proofs.field.string_fits.Goals as goal
use Rattle.reader.proofs.field.string_fits.Goals.{Else-not-within}

-- the length stands there
there : (c : Else-not-within) → let a = c.args in a.at + 2 ≤ length a.body.now
there c = range_holds _ 2 _ c.within.ensures c.if-not-within.false

pub returns-then-not-within : goal.returns-then-not-within
unfolding field_fits
returns-then-not-within c = chain_stops _ _ (test_fails c.within.ensures c.if-not-within.true)

pub read_u16-n-requires : goal.read_u16-n-requires
read_u16-n-requires c = there c

pub overflow_add-at : goal.overflow_add-at
overflow_add-at c = let h = there (goal.at.overflow_add-at c).Else-not-within in omega arith

pub returns-then-not-within-2 : goal.returns-then-not-within-2
returns-then-not-within-2 c =
    string-cut _ _ _ _ c.read_u16-n.ensures (le-leb _ _ (there (goal.at.returns-then-not-within-2 c).Else-not-within))
    (test_fails c.within-2.ensures c.if-not-within-2.true)

pub returns : goal.returns
returns c =
    string-whole _ _ _ _ c.read_u16-n.ensures (le-leb _ _ (there (goal.at.returns c).Else-not-within))
    (test_holds c.within-2.ensures c.if-not-within-2.false)
