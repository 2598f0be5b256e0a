-- `find` meets its contract. The loop's invariant: `found` is i plus the index of x in the records from i on.
use Rattle.layout.specs.Search.{index_of}
use Rattle.layout.specs.Tables.{record_numbers}
use mathlib.Core.Path.{◌≡◌}
use Prim.Native.Nat.{◌+◌, ◌-◌, ◌*◌}
use Rattle.layout.proofs.table.Records.find.Given as goal

abbrev pub invariant-loop-i : goal.invariant-loop-i
invariant-loop-i l =
    l.found ≡ l.i + index_of l.x (record_numbers l.b (l.self.base + l.i * l.self.size) l.self.size (l.n - l.i))
