-- `write_number` meets its contract. The loop's invariant: the bytes so far are the lowest of x, and `rest` is x without them.
use Prim.Native.Nat.{◌/◌, ◌^◌}
use mathlib.Core.Path.{◌≡◌}
use lib.ListN.{take}
use Rattle.layout.specs.Numbers.{to_le_bytes}
use Rattle.layout.proofs.number.write_number.Given as goal

abbrev pub invariant-loop-byte : goal.invariant-loop-byte
invariant-loop-byte l =
    (take l.byte-index l.byte-items ≡ to_le_bytes l.byte-index l.x) × (l.rest ≡ l.x / 256 ^ l.byte-index)
