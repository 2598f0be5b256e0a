-- `short_zero` meets its contract. The loop's invariant: the bytes up to the last word read are gathered (`gathered_up`).
use Prim.Native.Nat.{◌-◌, ◌*◌}
use Rattle.layout.proofs.WordLaws.{gathered_up}
use Rattle.layout.proofs.string.short_zero.Given as goal

abbrev pub invariant-loop-k : goal.invariant-loop-k
invariant-loop-k l = gathered_up l.b l.first (l.at - l.first) l.last l.gathered (8 * l.k)
