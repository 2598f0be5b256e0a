-- `symmetric_row` meets its contract. The loop's invariant: `rest` is row i shifted by j, and the lowest bit of what is gathered is zero exactly
-- if the bits compared so far are the same.
use Prim.Native.Nat.{◌/◌, ◌%◌, ◌^◌}
use mathlib.Core.Path.{◌≡◌}
use lib.Dec.{eqb}
use Rattle.model.specs.Lists.{all_below}
use Rattle.board.specs.BoardTests.{friend_row, symmetric_at}
use Rattle.board.proofs.friends.symmetric_row.Given as goal

abbrev pub invariant-loop-j : goal.invariant-loop-j
invariant-loop-j l = (l.rest ≡ friend_row l.users l.i / 2 ^ l.j) × (eqb (l.differing % 2) 0 ≡ all_below l.j (symmetric_at l.users l.i))
