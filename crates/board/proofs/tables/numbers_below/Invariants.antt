-- `numbers_below` meets its contract. The loop's invariant: the numbers of the records passed are below the bound.
use Prim.Native.Nat.{ℕ}
use mathlib.Core.List.{[]}
use lib.ListN.{length, get_or}
use Rattle.model.specs.Lists.{for_all}
use Rattle.board.specs.BoardTests.{number_below}
use Rattle.board.proofs.LoopLaws.{Passed}
use Rattle.board.proofs.tables.numbers_below.Given as goal

abbrev pub invariant-loop-record : goal.invariant-loop-record
invariant-loop-record g l = Passed (for_all (number_below l.at l.bound) l.records) (λ (i : ℕ). number_below l.at l.bound (get_or l.records i [])) (length l.records) l.record-index
