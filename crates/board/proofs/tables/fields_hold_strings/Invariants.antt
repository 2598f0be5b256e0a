-- `fields_hold_strings` meets its contract. The loop's invariant: the fields of the records passed hold strings.
use Prim.Native.Nat.{ℕ}
use mathlib.Core.List.{[]}
use lib.ListN.{length, get_or}
use Rattle.model.specs.Lists.{for_all}
use Rattle.board.specs.BoardTests.{holds_string}
use Rattle.board.proofs.LoopLaws.{Passed}
use Rattle.board.proofs.tables.fields_hold_strings.Given as goal

abbrev pub invariant-loop-record : goal.invariant-loop-record
invariant-loop-record g l = Passed (for_all (holds_string l.at l.limit) l.records) (λ (i : ℕ). holds_string l.at l.limit (get_or l.records i [])) (length l.records) l.record-index
