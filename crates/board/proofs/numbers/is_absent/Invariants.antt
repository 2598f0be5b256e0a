-- `is_absent` meets its contract. The loop's invariant: nothing is found exactly if the records passed have other numbers.
use Prim.Native.Nat.{ℕ}
use mathlib.Core.Bool.{not}
use mathlib.Core.List.{[]}
use mathlib.Core.Path.{◌≡◌}
use lib.ListN.{get_or}
use Rattle.model.specs.Lists.{all_below}
use Rattle.board.proofs.NumberClauses.{other_number}
use Rattle.board.proofs.numbers.is_absent.Given as goal

abbrev pub invariant-loop-record : goal.invariant-loop-record
invariant-loop-record g l = not l.found ≡ all_below l.record-index (λ (i : ℕ). other_number l.x (get_or l.records i []))
