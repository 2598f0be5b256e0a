-- `distinct_numbers` meets its contract. The loop's invariant: the first i numbers are distinct and have their bits in the filters.
use mathlib.Core.Bool.{true}
use mathlib.Core.Path.{◌≡◌}
use mathlib.Core.List.{map}
use lib.ListN.{take}
use Rattle.layout.specs.Tables.{record_number}
use Rattle.model.specs.Lists.{distinct}
use Rattle.board.specs.BoardTests.{first_place, second_place, filter_covers}
use Rattle.board.proofs.numbers.distinct_numbers.Given as goal

abbrev pub invariant-loop-i : goal.invariant-loop-i
invariant-loop-i g l =
    let numbers = map record_number (take l.i l.records) in
    (distinct numbers ≡ true) × (filter_covers first_place l.filters.first numbers ≡ true) × (filter_covers second_place l.filters.second numbers ≡ true)
