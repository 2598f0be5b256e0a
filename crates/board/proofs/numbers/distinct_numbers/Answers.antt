-- The goals of `distinct_numbers` that need a hand.
use Prim.Native.Nat.{ℕ}
use mathlib.Core.Path.{◌≡◌, refl, sym, ap, ◌∙◌}
use mathlib.Core.Bool.{false}
use mathlib.Core.List.{List, [], map}
use lib.ListN.{get_or, take}
use borrow.Author.Tests.{not-true, not-false}
use Rattle.std.proofs.lemmas.List.{get_or_default, take_all}
use Rattle.layout.specs.Tables.{record_number}
use Rattle.layout.proofs.BooleanLaws.{test_fails, test_holds}
use Rattle.model.specs.Lists.{for_all, contains, distinct}
use Rattle.board.specs.BoardTests.{first_place, second_place, filter_covers}
use Rattle.board.proofs.NumberClauses.{not_in_both, distinct-next, covers_next, distinct_stops}
use Rattle.board.proofs.numbers.distinct_numbers.Given.{Over}
use Rattle.board.proofs.numbers.distinct_numbers.Goals as goal
use Rattle.board.proofs.numbers.distinct_numbers.Goals.{After-record_number-x, After-add, else-not-lacks-via-then-not-lacks+else-not-is_absent, else-not-lacks-via-else-not-lacks}

pub loop-i-init : goal.loop-i-init
unfolding distinct filter_covers for_all
loop-i-init g c = (refl, refl, refl)

-- what is read is the record's number
number_read : (g : Over) (c : After-record_number-x g) → c.record_number-x.result ≡ record_number (get_or c.args.records.now c.loop-i.i [])
number_read g c =
    c.record_number-x.ensures ∙ ap record_number (c.index-records-i.is ∙ get_or_default c.args.records.now c.loop-i.i _ [] c.loop-i-test.true)

pub returns-then-not-is_absent : goal.returns-then-not-is_absent
returns-then-not-is_absent g c =
    distinct_stops c.args.records.now c.loop-i.i c.loop-i-test.true (number_read g (goal.at.returns-then-not-is_absent g c).After-record_number-x)
    (not-false _ (test_fails c.is_absent.ensures c.if-not-is_absent.true))

-- the number is not among those before it: it was searched, or lacks one of its bits
is_new : (g : Over) (c : After-add g) → contains c.record_number-x.result (map record_number (take c.loop-i.i c.args.records.now)) ≡ false
is_new g c =
    let l = c.loop-i in
    let x = c.record_number-x.result in
    let numbers = map record_number (take l.i c.args.records.now) in
    elim c.else-not-lacks.branch [
      | else-not-lacks-via-then-not-lacks+else-not-is_absent w ↦ not-true _ (test_holds w.is_absent.ensures w.if-not-is_absent.false)
      | else-not-lacks-via-else-not-lacks w ↦
          not_in_both l.filters.first l.filters.second numbers x l.invariant.1 l.invariant.2 (test_holds c.lacks.ensures w.if-not-lacks.false)
    ]

pub loop-i-preserved : goal.loop-i-preserved
loop-i-preserved g c =
    let rs = c.args.records.now in
    let l = c.loop-i in
    let here = c.loop-i-test.true in
    let read = number_read g (goal.at.loop-i-preserved g c).After-record_number-x in (
      distinct-next rs l.i here read l.invariant.0 (is_new g c),
      covers_next rs l.i here read first_place l.filters.first c.add.ensures.first l.invariant.1,
      covers_next rs l.i here read second_place l.filters.second c.add.ensures.second l.invariant.2,
    )

pub returns : goal.returns
returns g c =
    let rs = c.args.records.now in
    sym c.loop-i.invariant.0 ∙ ap (λ (xs : List (List ℕ)). distinct (map record_number xs)) (take_all _ rs c.loop-i-test.false)
