-- The goals of `fields_hold_strings` that need a hand.
use mathlib.Core.Path.{◌≡◌, ap, ◌∙◌}
use mathlib.Core.List.{[]}
use lib.ListN.{get_or}
use Rattle.std.proofs.lemmas.List.{get_or_default}
use Rattle.layout.proofs.BooleanLaws.{test_fails, test_holds}
use Rattle.board.specs.BoardTests.{holds_string}
use Rattle.board.proofs.LoopLaws.{passed_none, passed-next, passed_stops, passed-ends, each_record}
use Rattle.board.proofs.tables.fields_hold_strings.Given.{Over}
use Rattle.board.proofs.tables.fields_hold_strings.Goals as goal
use Rattle.board.proofs.tables.fields_hold_strings.Goals.{After-is_string_field}

pub loop-record-init : goal.loop-record-init
loop-record-init g c = passed_none (each_record _ c.args.records.now)

-- the call tests the field of the record
tested : (g : Over) (c : After-is_string_field g) → let a = c.args in
    c.is_string_field.result ≡ holds_string a.at a.limit (get_or a.records.now c.loop-record.record-index [])
unfolding holds_string
tested g c = let a = c.args in
    c.is_string_field.ensures ∙ ap (holds_string a.at a.limit) (c.record-item.is ∙ get_or_default a.records.now c.loop-record.record-index _ [] c.loop-record-test.true)

pub returns-then-not-is_string_field : goal.returns-then-not-is_string_field
returns-then-not-is_string_field g c =
    passed_stops c.loop-record.invariant c.loop-record-test.true
    (test_fails (tested g (goal.at.returns-then-not-is_string_field g c).After-is_string_field) c.if-not-is_string_field.true)

pub loop-record-preserved : goal.loop-record-preserved
loop-record-preserved g c =
    passed-next c.loop-record.invariant c.loop-record-test.true
    (test_holds (tested g (goal.at.loop-record-preserved g c).After-is_string_field) c.if-not-is_string_field.false)

pub returns : goal.returns
returns g c = passed-ends c.loop-record.invariant c.loop-record-test.false
