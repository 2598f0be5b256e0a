-- The goals of `numbers_below` that need a hand.
use Prim.Native.Nat.{ℕ}
use mathlib.Core.Path.{◌≡◌, sym, ap, ◌∙◌}
use mathlib.Core.List.{List, []}
use lib.ListN.{get_or}
use lib.Dec.{ltb}
use borrow.Author.Tests.{lt-ltb, le-ltb}
use Rattle.std.proofs.lemmas.List.{get_or_default}
use Rattle.reader.specs.Fields.{number_in}
use Rattle.board.specs.BoardTests.{number_below}
use Rattle.board.proofs.LoopLaws.{passed_none, passed-next, passed_stops, passed-ends, each_record}
use Rattle.board.proofs.tables.numbers_below.Given.{Over}
use Rattle.board.proofs.tables.numbers_below.Goals as goal
use Rattle.board.proofs.tables.numbers_below.Goals.{After-read_u16}

pub loop-record-init : goal.loop-record-init
loop-record-init g c = passed_none (each_record _ c.args.records.now)

-- the number of the record
number_read : (g : Over) (c : After-read_u16 g) → let a = c.args in
    c.read_u16.result ≡ number_in (get_or a.records.now c.loop-record.record-index []) a.at 2
number_read g c = let a = c.args in
    c.read_u16.ensures
    ∙ ap (λ (r : List ℕ). number_in r a.at 2) (c.record-item.is ∙ get_or_default a.records.now c.loop-record.record-index _ [] c.loop-record-test.true)

pub returns-then-bound-read_u16 : goal.returns-then-bound-read_u16
unfolding number_below
returns-then-bound-read_u16 g c =
    let a = c.args in
    passed_stops c.loop-record.invariant c.loop-record-test.true
    (ap (λ (x : ℕ). ltb x a.bound) (sym (number_read g (goal.at.returns-then-bound-read_u16 g c).After-read_u16)) ∙ le-ltb c.read_u16.result a.bound c.if-bound-read_u16.true)

pub loop-record-preserved : goal.loop-record-preserved
unfolding number_below
loop-record-preserved g c =
    let a = c.args in
    passed-next c.loop-record.invariant c.loop-record-test.true
    (ap (λ (x : ℕ). ltb x a.bound) (sym (number_read g (goal.at.loop-record-preserved g c).After-read_u16)) ∙ lt-ltb c.read_u16.result a.bound c.if-bound-read_u16.false)

pub returns : goal.returns
returns g c = passed-ends c.loop-record.invariant c.loop-record-test.false
