-- The goals of `notes_to` that need a hand.
use Prim.Native.Nat.{ℕ, ◌*◌, ◌<◌}
use native.Mathlib.Omega.{arith}
use mathlib.Core.List.{List}
use mathlib.Core.Path.{◌≡◌, refl, sym, ap₂, ◌∙◌}
use Rattle.layout.proofs.BooleanLaws.{test_fails, test_holds, chain_stops, chain_goes_on}
use Rattle.layout.proofs.BitLaws.{bit_lt}
use Rattle.reader.specs.Fields.{note_limit}
use Rattle.board.specs.BoardTests.{note_within, note_allowed}
use Rattle.board.proofs.LoopLaws.{passed_none, passed-next, passed_stops, passed-ends}
use Rattle.board.proofs.NoteClauses.{requested, requested-fields, field_at, behind_requested}
use Rattle.board.proofs.notes.notes_to.Goals as goal
use Rattle.board.proofs.notes.notes_to.Goals.{In-loop-j, After-is_note}

pub loop-j-init : goal.loop-j-init
loop-j-init c = passed_none refl

pub is_note-requires : goal.is_note-requires
is_note-requires c = let l = bit_lt c.args.row c.loop-j.j in omega arith

-- slot j is in front of the last request bit
in_front : (c : In-loop-j) → c.loop-j.j < requested c.args.row
in_front c =
    let n = requested-fields c.args.slot.now c.args.row c.told-slot c.ranges.row.fits c.as_chunks.ensures.front in
    omega arith

-- the call tests the note from slot j
tested : (c : After-is_note) → c.is_note.result ≡ note_allowed c.args.slot.now c.args.row c.loop-j.j
unfolding note_allowed
tested c =
    c.is_note.ensures
    ∙ ap₂ (λ (bit : ℕ) (f : List ℕ). note_within (bit * note_limit) f) c.bit_at.ensures
    (field_at c.args.slot.now c.args.row c.told-slot c.ranges.row.fits c.as_chunks.ensures.front c.loop-j.j (in_front (goal.at.After-is_note c).In-loop-j))

pub returns-then-not-is_note : goal.returns-then-not-is_note
returns-then-not-is_note c =
    chain_stops _ _
    (sym (passed_stops c.loop-j.invariant (in_front (goal.at.returns-then-not-is_note c).In-loop-j)
    (test_fails (tested (goal.at.returns-then-not-is_note c).After-is_note) c.if-not-is_note.true)))
    ∙ sym (behind_requested c.args.slot.now c.args.row c.told-slot c.ranges.row.fits c.as_chunks.ensures.front)

pub loop-j-preserved : goal.loop-j-preserved
loop-j-preserved c =
    passed-next c.loop-j.invariant (in_front (goal.at.loop-j-preserved c).In-loop-j)
    (test_holds (tested (goal.at.loop-j-preserved c).After-is_note) c.if-not-is_note.false)

pub returns : goal.returns
returns c =
    let n = requested-fields c.args.slot.now c.args.row c.told-slot c.ranges.row.fits c.as_chunks.ensures.front in
    chain_goes_on _ _ (sym (passed-ends c.loop-j.invariant (omega arith))) c.all_zero.ensures
    ∙ sym (behind_requested c.args.slot.now c.args.row c.told-slot c.ranges.row.fits c.as_chunks.ensures.front)
