-- `notes_sound` meets its contract: the notes to each user fit its row, and those to other slots are one run.
use native.Mathlib.Omega.{arith}
use mathlib.Core.List.{List}
use mathlib.Core.Path.{◌≡◌, sym, ap, ◌∙◌}
use lib.ListN.{length, drop}
use lib.Dec.{lit<}
use Rattle.std.proofs.Common.{ℕ, rules}
use Rattle.std.proofs.lemmas.Iterator.{YieldsList-from_slice, YieldsList-from_zip}
use Rattle.std.proofs.lemmas.Iterator.Search.{all_from_yields_List}
use Rattle.layout.specs.Bytes.{all_zero}
use Rattle.layout.proofs.BooleanLaws.{call_stops, call_goes_on}
use Rattle.model.specs.Lists.{for_all, all_below}
use Rattle.model.specs.Board.{decode_user}
use Rattle.board.specs.BoardTests.{records_at}
use Rattle.board.proofs.RecordPlaces.{used-limits}
use Rattle.board.proofs.NoteClauses.{notes_fit, user_notes_fit, users-with-notes, used-slots, unused-slots, notes-clause}
use Rattle.board.proofs.notes.notes_sound.Goals as goal
use Rattle.board.proofs.notes.notes_sound.Goals.{After-all}

pub slice_bounds-unused_zero-end : goal.slice_bounds-unused_zero-end
slice_bounds-unused_zero-end c = sym (used-slots c.args.board.now c.records-slots.ensures)

pub unused_zero-requires : goal.unused_zero-requires
unused_zero-requires c =
    let n = (used-limits c.args.board.now).0 in
    (lit< tt, (omega (arith, used-slots c.args.board.now c.records-slots.ensures), omega arith))

-- what the chain tests
tested : (c : After-all) → let board = c.args.board.now in c.all.result ≡ all_below (length board.users.now) (user_notes_fit board)
tested c =
    let board = c.args.board.now in
    all_from_yields_List {s = c.zip.result} (λ (p : List ℕ × List ℕ). notes_fit p.1 (decode_user p.0).requests) c.all.new.self _ _ c.all.ensures.ran
    (YieldsList-from_zip (YieldsList-from_slice board.users.now cc) (YieldsList-from_slice c.records-slots.result.now cc)) (λ x b q k. search rules)
    ∙ users-with-notes board c.records-slots.ensures

pub returns-then-all : goal.returns-then-all
returns-then-all c =
    let board = c.args.board.now in
    call_goes_on _ (tested (goal.at.returns-then-all c).After-all) c.if-all.true
    (c.unused_zero.ensures
    ∙ ap (λ (k : ℕ). for_all all_zero (drop k (records_at board.bytes.now 23824 832 32))) (used-slots board c.records-slots.ensures)
    ∙ unused-slots board)
    ∙ sym (notes-clause board)

pub returns-else-all : goal.returns-else-all
returns-else-all c =
    c.if-all.false ∙ call_stops _ (tested (goal.at.returns-else-all c).After-all) c.if-all.false ∙ sym (notes-clause c.args.board.now)
