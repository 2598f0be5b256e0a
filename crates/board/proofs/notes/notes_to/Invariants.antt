-- `notes_to` meets its contract. The loop's invariant: the notes from the slots before j fit; no request bit stands behind the last one.
use Rattle.model.specs.Lists.{all_below}
use Rattle.board.specs.BoardTests.{note_allowed}
use Rattle.board.proofs.LoopLaws.{Passed}
use Rattle.board.proofs.notes.notes_to.Given as goal

abbrev pub invariant-loop-j : goal.invariant-loop-j
invariant-loop-j l = Passed (all_below l.requested (note_allowed l.slot l.row)) (note_allowed l.slot l.row) l.requested l.j
