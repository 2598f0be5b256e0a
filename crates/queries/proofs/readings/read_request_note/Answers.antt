-- `read_request_note` meets its contract: the string copied is the note at the place for the two slots.
use native.Mathlib.Omega.{arith}
use Rattle.access.specs.declared.refusals.Refusal.TheVariants.{Missing}
use mathlib.Core.List.{[]}
use Rattle.reader.specs.Fields.{note_limit}
use Rattle.model.specs.State.{note_at}
use Rattle.model.specs.Board.{decode}
use Rattle.model.specs.Actions.{request_missing}
use Rattle.model.specs.Refusals.{cause_number}
use Rattle.access.proofs.RefusalLaws.{test_refuses, test_passes, none_refuse}
use Rattle.queries.proofs.QueryLaws.{reply-refused, reply-answered}
use Rattle.queries.proofs.StringReads.{StringHeld, note-held}
use Rattle.queries.proofs.readings.read_request_note.Goals as goal
use Rattle.queries.proofs.readings.read_request_note.Goals.{After-note_at}

pub returns-then-not-has_requested : goal.returns-then-not-has_requested
unfolding cause_number
returns-then-not-has_requested c =
    reply-refused _ _ _ Missing (test_refuses request_missing [] c.has_requested.ensures c.if-not-has_requested.true)

-- the note for the two slots stands there
held : (c : After-note_at)
    → let a = c.args in
    StringHeld a.board.now.bytes.now c.note_at.result note_limit (note_at (decode a.board.now.bytes.now) a.i a.j)
held c =
    let slots = c.requires in
    note-held c.args.board.now.sound slots.0 slots.1 c.note_at.ensures

pub copy_string-requires : goal.copy_string-requires
copy_string-requires c = let h = held (goal.at.copy_string-requires c).After-note_at in (h.inside, omega arith)

pub returns : goal.returns
returns c =
    reply-answered _ _ _ (test_passes request_missing [] c.has_requested.ensures c.if-not-has_requested.false none_refuse)
    c.copy_string.ensures (held (goal.at.returns c).After-note_at).content
