-- `read_request_from` meets its contract: the slots of both users are in the table, and the note of u's request to v is read.
use Rattle.access.proofs.RefusalLaws.{user-refuses}
use Rattle.access.proofs.AcceptedPlaces.{slots-within}
use Rattle.queries.specs.QueryResults.{query_result}
use Rattle.queries.proofs.QueryLaws.{note-replied, query-refused}
use Rattle.model.specs.Refusals.{query_refusals}
use Rattle.model.specs.Answers.{answer_body}
use Rattle.queries.proofs.readings.read_request_from.Goals as goal

pub returns-in_err-i : goal.returns-in_err-i
unfolding query_refusals
returns-in_err-i c = query-refused _ _ _ _ _ (user-refuses _ _ _ _ _ _ c.in_err-i.ensures.number) c.from_residual.ensures.1

pub read_request_note-requires : goal.read_request_note-requires
read_request_note-requires c =
    let found = c.in_ok-i.ensures in
    let slots = slots-within c.args.board.now.sound _ _ _ found.number found.slots.0 found.slots.1 in
    (slots.1.room, slots.0.room, c.requires)

pub returns : goal.returns
unfolding query_result query_refusals answer_body
returns c =
    let found = c.in_ok-i.ensures in
    note-replied _ _ _ _ _ _ found.slots.1 found.slots.0 _ found.number c.read_request_note.ensures
