-- `read_text` meets its contract: the post's place is in the table, and the field copied holds its text.
use native.Mathlib.Omega.{arith}
use lib.ListN.{length}
use Rattle.layout.specs.StringFields.{string_bytes}
use Rattle.reader.specs.Fields.{text_limit}
use Rattle.model.specs.State.{Post, post_at, post_limit}
use Rattle.model.specs.Board.{decode}
use Rattle.access.proofs.AcceptedPlaces.{PlaceWithin, post-place-within}
use Rattle.access.proofs.RecordReads.{numbered_post}
use Rattle.queries.proofs.StringReads.{StringHeld, text_held}
use Rattle.queries.proofs.readings.read_text.Goals.{After-field_at-at, In_ok-place}
use Rattle.model.specs.Refusals.{query_refusals}
use Rattle.model.specs.Answers.{answer_body}
use Rattle.queries.proofs.QueryLaws.{query-refused, query-answered}
use Rattle.queries.proofs.readings.read_text.Goals as goal

pub returns-in_err-place : goal.returns-in_err-place
unfolding query_refusals
returns-in_err-place c = query-refused _ _ _ _ _ c.in_err-place.ensures.number c.from_residual.ensures.1

-- the place is in its table
within : (c : In_ok-place) → PlaceWithin c.in_ok-place.place (length (decode c.args.board.now.bytes.now).posts) post_limit
within c = let placed = c.in_ok-place.ensures in post-place-within c.args.board.now.sound _ _ _ _ placed.number placed.place

pub field_at-at-requires : goal.field_at-at-requires
field_at-at-requires c = let l = within c in (l.room, omega arith)

-- its field holds the string
held : (c : After-field_at-at) → StringHeld c.args.board.now.bytes.now c.field_at-at.result text_limit (post_at (decode c.args.board.now.bytes.now) c.in_ok-place.place).text
held c = text_held c.args.board.now.sound (within (goal.at.After-field_at-at c).In_ok-place).used c.field_at-at.ensures

pub copy_string-requires : goal.copy_string-requires
copy_string-requires c = let h = held (goal.at.copy_string-requires c).After-field_at-at in (h.inside, omega arith)

pub returns : goal.returns
unfolding query_refusals answer_body
returns c =
    let placed = c.in_ok-place.ensures in
    let h = held (goal.at.returns c).After-field_at-at in
    query-answered _ _ _ placed.number c.copy_string.ensures
    (numbered_post _ _ (λ (x : Post). string_bytes x.text) placed.place h.content)
