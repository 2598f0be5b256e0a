-- `read_user` meets its contract: the user's slot is in the table, and the fields copied one behind the other hold name and info.
use Prim.Native.Nat.{ℕ, ◌+◌, ◌≤◌}
use native.Mathlib.Omega.{arith}
use mathlib.Core.Path.{refl, ap₂}
use mathlib.Core.List.{List, ◌++◌}
use Rattle.layout.specs.StringFields.{string_bytes}
use Rattle.layout.proofs.WrittenLaws.{put-behind}
use Rattle.reader.specs.Fields.{name_limit, info_limit}
use Rattle.model.specs.State.{User, user_at}
use Rattle.model.specs.Board.{decode}
use Rattle.access.proofs.AcceptedPlaces.{SlotWithin, slots-within}
use Rattle.access.proofs.RecordReads.{numbered_user}
use Rattle.queries.proofs.StringReads.{StringHeld, held-room, copied-count, name-held, info-held}
use Rattle.queries.proofs.readings.read_user.Goals.{After-copy_string-info_len, After-copy_string-name_len, After-field_at-info_at, In_ok-j}
use Rattle.model.specs.Refusals.{query_refusals}
use Rattle.model.specs.Answers.{answer_body}
use Rattle.queries.proofs.QueryLaws.{query-refused, query-answered}
use Rattle.queries.proofs.readings.read_user.Goals as goal

pub returns-in_err-j : goal.returns-in_err-j
unfolding query_refusals
returns-in_err-j c = query-refused _ _ _ _ _ c.in_err-j.ensures.number c.from_residual.ensures.1

-- the slot is in the table
within : (c : In_ok-j) → SlotWithin c.args.board.now.bytes.now c.in_ok-j.j
within c =
    let found = c.in_ok-j.ensures in
    (slots-within c.args.board.now.sound _ _ _ found.number found.slots.0 found.slots.1).1

pub field_at-name_at-requires : goal.field_at-name_at-requires
field_at-name_at-requires c = let l = within c in (l.room, omega arith)

pub field_at-info_at-requires : goal.field_at-info_at-requires
field_at-info_at-requires c = let l = within (goal.at.field_at-info_at-requires c).In_ok-j in (l.room, omega arith)

-- its fields hold name and info
name : (c : After-field_at-info_at) → StringHeld c.args.board.now.bytes.now c.field_at-name_at.result name_limit (user_at (decode c.args.board.now.bytes.now) c.in_ok-j.j).name
name c = name-held c.args.board.now.sound (within (goal.at.After-field_at-info_at c).In_ok-j).used c.field_at-name_at.ensures

info : (c : After-field_at-info_at) → StringHeld c.args.board.now.bytes.now c.field_at-info_at.result info_limit (user_at (decode c.args.board.now.bytes.now) c.in_ok-j.j).info
info c = info-held c.args.board.now.sound (within (goal.at.After-field_at-info_at c).In_ok-j).used c.field_at-info_at.ensures

pub copy_string-name_len-requires : goal.copy_string-name_len-requires
copy_string-name_len-requires c = let h = name (goal.at.copy_string-name_len-requires c).After-field_at-info_at in (h.inside, omega arith)

-- as many bytes are written as they have room for
name-count : (c : After-copy_string-name_len) → c.copy_string-name_len.result ≤ 2 + name_limit
name-count c = copied-count (name (goal.at.After-copy_string-name_len c).After-field_at-info_at) _ _ c.copy_string-name_len.ensures

pub overflow_add-name_len : goal.overflow_add-name_len
overflow_add-name_len c = let n = name-count (goal.at.overflow_add-name_len c).After-copy_string-name_len in omega arith

pub copy_string-info_len-requires : goal.copy_string-info_len-requires
copy_string-info_len-requires c =
    let n = name-count (goal.at.copy_string-info_len-requires c).After-copy_string-name_len in
    let same = c.copy_string-name_len.auto in
    let h = info (goal.at.copy_string-info_len-requires c).After-field_at-info_at in
    (h.inside, omega arith)

info-count : (c : After-copy_string-info_len) → c.copy_string-info_len.result ≤ 2 + info_limit
info-count c = copied-count (info (goal.at.After-copy_string-info_len c).After-field_at-info_at) _ _ c.copy_string-info_len.ensures

pub overflow_add-result : goal.overflow_add-result
overflow_add-result c =
    let n = name-count (goal.at.overflow_add-result c).After-copy_string-name_len in
    let i = info-count (goal.at.overflow_add-result c).After-copy_string-info_len in
    omega arith

pub returns : goal.returns
unfolding query_refusals answer_body
returns c =
    let found = c.in_ok-j.ensures in
    let name_held = name (goal.at.returns c).After-field_at-info_at in
    let info_held = info (goal.at.returns c).After-field_at-info_at in
    let n = held-room name_held in
    let i = held-room info_held in
    query-answered _ _ _ found.number
    (put-behind _ _ _ _ (omega arith) c.copy_string-name_len.ensures refl c.copy_string-info_len.ensures)
    (ap₂ (λ (x y : List ℕ). x ++ y) (numbered_user _ _ (λ (x : User). string_bytes x.name) found.slots.1 name_held.content)
    (numbered_user _ _ (λ (x : User). string_bytes x.info) found.slots.1 info_held.content))
