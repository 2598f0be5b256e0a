-- `list_requests` meets its contract: the numbers of those are written who have requested the sender, whose bits are set in the sender's request row.
use mathlib.Core.Path.{ap}
use Rattle.model.specs.State.{User}
use Rattle.model.specs.Answers.{staff_list, users_in, answer_body}
use Rattle.model.specs.Board.{decode}
use Prim.Native.Nat.{ℕ}
use Rattle.access.proofs.AcceptedPlaces.{sender_slot_within}
use Rattle.access.proofs.RecordReads.{numbered_user}
use Rattle.queries.proofs.ListAnswers.{requests_below_lem}
use Rattle.model.specs.Refusals.{query_refusals}
use Rattle.queries.proofs.QueryLaws.{query-refused, query-answered}
use Rattle.queries.proofs.listings.list_requests.Goals as goal

pub returns-in_err-i : goal.returns-in_err-i
unfolding query_refusals
returns-in_err-i c = query-refused _ _ _ _ _ c.in_err-i.ensures.number c.from_residual.ensures.1

pub write_staff_list-requires : goal.write_staff_list-requires
write_staff_list-requires c =
    let sender = c.in_ok-i.ensures in
    let within = sender_slot_within c.args.board.now.sound _ _ sender.number sender.slot in
    (requests_below_lem c.args.board.now.sound within.used c.user_requests-row.ensures, c.requires)

pub returns : goal.returns
unfolding query_refusals answer_body
returns c =
    let sender = c.in_ok-i.ensures in
    query-answered _ _ _ sender.number c.write_staff_list.ensures
    (ap (λ (row : ℕ). staff_list (users_in (decode c.args.board.now.bytes.now) row)) (numbered_user _ _ (λ (x : User). x.requests) sender.slot c.user_requests-row.ensures))
