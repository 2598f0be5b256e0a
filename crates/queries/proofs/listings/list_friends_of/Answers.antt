-- `list_friends_of` meets its contract: the numbers of V's friends are written, whose bits are set in V's friend row.
use mathlib.Core.Path.{ap}
use Rattle.model.specs.State.{User}
use Rattle.model.specs.Answers.{staff_list, users_in, answer_body}
use Prim.Native.Nat.{ℕ}
use Rattle.layout.specs.Search.{index_of}
use Rattle.model.specs.Lists.{contains}
use Rattle.model.specs.Board.{decode}
use Rattle.model.specs.Refusals.{right_of, query_refusals}
use Rattle.access.proofs.AcceptedPlaces.{slots-within}
use Rattle.access.proofs.RecordReads.{numbered_user}
use Rattle.access.proofs.RefusalLaws.{user-refuses, user-passes, of_kind}
use Rattle.queries.proofs.ListAnswers.{friends_below_lem}
use Rattle.queries.proofs.QueryLaws.{query-refused, query-answered}
use Rattle.queries.proofs.listings.list_friends_of.Goals as goal

pub returns-in_err-i : goal.returns-in_err-i
unfolding query_refusals
returns-in_err-i c = query-refused _ _ _ _ _ (user-refuses _ _ _ _ _ _ c.in_err-i.ensures.number) c.from_residual.ensures.1

-- the number of the sender's right is that of all rows, where those before it do not apply
pub returns-in_err-check_right : goal.returns-in_err-check_right
unfolding query_refusals
returns-in_err-check_right c =
    query-refused _ _ _ _ _
    (user-passes _ _ _ _ _ c.in_ok-i.ensures.number (of_kind _ _ _ _ _ c.in_err-check_right.ensures c.right_of.ensures))
    c.from_residual-in_err-check_right.ensures.1

pub check_right-requires : goal.check_right-requires
unfolding right_of contains index_of
check_right-requires c = let found = c.in_ok-i.ensures in (found.slots.0, rw c.right_of.ensures found.slots.1)

pub write_staff_list-requires : goal.write_staff_list-requires
write_staff_list-requires c =
    let found = c.in_ok-i.ensures in
    let slots = slots-within c.args.board.now.sound _ _ _ found.number found.slots.0 found.slots.1 in
    (friends_below_lem c.args.board.now.sound slots.1.used c.user_friends-row.ensures, c.requires)

pub returns : goal.returns
unfolding query_refusals answer_body
returns c =
    let found = c.in_ok-i.ensures in
    query-answered _ _ _ (user-passes _ _ _ _ _ found.number (of_kind _ _ _ _ _ c.in_ok-check_right.ensures c.right_of.ensures))
    c.write_staff_list.ensures
    (ap (λ (row : ℕ). staff_list (users_in (decode c.args.board.now.bytes.now) row)) (numbered_user _ _ (λ (x : User). x.friends) found.slots.1 c.user_friends-row.ensures))
