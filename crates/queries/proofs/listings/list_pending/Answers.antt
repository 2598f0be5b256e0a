-- `list_pending` meets its contract: the bits of all pending registrations are set in the row, so the numbers of all are written.
use native.Mathlib.Omega.{arith}
use mathlib.Core.Path.{ap}
use Rattle.layout.specs.Search.{index_of}
use Rattle.model.specs.Lists.{contains}
use Rattle.model.specs.Refusals.{right_of, query_refusals}
use Rattle.model.specs.Answers.{staff_list, answer_body}
use Rattle.model.proofs.SoundBoards.{pending-limit}
use Rattle.access.proofs.RefusalLaws.{login-refuses, login-passes, of_kind}
use Rattle.access.specs.declared.tables.Table.TheVariants.{Pending}
use Rattle.queries.proofs.ListAnswers.{all-below, all_pending}
use Rattle.queries.proofs.QueryLaws.{query-refused, query-answered}
use Rattle.queries.proofs.listings.list_pending.Goals as goal

pub returns-in_err-i : goal.returns-in_err-i
unfolding query_refusals
returns-in_err-i c = query-refused _ _ _ _ _ (login-refuses _ _ _ _ _ c.in_err-i.ensures.number) c.from_residual.ensures.1

-- the number of the sender's right is that of all rows, where those before it do not apply
pub returns-in_err-check_right : goal.returns-in_err-check_right
unfolding query_refusals
returns-in_err-check_right c =
    query-refused _ _ _ _ _
    (login-passes _ _ _ _ c.in_ok-i.ensures.number (of_kind _ _ _ _ _ c.in_err-check_right.ensures c.right_of.ensures))
    c.from_residual-in_err-check_right.ensures.1

pub check_right-requires : goal.check_right-requires
unfolding right_of contains index_of
check_right-requires c = (c.in_ok-i.ensures.slot, rw c.right_of.ensures tt)

pub write_staff_list-requires : goal.write_staff_list-requires
write_staff_list-requires c =
    let l = pending-limit c.args.board.now.sound in
    (all-below c.args.board.now.sound Pending (omega arith) c.count.ensures c.low_bits-all.ensures, c.requires)

pub returns : goal.returns
unfolding query_refusals answer_body
returns c =
    query-answered _ _ _ (login-passes _ _ _ _ c.in_ok-i.ensures.number (of_kind _ _ _ _ _ c.in_ok-check_right.ensures c.right_of.ensures))
    c.write_staff_list.ensures
    (ap staff_list (all_pending c.args.board.now.sound c.low_bits-all.ensures c.count.ensures))
