-- `list_users` meets its contract: the bits of all users are set in the row, so the numbers of all are written.
use mathlib.Core.Path.{ap}
use Rattle.model.specs.Answers.{staff_list, answer_body}
use Rattle.model.proofs.SoundBoards.{users-limit}
use Rattle.access.specs.declared.tables.Table.TheVariants.{Users}
use Rattle.queries.proofs.ListAnswers.{all-below, all_users}
use Rattle.model.specs.Refusals.{query_refusals}
use Rattle.queries.proofs.QueryLaws.{query-refused, query-answered}
use Rattle.queries.proofs.listings.list_users.Goals as goal

pub returns-in_err-log_in : goal.returns-in_err-log_in
unfolding query_refusals
returns-in_err-log_in c = query-refused _ _ _ _ _ c.in_err-log_in.ensures.number c.from_residual.ensures.1

pub write_staff_list-requires : goal.write_staff_list-requires
write_staff_list-requires c = (all-below c.args.board.now.sound Users (users-limit c.args.board.now.sound) c.count.ensures c.low_bits-all.ensures, c.requires)

pub returns : goal.returns
unfolding query_refusals answer_body
returns c =
    query-answered _ _ _ c.in_ok-log_in.ensures.number c.write_staff_list.ensures
    (ap staff_list (all_users c.args.board.now.sound c.low_bits-all.ensures c.count.ensures))
