-- `staff_board_read` meets its contract: a message has at most seven words, so the number and they fit the one number that is returned.
use native.Mathlib.Omega.{arith}
use mathlib.Core.Path.{◌∙◌}
use Rattle.writer.proofs.LimitTheorems.{words-limit}
use Rattle.abi.proofs.CallLaws.{few-written}
use Rattle.abi.proofs.staff_board_read.Goals as goal

pub packed_result-requires : goal.packed_result-requires
packed_result-requires c = few-written c.read.result _ c.read.ensures.outcome (words-limit _ _) (omega arith)

pub returns : goal.returns
returns c = c.packed_result.ensures _ ∙ c.read.ensures.outcome
