-- `staff_board_write` meets its contract: a frame has at most 278 bytes and the number two, so both come back from the one number.
use native.Mathlib.Omega.{arith}
use mathlib.Core.Path.{◌∙◌}
use Rattle.writer.proofs.LimitTheorems.{frame-limit}
use Rattle.abi.proofs.CallLaws.{few-written}
use Rattle.abi.proofs.staff_board_write.Goals as goal

pub packed_result-requires : goal.packed_result-requires
packed_result-requires c = few-written c.write.result _ c.write.ensures.outcome (frame-limit _ _) (omega arith)

pub returns : goal.returns
returns c = c.packed_result.ensures _ ∙ c.write.ensures.outcome
