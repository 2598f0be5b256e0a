-- `staff_board_step` meets its contract: few bytes are written, so the number and they fit the one number that is returned.
use Prim.Native.Nat.{◌≤◌}
use native.Mathlib.Omega.{arith}
use Rattle.layout.proofs.NumberLaws.{bytes_of}
use Rattle.model.specs.Step.{answer_limit}
use Rattle.abi.proofs.CallLaws.{written-short}
use Rattle.abi.proofs.staff_board_step.Goals as goal
use Rattle.abi.proofs.staff_board_step.Goals.{After-step-done}

few-written : (c : After-step-done) → c.step-done.result.written ≤ answer_limit
few-written c =
    let a = c.args in
    written-short a.message.now a.board.now a.answer.now c.step-done.result c.step-done.ensures
    (bytes_of a.board.now (λ i h. omega (arith, c.slice_known-1.given i)))

pub packed-requires : goal.packed-requires
packed-requires c = omega (arith, few-written (goal.at.packed-requires c).After-step-done)
