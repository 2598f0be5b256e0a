-- `staff_board_replay` meets its contract: counts of another length are refused, and the three that are written fill the 24 bytes.
use Rattle.abi.proofs.CallLaws.{counts-refused, replay_called_lem}
use Rattle.abi.proofs.staff_board_replay.Goals as goal

pub returns-then-counts-ne-COUNTS_SIZE : goal.returns-then-counts-ne-COUNTS_SIZE
returns-then-counts-ne-COUNTS_SIZE c = counts-refused _ _ _ _ c.if-counts-ne-COUNTS_SIZE.true

pub returns : goal.returns
returns c =
    replay_called_lem _ _ _ _ c.replay-done.result c.if-counts-ne-COUNTS_SIZE.false c.replay-done.ensures c.write_number.ensures
    c.write_number-2.ensures c.write_number-3.ensures c.from.ensures
