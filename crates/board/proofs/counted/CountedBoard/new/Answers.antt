-- `new` meets its contract: the counts as they are read are those of the header, so the records are the used ones.
use native.Mathlib.Omega.{arith}
use mathlib.Core.Path.{◌∙◌}
use Rattle.model.specs.Board.{cut_board}
use Rattle.model.proofs.SoundnessLaws.{within-limits}
use Rattle.board.specs.BoardTests.{BoardWithinLimits}
use Rattle.board.proofs.RecordPlaces.{read-users, read-posts, read-pending, counts-hold, used-users, used-posts, used-pending}
use Rattle.board.proofs.counted.CountedBoard.new.Goals as goal
use Rattle.board.proofs.counted.CountedBoard.new.Goals.{After-records-3}

pub returns-then-users-gt-USER_LIMIT : goal.returns-then-users-gt-USER_LIMIT
returns-then-users-gt-USER_LIMIT c h =
    let b = c.args.bytes.now in
    let w = within-limits _ h.1 in
    let users = read-users b in
    let posts = read-posts b in
    let pending = read-pending b in
    omega arith

within : (c : After-records-3) → BoardWithinLimits c.args.bytes.now
within c =
    let b = c.args.bytes.now in
    let users = read-users b in
    let posts = read-posts b in
    let pending = read-pending b in
    (c.if-bytes-ne-BOARD_SIZE.false, counts-hold (cut_board b) (omega arith) (omega arith) (omega arith))

pub invariant_of-result : goal.invariant_of-result
invariant_of-result c =
    let b = c.args.bytes.now in
    record {
      within = within c;
      users_used = c.records.ensures ∙ used-users b (within c) (c.read_u16-users.ensures ∙ read-users b);
      posts_used = c.records-2.ensures ∙ used-posts b (within c) (c.read_u16-posts.ensures ∙ read-posts b);
      pending_used = c.records-3.ensures ∙ used-pending b (within c) (c.read_u16-pending.ensures ∙ read-pending b);
    }
