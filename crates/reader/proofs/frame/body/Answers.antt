-- `body` meets its contract: the part from 4 on is what `drop 4` leaves, and a shorter message leaves nothing.
use native.Mathlib.Omega.{arith}
use mathlib.Core.Path.{sym, ◌∙◌}
use lib.ListN.{length, drop_of_length-le}
use lib.Seq.{drop-length}
use borrow.Author.Rules.{part_to_end}
use Rattle.reader.specs.Frames.{body_of}
use Rattle.reader.proofs.frame.body.Goals as goal

pub returns-then-msg-lt4 : goal.returns-then-msg-lt4
unfolding body_of
returns-then-msg-lt4 c =
    let s = c.args.msg.now in
    part_to_end s (length s) ∙ drop-length s ∙ sym (drop_of_length-le s {i = 4} (omega arith))

pub returns : goal.returns
unfolding body_of
returns c = part_to_end c.args.msg.now 4
