-- `kind` meets its contract: the test of the length is the one that `kind_of` makes.
use borrow.Author.Tests.{le-leb, lt-leb}
use Rattle.reader.specs.Frames.{kind_of}
use Rattle.reader.proofs.frame.kind.Goals as goal

pub returns-then-msg-lt4 : goal.returns-then-msg-lt4
unfolding kind_of
returns-then-msg-lt4 c = rw (lt-leb 4 _ c.if-msg-lt4.true)

pub returns : goal.returns
unfolding kind_of
returns c = rw (le-leb 4 _ c.if-msg-lt4.false) c.read_u16.ensures
