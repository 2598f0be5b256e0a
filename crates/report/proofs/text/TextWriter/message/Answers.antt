-- `message` meets its contract: the number decides the word, and what follows the kind.
use borrow.Author.Tests.{eq-eqb, ne_eqb}
use Rattle.report.specs.Report.{message_line}
use Rattle.report.proofs.text.TextWriter.message.Goals as goal

pub returns-then-number-eq0 : goal.returns-then-number-eq0
unfolding message_line
returns-then-number-eq0 c = rw (eq-eqb _ _ c.if-number-eq0.true) c.line.ensures

pub returns : goal.returns
unfolding message_line
returns c = rw (ne_eqb _ _ c.if-number-eq0.false) c.line-2.ensures
