-- `cut` meets its contract: the place stands behind the word.
use Rattle.report.proofs.LineLaws.{cut-written}
use Rattle.report.proofs.text.TextWriter.cut.Goals as goal

pub returns : goal.returns
returns c = cut-written _ c.requires.room c.bytes.ensures c.line_end.ensures
