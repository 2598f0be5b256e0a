-- `decimal` meets its contract: the library's text is that of the definition.
use Rattle.std.proofs.Common.{◌≡◌, ap, arith, length, ◌∙◌}
use Rattle.report.specs.Report.{decimal}
use Rattle.report.proofs.LineLaws.{length-decimal, decimal-written}
use Rattle.report.proofs.text.TextWriter.decimal.Goals as goal
use Rattle.report.proofs.text.TextWriter.decimal.Goals.{After-as_bytes}

text : (c : After-as_bytes) → c.as_bytes.result.now ≡ decimal c.args.n
text c = c.as_bytes.ensures.value ∙ c.format.ensures.text ∙ decimal-written _ c.requires.range

pub bytes-requires : goal.bytes-requires
bytes-requires c = omega (arith, c.requires.room, ap length (text (goal.at.bytes-requires c).After-as_bytes), length-decimal c.args.n)

pub returns : goal.returns
returns c = rw (← text (goal.at.returns c).After-as_bytes) c.bytes.ensures
