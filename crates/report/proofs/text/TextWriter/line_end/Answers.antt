-- `line_end` meets its contract: the line feed stands behind the number.
use Rattle.std.proofs.Common.{arith}
use Rattle.report.proofs.LineLaws.{length-decimal}
use Rattle.report.proofs.TextLaws.{Writes-append}
use Rattle.report.proofs.text.TextWriter.line_end.Goals as goal

pub bytes-requires : goal.bytes-requires
bytes-requires c = omega (arith, c.requires.room, c.decimal.ensures.kept, c.decimal.ensures.size, length-decimal c.args.n)

pub returns : goal.returns
returns c = Writes-append c.decimal.ensures c.bytes.ensures (omega (arith, c.requires.room, length-decimal c.args.n))
