-- `line` meets its contract: its parts are written one behind the other.
use Rattle.std.proofs.Common.{arith}
use Rattle.report.proofs.LineLaws.{length-hexadecimal, line-written}
use Rattle.report.proofs.text.TextWriter.line.Goals as goal

pub bytes-requires-2 : goal.bytes-requires-2
bytes-requires-2 c = let k = length-hexadecimal c.args.kind in omega arith

pub line_end-requires-clause-room : goal.line_end-requires-clause-room
line_end-requires-clause-room c = let k = length-hexadecimal c.args.kind in omega arith

pub returns : goal.returns
returns c = line-written _ _ _ c.requires.room (omega arith) c.bytes.ensures c.hexadecimal.ensures c.bytes-2.ensures c.line_end.ensures
