-- `hexadecimal` meets its contract: the digits of its two bytes are those of the definition.
use Rattle.std.proofs.Common.{arith, ap, ◌∙◌}
use Rattle.hex.specs.Hex.{encode_lower}
use Rattle.report.proofs.LineLaws.{hexadecimal-written}
use Rattle.report.proofs.text.TextWriter.hexadecimal.Goals as goal

pub returns : goal.returns
returns c = rw (← (ap encode_lower c.to_be_bytes.ensures ∙ hexadecimal-written c.args.n (omega arith))) c.digits.ensures
