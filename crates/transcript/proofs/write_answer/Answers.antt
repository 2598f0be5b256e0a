-- `write_answer` meets its contract: the line feed stands behind the digits.
use Rattle.std.proofs.Common.{◌≡◌, ap, arith, length}
use Rattle.hex.specs.Hex.{encode_lower}
use Rattle.report.proofs.TextLaws.{Writes-append}
use Rattle.transcript.specs.AnswerLines.{answer_line}
use Rattle.transcript.proofs.AnswerLineLaws.{digits_of, length_digits, digits-written}
use Rattle.transcript.proofs.write_answer.Goals as goal
use Rattle.transcript.proofs.write_answer.Goals.{After-digits}

digits : (c : After-digits) → encode_lower c.args.answer.now ≡ digits_of c.args.answer.now
digits c = digits-written _ (λ i. omega (arith, c.shared_slice_known-1.given i))

pub bytes-requires : goal.bytes-requires
bytes-requires c = omega (arith, c.requires, c.digits.ensures.size, c.digits.ensures.kept, ap length (digits (goal.at.bytes-requires c).After-digits), length_digits c.args.answer.now)

pub returns : goal.returns
unfolding answer_line
returns c =
    let e = digits (goal.at.returns c).After-digits in
    rw (← e) (Writes-append c.digits.ensures c.bytes.ensures (omega (arith, c.requires, ap length e, length_digits c.args.answer.now)))
