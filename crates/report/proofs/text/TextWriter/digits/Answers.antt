-- `digits` meets its contract: the library's text is copied into the part of the buffer behind what is written.
use Rattle.std.proofs.Common.{rules, ◌≡◌, ℕ, ◌+◌, arith, length, refl, sym, ap, ◌∙◌}
use Rattle.layout.proofs.ByteLaws.{length-patch}
use Rattle.hex.specs.Hex.{lower_digits, encode_lower}
use Rattle.hex.proofs.HexLemmas.{length-encode_with}
use Rattle.report.proofs.TextLaws.{part_written}
use Rattle.report.proofs.text.TextWriter.digits.Goals as goal

pub returns : goal.returns
returns c =
    let w = c.args.self.now in
    let x = encode_lower c.args.bytes.now in
    let size = sym (length-encode_with lower_digits c.args.bytes.now) in
    let written : c.encode_to_slice.new.output ≡ x = search rules in
    let text = part_written w x size c.requires written in
    record {
      same_buffer = refl;
      kept = ap length text ∙ length-patch w.text.now w.size x (omega (arith, size, c.requires));
      size = ap (λ (k : ℕ). w.size + k) size;
      text = text;
    }
