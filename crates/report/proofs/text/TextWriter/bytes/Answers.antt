-- `bytes` meets its contract: they are copied into the part of the buffer behind what is written.
use Rattle.std.proofs.Common.{length, refl, ap, ◌∙◌}
use Rattle.layout.proofs.ByteLaws.{length-patch}
use Rattle.report.proofs.TextLaws.{part_written}
use Rattle.report.proofs.text.TextWriter.bytes.Goals as goal

pub returns : goal.returns
returns c =
    let w = c.args.self.now in
    let x = c.args.bytes.now in
    let text = part_written w x refl c.requires c.copy_from_slice.ensures.after in
    record { same_buffer = refl; kept = ap length text ∙ length-patch w.text.now w.size x c.requires; size = refl; text = text }
