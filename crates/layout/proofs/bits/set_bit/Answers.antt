-- `set_bit` meets its contract: an or with 2 ^ j adds 2 ^ j where the bit was clear, and nothing where it was set (`set_or`).
use Rattle.layout.proofs.BitLaws.{one_shifted, set_or, set_beyond}
use lib.Bits.{bit_or}
use mathlib.Core.Path.{sym, ap, ◌∙◌}
use Rattle.layout.proofs.bits.set_bit.Goals as goal

pub returns-then-j-ge32 : goal.returns-then-j-ge32
returns-then-j-ge32 c = sym (set_beyond c.args.row c.args.j c.if-j-ge32.true)

pub returns : goal.returns
returns c =
    let a = c.args in
    ap (bit_or a.row) (one_shifted a.j c.if-j-ge32.false) ∙ sym (set_or a.row a.j c.if-j-ge32.false)
