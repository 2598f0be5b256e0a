-- `is_zero` meets its contract: what is gathered is zero when all bytes are (`gathered_zero`).
use mathlib.Core.Path.{◌≡◌, ap, ◌∙◌}
use Prim.Native.Nat.{ℕ}
use Rattle.std.proofs.Common.{rules}
use Rattle.std.specs.List.{fold}
use lib.Bits.{bit_or}
use lib.Dec.{eqb}
use Rattle.layout.proofs.RunLaws.{gathered_zero}
use Rattle.layout.proofs.run.is_zero.Goals as goal

pub returns : goal.returns
returns c =
    let xs = c.args.bytes.now in
    let gathered : c.fold.result ≡ fold bit_or 0 xs = search rules in
    ap (λ (r : ℕ). eqb r 0) gathered ∙ gathered_zero 0 xs
