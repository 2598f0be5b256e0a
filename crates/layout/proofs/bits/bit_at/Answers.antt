-- `bit_at` meets its contract: the code computes the definition, and a row of 32 bits has no bit at or above 32.
use native.Mathlib.Omega.{arith}
use mathlib.Core.Path.{refl, sym}
use Rattle.layout.specs.Bits.{bit_at}
use Rattle.layout.proofs.BitLaws.{bit_beyond}
use Rattle.layout.proofs.bits.bit_at.Goals as goal

pub returns-then-j-ge32 : goal.returns-then-j-ge32
returns-then-j-ge32 c = sym (bit_beyond c.args.row 32 c.args.j (omega arith) (omega arith))

pub returns : goal.returns
unfolding bit_at
returns c = refl
