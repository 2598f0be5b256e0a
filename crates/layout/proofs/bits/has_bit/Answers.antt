-- `has_bit` meets its contract: it tests the bit that `bit_at` gives.
use Prim.Native.Nat.{ℕ}
use mathlib.Core.Path.{ap}
use lib.Dec.{eqb}
use Rattle.layout.specs.Bits.{has_bit}
use Rattle.layout.proofs.bits.has_bit.Goals as goal

pub returns : goal.returns
unfolding has_bit
returns c = ap (λ (x : ℕ). eqb x 1) c.bit_at.ensures
