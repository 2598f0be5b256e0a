-- `count_bits` meets its contract: the ones of a row are as many as its set places, and a row is below 2 ^ 32.
use Rattle.layout.proofs.BitLaws.{length_places}
use lib.Count.{ones}
use native.Mathlib.Nat.{mod-eq_of_lt}
use native.Mathlib.Omega.{arith}
use mathlib.Core.Path.{sym, ap, ◌∙◌}
use Rattle.layout.proofs.bits.count_bits.Goals as goal

pub returns : goal.returns
returns c = sym (length_places c.args.row 32 ∙ ap ones (mod-eq_of_lt {n = c.args.row} {m = 4294967296} (omega arith)))
