-- `clear_bit` meets its contract: an and with 2 ^ j is the bit times 2 ^ j (`and_power`), and an and with all other bits leaves the rest (`and-not`).
use Rattle.layout.proofs.BitLaws.{one_shifted, and_power, clear_beyond}
use Rattle.layout.specs.Bits.{clear_bit}
use Rattle.std.proofs.lemmas.Nat.{and-not}
use lib.Bits.{bit_and, and_comm}
use lib.Pow.{pow-lt}
use native.Mathlib.Omega.{arith}
use mathlib.Core.Path.{sym, ap, ◌∙◌}
use Prim.Native.Nat.{ℕ, ◌-◌, ◌^◌, ◌<◌}
use Rattle.layout.proofs.bits.clear_bit.Goals as goal

pub returns-then-j-ge32 : goal.returns-then-j-ge32
returns-then-j-ge32 c = sym (clear_beyond c.args.row c.args.j (omega arith) c.if-j-ge32.true)

pub returns : goal.returns
unfolding clear_bit
returns c =
    let row : ℕ = c.args.row in
    let j : ℕ = c.args.j in
    let bit : 2 ^ j < 2 ^ 32 = pow-lt c.if-j-ge32.false in
    let rest = and-not 32 (2 ^ j) row bit (omega arith) in
    let cut = and_comm (2 ^ j) row ∙ and_power row j in
    ap (λ (x : ℕ). bit_and row (4294967295 - x)) (one_shifted j c.if-j-ge32.false)
    ∙ and_comm row (4294967295 - 2 ^ j) ∙ omega arith
