-- The goals of `short_zero` that need a hand.
use Prim.Native.Nat.{ℕ, ◌+◌, ◌-◌, ◌*◌}
use native.Mathlib.Omega.{arith}
use mathlib.Core.List.{List}
use mathlib.Core.Bool.{true}
use mathlib.Core.Path.{◌≡◌}
use lib.Pow.{are_bytes}
use Rattle.layout.proofs.NumberLaws.{bytes_of}
use Rattle.layout.proofs.WordLaws.{gathered_none, gathered_next}
use Rattle.layout.proofs.string.short_zero.Goals as goal

pub loop-k-init : goal.loop-k-init
loop-k-init c =
    let f = c.min-first in
    let a = c.args in
    gathered_none a.b.now f.result (a.at - f.result) (a.end - 8) (omega arith)

pub loop-k-preserved : goal.loop-k-preserved
loop-k-preserved c =
    let l = c.loop-k in
    let f = c.min-first in
    let a = c.args in
    let b : List ℕ = a.b.now in
    let y : are_bytes b ≡ true = bytes_of b (λ i h. omega (arith, c.type_inv.b i)) in
    let next : 8 * l.k + 8 ≡ 8 * (l.k + 1) = omega arith in
    rw next at
    (gathered_next b f.result (a.at - f.result) (a.end - 8) (omega arith) y (omega arith) l.gathered (8 * l.k)
    c.min.ensures c.read_u64-gathered.ensures l.invariant)
