-- `zero_fill` meets its contract: the library fills the part of b with zeros, and the part put back is the write (`copied`).
use native.Mathlib.Omega.{arith}
use Prim.Native.Nat.{ℕ, ◌+◌, ◌-◌}
use mathlib.Core.Path.{ap, ◌∙◌}
use lib.ListN.{length, replicate, length-replicate}
use Rattle.layout.specs.Bytes.{bytes_at}
use Rattle.layout.proofs.RangeLaws.{range_holds}
use Rattle.layout.proofs.ByteLaws.{length-bytes_at, write-refused}
use Rattle.layout.proofs.RunLaws.{copied}
use Rattle.layout.proofs.run.zero_fill.Goals as goal

pub returns-then-not-within : goal.returns-then-not-within
returns-then-not-within c =
    let a = c.args in
    write-refused a.b.now a.at (replicate a.n 0) (length-replicate a.n 0) c.within.ensures c.if-not-within.true

pub returns : goal.returns
unfolding bytes_at
returns c =
    let a = c.args in
    let h = range_holds a.at a.n (length a.b.now) c.within.ensures c.if-not-within.false in
    copied a.b.now a.at (replicate a.n 0) (length-replicate a.n 0) h
    (c.fill.ensures.after (λ y e. e) ∙ ap (λ (k : ℕ). replicate k 0) (length-bytes_at a.b.now a.at (a.at + a.n - a.at) (omega arith) ∙ omega arith))
