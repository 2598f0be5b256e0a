-- The goals of `write_number` that need a hand.
use Prim.Native.Nat.{ℕ, ◌+◌, ◌-◌, ◌/◌, ◌%◌}
use native.Mathlib.Nat.{div-one}
use native.Mathlib.Omega.{arith}
use mathlib.Core.List.{List}
use mathlib.Core.Path.{◌≡◌, refl, sym, ap, ◌∙◌}
use lib.ListN.{length, take, set}
use lib.Seq.{take_all}
use Rattle.layout.specs.Bytes.{bytes_at}
use Rattle.layout.specs.Numbers.{to_le_bytes}
use Rattle.layout.proofs.RangeLaws.{range_holds}
use Rattle.layout.proofs.ByteLaws.{length-bytes_at, write-refused}
use Rattle.layout.proofs.NumberLaws.{length_to, number_more, rest_more}
use Rattle.layout.proofs.RunLaws.{copied}
use Rattle.layout.proofs.number.write_number.Goals as goal

pub returns-then-not-within : goal.returns-then-not-within
returns-then-not-within c =
    let a = c.args in write-refused a.b.now a.at (to_le_bytes a.width a.x) (length_to a.width a.x) c.within.ensures c.if-not-within.true

pub loop-byte-init : goal.loop-byte-init
unfolding to_le_bytes
loop-byte-init c = (refl, sym (div-one c.args.x))

pub loop-byte-preserved : goal.loop-byte-preserved
loop-byte-preserved c =
    let l = c.loop-byte in
    let p : List ℕ = l.byte-items in
    let j : ℕ = l.byte-index in (
      ap (λ (r : ℕ). take (j + 1) (set p j (r % 256))) l.invariant.1 ∙ number_more p j c.args.x (omega arith) l.invariant.0,
      ap (λ (r : ℕ). r / 256) l.invariant.1 ∙ rest_more j c.args.x,
    )

pub returns : goal.returns
unfolding bytes_at
returns c =
    let a = c.args in
    let l = c.loop-byte in
    let h = range_holds a.at a.width (length a.b.now) c.within.ensures c.if-not-within.false in
    let n = length-bytes_at a.b.now a.at (a.at + a.width - a.at) (omega arith) in
    let e : l.byte-index ≡ a.width = omega arith in
    copied a.b.now a.at (to_le_bytes a.width a.x) (length_to a.width a.x) h
    (sym (take_all l.byte-index l.byte-items (omega arith)) ∙ l.invariant.0 ∙ ap (λ (k : ℕ). to_le_bytes k a.x) e)
