-- The goals of `is_absent` that need a hand.
use Prim.Native.Nat.{ℕ}
use native.Mathlib.Omega.{arith}
use mathlib.Core.Path.{◌≡◌, refl, sym, ap, ◌∙◌}
use mathlib.Core.List.{[]}
use lib.ListN.{length, get_or}
use Rattle.std.proofs.lemmas.List.{get_or_default}
use Rattle.layout.specs.Tables.{record_number}
use Rattle.model.specs.Lists.{all_below}
use Rattle.board.proofs.NumberClauses.{other_number, absent-each, gathers_next}
use Rattle.board.proofs.numbers.is_absent.Goals as goal

pub loop-record-init : goal.loop-record-init
unfolding all_below
loop-record-init g c = refl

pub loop-record-preserved : goal.loop-record-preserved
loop-record-preserved g c =
    let rs = c.args.records.now in
    let i = c.loop-record.record-index in
    gathers_next c.args.x rs i c.loop-record.found (c.record_number.ensures ∙ ap record_number (c.record-item.is ∙ get_or_default rs i _ [] c.loop-record-test.true)) c.loop-record.invariant

pub returns : goal.returns
returns g c =
    let rs = c.args.records.now in
    let all-passed : c.loop-record.record-index ≡ length rs = omega arith in
    c.loop-record.invariant ∙ ap (λ (k : ℕ). all_below k (λ (i : ℕ). other_number c.args.x (get_or rs i []))) all-passed ∙ sym (absent-each c.args.x rs)
