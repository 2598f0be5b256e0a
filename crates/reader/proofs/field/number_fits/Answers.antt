-- `number_fits` meets its contract: its tests are those of the field, the place first, and the number is the one that stands there.
use Prim.Native.Nat.{ℕ, ◌+◌}
use native.Mathlib.Omega.{arith}
use mathlib.Core.Path.{◌≡◌, refl, ap, ◌∙◌}
use mathlib.Core.Bool.{Bool, ◌&&◌}
use lib.ListN.{length}
use lib.Dec.{leb}
use borrow.Author.Tests.{lt-leb, le-leb}
use Rattle.layout.proofs.BooleanLaws.{test_fails, test_holds, chain_stops, chain_goes_on}
use Rattle.layout.proofs.RangeLaws.{range_holds}
use Rattle.reader.specs.Fields.{width_bytes, uint, field_fits}
use Rattle.reader.proofs.field.number_fits.Goals as goal
use Rattle.reader.proofs.field.number_fits.Goals.{After-within, After-number-n}

-- the place is tested for the bytes of the width
place : (c : After-within) → let a = c.args in c.within.result ≡ leb (a.at + width_bytes a.width) (length a.body.now)
place c = let a = c.args in c.within.ensures ∙ ap (λ (w : ℕ). leb (a.at + w) (length a.body.now)) c.bytes.ensures

-- where the number is known, its bounds decide
bounds : (c : After-number-n) {r : Bool} →
    let a = c.args in
    let n = c.number-n.result in
    r ≡ (leb a.least n && leb n a.greatest) → r ≡ field_fits (uint (width_bytes a.width) a.least a.greatest) a.body.now a.at
unfolding field_fits
bounds c q =
    let a = c.args in
    chain_goes_on _ _ (test_holds (place (goal.at.After-number-n c).After-within) c.if-not-within.false)
    (q ∙ ap (λ (n : ℕ). leb a.least n && leb n a.greatest) c.number-n.ensures)

pub returns-then-not-within : goal.returns-then-not-within
unfolding field_fits
returns-then-not-within c = chain_stops _ _ (test_fails (place (goal.at.returns-then-not-within c).After-within) c.if-not-within.true)

pub number-n-requires : goal.number-n-requires
number-n-requires c = range_holds _ _ _ (place (goal.at.number-n-requires c).After-within) c.if-not-within.false

pub returns-then-n-least : goal.returns-then-n-least
returns-then-n-least c =
    let a = c.args in
    bounds (goal.at.returns-then-n-least c).After-number-n (chain_stops _ _ (lt-leb a.least c.number-n.result (omega arith)))

pub returns : goal.returns
returns c =
    let a = c.args in
    bounds (goal.at.returns c).After-number-n (chain_goes_on _ _ (le-leb a.least c.number-n.result (omega arith)) refl)
