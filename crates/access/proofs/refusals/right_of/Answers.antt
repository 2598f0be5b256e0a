-- `right_of` meets its contract: a single kind has its right by computation, any other by the range in which it lies.
use Prim.Native.Nat.{ℕ, ◌<◌}
use native.Mathlib.Omega.{arith}
use mathlib.Core.Path.{◌≡◌, refl, sym, ap}
use mathlib.Core.Logic.{◌⊎◌, inl, inr}
use Rattle.layout.specs.Search.{index_of}
use Rattle.model.specs.Lists.{contains}
use Rattle.model.specs.Refusals.{right_of, no_right}
use Rattle.access.proofs.RightLaws.{within, outside, by_ranges}
use Rattle.access.proofs.refusals.right_of.Goals as goal

-- a kind in neither of the ranges
unrestricted : (kind : ℕ) → (kind ≡ 0x0202 → ⊥) → (kind ≡ 0x0502 → ⊥) → (kind ≡ 0x0601 → ⊥) → (kind ≡ 0x0606 → ⊥)
    → (kind < 0x0402) ⊎ (0x0405 < kind) → (kind < 0x0504) ⊎ (0x0507 < kind) → no_right ≡ right_of kind
unrestricted kind a b d e h l = by_ranges kind a b d e (outside 0x0402 0x0405 kind h) (outside 0x0504 0x0507 kind l)

pub returns-in-514 : goal.returns-in-514
unfolding right_of contains index_of
returns-in-514 c = sym (ap right_of c.in-514.is)

pub returns-in-1282 : goal.returns-in-1282
unfolding right_of contains index_of
returns-in-1282 c = sym (ap right_of c.in-1282.is)

pub returns-in-1537 : goal.returns-in-1537
unfolding right_of contains index_of
returns-in-1537 c = sym (ap right_of c.in-1537.is)

pub returns-in-1542 : goal.returns-in-1542
unfolding right_of contains index_of
returns-in-1542 c = sym (ap right_of c.in-1542.is)

pub returns-in-1026-to-1029 : goal.returns-in-1026-to-1029
returns-in-1026-to-1029 c =
    by_ranges c.args.kind (omega arith) (omega arith) (omega arith) (omega arith)
    (within 0x0402 0x0405 c.args.kind (omega arith) (omega arith)) refl

pub returns-in-1284-to-1287 : goal.returns-in-1284-to-1287
returns-in-1284-to-1287 c =
    by_ranges c.args.kind (omega arith) (omega arith) (omega arith) (omega arith)
    (outside 0x0402 0x0405 c.args.kind (inr (omega arith))) (within 0x0504 0x0507 c.args.kind (omega arith) (omega arith))

pub returns-in_default : goal.returns-in_default
returns-in_default c = unrestricted c.args.kind (omega arith) (omega arith) (omega arith) (omega arith) (inl (omega arith)) (inl (omega arith))

pub returns-in_default-2 : goal.returns-in_default-2
returns-in_default-2 c = unrestricted c.args.kind (omega arith) (omega arith) (omega arith) (omega arith) (inr (omega arith)) (inl (omega arith))

pub returns-in_default-3 : goal.returns-in_default-3
returns-in_default-3 c = unrestricted c.args.kind (omega arith) (omega arith) (omega arith) (omega arith) (inr (omega arith)) (inr (omega arith))
