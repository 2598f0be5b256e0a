-- The right of a kind, by the range in which the kind lies; and that the place of a post or of a pending registration is one for that right.
use Prim.Native.Nat.{ℕ, ◌≤◌, ◌<◌}
use native.Mathlib.Omega.{arith}
use mathlib.Core.Path.{◌≡◌, refl, sym, ap, ◌∙◌, subst}
use mathlib.Core.Logic.{◌⊎◌, inl, inr}
use mathlib.Core.Bool.{Bool, true, false, cond, ◌&&◌, ◌||◌}
use lib.Dec.{eqb, leb}
use borrow.Table.Steps.{cases}
use borrow.Author.Tests.{leb-true, le-leb, ne_eqb, eqb-true}
use Rattle.layout.specs.Search.{index_of}
use Rattle.layout.proofs.BooleanLaws.{and_left, and_right, and_both, refuted}
use Rattle.model.specs.Lists.{contains}
use Rattle.model.specs.State.{State}
use Rattle.model.specs.Lookups.{post_place}
use Rattle.model.specs.Refusals.{Right, right_of, admin_right, owner_right, reader_right, no_right}
use Rattle.access.specs.Rights.{StandsAt, is_post_kind, is_pending_kind}

-- ---- ranges

pub within : (lo hi k : ℕ) → lo ≤ k → k ≤ hi → (leb lo k && leb k hi) ≡ true
within lo hi k l h = and_both (le-leb lo k l) (le-leb k hi h)

in_range : (lo hi k : ℕ) → (leb lo k && leb k hi) ≡ true → (lo ≤ k) × (k ≤ hi)
in_range lo hi k e = (leb-true lo k (and_left (leb lo k) (leb k hi) e), leb-true k hi (and_right (leb lo k) (leb k hi) e))

pub outside : (lo hi k : ℕ) → (k < lo) ⊎ (hi < k) → (leb lo k && leb k hi) ≡ false
outside lo hi k n =
    refuted (leb lo k && leb k hi) (λ e. let h = in_range lo hi k e in elim n [ inl below ↦ omega arith | inr above ↦ omega arith ])

-- a kind that is none of the single ones, by the tests of the ranges
pub by_ranges : (kind : ℕ) {owner reader : Bool} → (kind ≡ 0x0202 → ⊥) → (kind ≡ 0x0502 → ⊥) → (kind ≡ 0x0601 → ⊥) → (kind ≡ 0x0606 → ⊥)
    → (leb 0x0402 kind && leb kind 0x0405) ≡ owner → (leb 0x0504 kind && leb kind 0x0507) ≡ reader
    → cond owner owner_right (cond reader reader_right no_right) ≡ right_of kind
unfolding right_of contains index_of
by_ranges kind n₁ n₂ n₃ n₄ e f =
    simp (ne_eqb 0x0202 kind (λ q. n₁ (sym q)), ne_eqb 0x0502 kind (λ q. n₂ (sym q)), ne_eqb 0x0601 kind (λ q. n₃ (sym q)), ne_eqb kind 0x0606 n₄, e, f)

-- ---- places, for the right of a kind

module _ (s : State) (x place kind : ℕ) {right : Right} (is : right ≡ right_of kind) where
  -- it is enough to show it of r, which is the kind's right
  stands_by : (r : Right) → r ≡ right_of kind → StandsAt r s x place → StandsAt right s x place
  stands_by r e h = subst (λ (q : Right). StandsAt q s x place) (e ∙ sym is) h

  pub post_stands : is_post_kind kind ≡ true → place ≡ post_place s x → StandsAt right s x place
  post_stands h e =
      cases (leb 0x0402 kind && leb kind 0x0405)
      (λ t.
      let l = in_range 0x0402 0x0405 kind t in
      stands_by owner_right (by_ranges kind (λ q. omega arith) (λ q. omega arith) (λ q. omega arith) (λ q. omega arith) t refl) e)
      (λ f. by_reader f (subst (λ (b : Bool). (b || (leb 0x0504 kind && leb kind 0x0508)) ≡ true) f h))
    where
      -- 0504 to 0507 have the reader's right, 0508 has none
      by_reader : (leb 0x0402 kind && leb kind 0x0405) ≡ false → (leb 0x0504 kind && leb kind 0x0508) ≡ true → StandsAt right s x place
      by_reader f t =
          let l = in_range 0x0504 0x0508 kind t in
          cases (leb 0x0504 kind && leb kind 0x0507)
          (λ q. stands_by reader_right (by_ranges kind (λ e. omega arith) (λ e. omega arith) (λ e. omega arith) (λ e. omega arith) f q) e)
          (λ q. stands_by no_right (by_ranges kind (λ e. omega arith) (λ e. omega arith) (λ e. omega arith) (λ e. omega arith) f q) tt)

  pub pending_stands : is_pending_kind kind ≡ true → StandsAt right s x place
  unfolding right_of contains index_of
  pending_stands h =
      cases (eqb kind 0x0202) (λ t. stands_by admin_right (sym (ap right_of (eqb-true kind 0x0202 t))) tt)
      (λ f.
      let t = subst (λ (b : Bool). (b || eqb kind 0x0502) ≡ true) f h in
      stands_by admin_right (sym (ap right_of (eqb-true kind 0x0502 t))) tt)
