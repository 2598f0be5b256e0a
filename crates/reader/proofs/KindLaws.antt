-- Laws of the table of kinds: what a property of each kind of a range says, that no kind lies in a gap, and what all entries have in common.
use Prim.Native.Nat.{ℕ, zero, suc, ◌+◌, ◌≤◌, ◌<◌}
use native.Mathlib.Omega.{arith}
use mathlib.Core.Path.{◌≡◌, refl, sym, ap, ap₂, ◌∙◌, subst}
use mathlib.Core.List.{List, [], ◌∷◌}
use mathlib.Core.Bool.{Bool, true, false, ◌&&◌, cond}
use mathlib.Core.Option.{some, none, some-injective, none-ne-some}
use lib.Dec.{eqb, leb}
use borrow.Table.Steps.{cases}
use borrow.Author.Tests.{eqb-true, eqb-false, ne_eqb, le-leb}
use Rattle.layout.proofs.BooleanLaws.{and_left, and_right}
use Rattle.reader.specs.Fields.{FieldType}
use Rattle.reader.specs.Kinds.{KindEntry, kinds, fields_in, kind_fields}

-- ---- a property of each of n kinds from lo on

abbrev pub EachFrom : (ℕ → Type 0) → ℕ → ℕ → Type 0
EachFrom P lo zero = Unit {0}
EachFrom P lo (suc n) = P lo × EachFrom P (suc lo) n

pub each_between : (P : ℕ → Type 0) (lo n : ℕ) → EachFrom P lo n → (k : ℕ) → lo ≤ k → k < lo + n → P k
each_between P lo zero e k h l = absurd (omega arith)
each_between P lo (suc n) e k h l =
    cases (eqb k lo) (λ q. subst P (sym (eqb-true k lo q)) e.0)
    (λ q. let d = eqb-false k lo q in each_between P (suc lo) n e.1 k (omega arith) (omega arith))

-- a kind that is none of the first n of a range is the last one
pub last_kind : (lo n k : ℕ) → EachFrom (λ (j : ℕ). k ≡ j → ⊥) lo n → lo ≤ k → k ≤ lo + n → k ≡ lo + n
last_kind lo zero k e h l = omega arith
last_kind lo (suc n) k e h l = let d = e.0 in let r = last_kind (suc lo) n k e.1 (omega arith) (omega arith) in omega arith

-- ---- of a kind from lo to hi, only the entries from lo to hi count

abbrev pub entries_between : ℕ → ℕ → List KindEntry → List KindEntry
entries_between lo hi [] = []
entries_between lo hi (e ∷ es) = cond (leb lo e.kind && leb e.kind hi) (e ∷ entries_between lo hi es) (entries_between lo hi es)

fields_between : (k lo hi : ℕ) (es : List KindEntry) → lo ≤ k → k ≤ hi → fields_in k es ≡ fields_in k (entries_between lo hi es)
unfolding fields_in
fields_between k lo hi [] p q = refl
fields_between k lo hi (e ∷ es) p q = by_test (leb lo e.kind && leb e.kind hi) refl (fields_between k lo hi es p q)
  where
    outside : (leb lo e.kind && leb e.kind hi) ≡ false → k ≡ e.kind → ⊥
    outside t x = let z : ◌≡◌ {A = ℕ} 0 1 = cc (le-leb lo e.kind (omega arith), le-leb e.kind hi (omega arith)) in omega arith

    by_test : (t : Bool) → (leb lo e.kind && leb e.kind hi) ≡ t → fields_in k es ≡ fields_in k (entries_between lo hi es)
        → cond (eqb k e.kind) (some e.fields) (fields_in k es) ≡ fields_in k (cond t (e ∷ entries_between lo hi es) (entries_between lo hi es))
    by_test true t r = ap (cond (eqb k e.kind) (some e.fields)) r
    by_test false t r = ap (λ (x : Bool). cond x (some e.fields) (fields_in k es)) (ne_eqb k e.kind (outside t)) ∙ r

-- k is the kind of none of these entries
abbrev pub NoneIs : ℕ → List KindEntry → Type 0
NoneIs k [] = Unit {0}
NoneIs k (e ∷ es) = (k ≡ e.kind → ⊥) × NoneIs k es

none_in : (k : ℕ) (es : List KindEntry) → NoneIs k es → fields_in k es ≡ none
unfolding fields_in
none_in k [] n = refl
none_in k (e ∷ es) n = ap (λ (t : Bool). cond t (some e.fields) (fields_in k es)) (ne_eqb k e.kind n.0) ∙ none_in k es n.1

-- a kind from lo to hi is unknown if it is none of the entries there
pub unknown_kind_lem : (k lo hi : ℕ) → lo ≤ k → k ≤ hi → NoneIs k (entries_between lo hi kinds) → kind_fields k ≡ none
unfolding kind_fields
unknown_kind_lem k lo hi p q n = fields_between k lo hi kinds p q ∙ none_in k (entries_between lo hi kinds) n

-- ---- what all entries of the table pass, a kind and its fields pass

abbrev pub pass_all : (ℕ → List FieldType → Bool) → List KindEntry → Bool
pass_all p [] = true
pass_all p (e ∷ es) = p e.kind e.fields && pass_all p es

pub entry_passes : (p : ℕ → List FieldType → Bool) (k : ℕ) (es : List KindEntry) (fs : List FieldType)
    → pass_all p es ≡ true → fields_in k es ≡ some fs → p k fs ≡ true
unfolding fields_in
entry_passes p k [] fs all q = absurd (none-ne-some fs q)
entry_passes p k (e ∷ es) fs all q =
    by_test (eqb k e.kind) refl q (entry_passes p k es fs (and_right (p e.kind e.fields) (pass_all p es) all))
  where
    by_test : (t : Bool) → eqb k e.kind ≡ t → cond t (some e.fields) (fields_in k es) ≡ some fs → (fields_in k es ≡ some fs → p k fs ≡ true) → p k fs ≡ true
    by_test true t r later =
        ap₂ p (eqb-true k e.kind t) (sym (some-injective e.fields fs r)) ∙ and_left (p e.kind e.fields) (pass_all p es) all
    by_test false t r later = later r
