-- What the lists of fields that kinds have in common: at least one field, values of at most 274 bytes and seven words, and fields that the reader has a
-- function for. Each is one test of the whole table of kinds, and the values stay within the bounds by induction on the list.
use Prim.Native.Nat.{ℕ, ◌+◌, ◌≤◌}
use native.Mathlib.Omega.{arith}
use mathlib.Core.Path.{◌≡◌, refl}
use mathlib.Core.List.{List, [], ◌∷◌}
use mathlib.Core.Bool.{Bool, true, false≢true, ◌&&◌}
use mathlib.Core.Option.{Option, some, none}
use lib.ListN.{length, length-append}
use lib.Dec.{leb}
use borrow.Author.Tests.{leb-true}
use Rattle.layout.proofs.BooleanLaws.{and_left, and_right}
use Rattle.layout.proofs.NumberLaws.{length_to}
use Rattle.layout.proofs.StringFieldLaws.{string_le, length-string_bytes}
use Rattle.reader.specs.Fields.{FieldType, uint, string, FieldValue, number_value, string_value, out_of_body, value_fits, values_fit, value_bytes, values_bytes}
use Rattle.reader.specs.Kinds.{kinds, kind_fields}
use Rattle.reader.proofs.KindLaws.{pass_all, entry_passes}
use Rattle.writer.specs.Table.{is_readable}
use Rattle.writer.specs.Words.{word_count, listed_fields}

pub kind_has_fields : (k : ℕ) (fs : List FieldType) → kind_fields k ≡ some fs → 1 ≤ length fs
unfolding kind_fields kinds
kind_has_fields k fs known = leb-true 1 (length fs) (entry_passes (λ (k : ℕ) (fs : List FieldType). leb 1 (length fs)) k kinds fs refl known)

-- ---- a number for each field, summed over a list of fields

abbrev pub total : (FieldType → ℕ) → List FieldType → ℕ
total m [] = 0
total m (f ∷ fs) = m f + total m fs

kind-total : (m : FieldType → ℕ) (most : ℕ) → pass_all (λ (k : ℕ) (fs : List FieldType). leb (total m fs) most) kinds ≡ true
    → (k : ℕ) → total m (listed_fields (kind_fields k)) ≤ most
unfolding listed_fields kind_fields
kind-total m most all k = by_fields (kind_fields k) refl
  where
    by_fields : (o : Option (List FieldType)) → kind_fields k ≡ o → total m (listed_fields o) ≤ most
    by_fields none e = omega arith
    by_fields (some fs) e = leb-true (total m fs) most (entry_passes (λ (k : ℕ) (fs : List FieldType). leb (total m fs) most) k kinds fs all e)

-- ---- bytes

abbrev pub most_bytes : FieldType → ℕ
most_bytes (uint w least greatest) = w
most_bytes (string limit) = 2 + limit

pub value-most : (f : FieldType) (v : FieldValue) → value_fits f v ≡ true → length (value_bytes f v) ≤ most_bytes f
unfolding value_fits value_bytes
value-most (uint w least greatest) (number_value n) fit = omega (arith, length_to w n)
value-most (uint w least greatest) (string_value place x) fit = absurd (false≢true fit)
value-most (uint w least greatest) out_of_body fit = absurd (false≢true fit)
value-most (string limit) (number_value n) fit = absurd (false≢true fit)
value-most (string limit) (string_value place x) fit = omega (arith, length-string_bytes x, string_le limit x fit)
value-most (string limit) out_of_body fit = absurd (false≢true fit)

values-most : (fs : List FieldType) (vs : List FieldValue) → values_fit fs vs ≡ true → length (values_bytes fs vs) ≤ total most_bytes fs
unfolding values_fit values_bytes
values-most [] vs fit = omega arith
values-most (f ∷ fs) [] fit = absurd (false≢true fit)
values-most (f ∷ fs) (v ∷ vs) fit =
    let first = value-most f v (and_left (value_fits f v) (values_fit fs vs) fit) in
    let others = values-most fs vs (and_right (value_fits f v) (values_fit fs vs) fit) in
    omega (arith, length-append (value_bytes f v) (values_bytes fs vs))

pub small-fields : (k : ℕ) → total most_bytes (listed_fields (kind_fields k)) ≤ 274
unfolding kinds
small-fields = kind-total most_bytes 274 refl

pub small-body : (k : ℕ) (fs : List FieldType) (vs : List FieldValue) → kind_fields k ≡ some fs → values_fit fs vs ≡ true
    → length (values_bytes fs vs) ≤ 274
unfolding listed_fields
small-body k fs vs known fit = let s = rw known at (small-fields k) in omega (arith, values-most fs vs fit)

-- ---- words

pub few_words : (k : ℕ) → total word_count (listed_fields (kind_fields k)) ≤ 7
unfolding word_count kinds
few_words = kind-total word_count 7 refl

-- ---- fields that the reader has a function for

abbrev pub all_readable : List FieldType → Bool
all_readable [] = true
all_readable (f ∷ fs) = is_readable f && all_readable fs

pub kind-readable : (k : ℕ) → all_readable (listed_fields (kind_fields k)) ≡ true
unfolding listed_fields kind_fields
kind-readable k = by_fields (kind_fields k) refl
  where
    by_fields : (o : Option (List FieldType)) → kind_fields k ≡ o → all_readable (listed_fields o) ≡ true
    by_fields none e = refl
    by_fields (some fs) e = unfold is_readable kinds in entry_passes (λ (k : ℕ) (fs : List FieldType). all_readable fs) k kinds fs refl e
