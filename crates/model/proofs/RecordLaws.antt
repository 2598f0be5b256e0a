-- A record over its list of fields: its size, a field read and a field written, and any bytes as fields.
use Prim.Native.Nat.{ℕ, ◌+◌, ◌^◌, ◌≤◌, ◌<◌}
use native.Mathlib.Omega.{arith}
use mathlib.Core.Path.{◌≡◌, refl, sym, ap, ap₂, ◌∙◌, subst}
use mathlib.Core.List.{List, [], ◌∷◌, map, flatten, sum}
use mathlib.Core.Bool.{Bool, true, ◌&&◌}
use lib.ListN.{length, get_or, set, replicate, length-map, length-replicate, get_or-map}
use lib.Dec.{eqb}
use lib.Pow.{are_bytes}
use borrow.Author.Tests.{ltb-true, lt-ltb, eqb-true}
use Rattle.layout.specs.Bytes.{bytes_at, patch, all_zero, offset, pieces}
use Rattle.layout.specs.Numbers.{from_le_bytes}
use Rattle.layout.specs.StringFields.{field_string, is_string_field}
use Rattle.layout.proofs.BooleanLaws.{and_left, and_right, and_both}
use Rattle.layout.proofs.ByteLaws.{length-bytes_at, bytes_at_all, zero-replicate, replicate-zero}
use Rattle.layout.proofs.ConcatenationLaws.{length-flatten, flatten-pieces, bytes_at-field, patch-field}
use Rattle.layout.proofs.NumberLaws.{length_to, from_to, to_from, from_lt, bytes-bytes_at}
use Rattle.layout.proofs.StringFieldLaws.{string_le, length-field, string_of_field, field_of_string, field-holds, holds-string}
use Rattle.reader.specs.Fields.{number_in}
use Rattle.model.specs.Lists.{for_all}
use Rattle.model.specs.Board.{StoredField, unsigned, string, filler, stored_bytes, record_bytes, string_at}
use Rattle.model.proofs.StateRules.{stored_fits}
use Rattle.model.proofs.ListLaws.{all_at, map-set}

-- ---- sizes

unfoldable pub stored_size : StoredField → ℕ
stored_size (unsigned width n) = width
stored_size (string limit s) = 2 + limit
stored_size (filler n) = n

pub length_stored : (f : StoredField) → stored_fits f ≡ true → length (stored_bytes f) ≡ stored_size f
unfolding stored_bytes stored_fits stored_size
length_stored (unsigned width n) e = length_to width n
length_stored (string limit s) e = length-field limit s e
length_stored (filler n) e = length-replicate n 0

pub sizes-record : (fs : List StoredField) → for_all stored_fits fs ≡ true → map length (map stored_bytes fs) ≡ map stored_size fs
unfolding for_all
sizes-record [] e = refl
sizes-record (f ∷ fs) e =
    ap₂ (λ (z : ℕ) (zs : List ℕ). z ∷ zs) (length_stored f (and_left (stored_fits f) (for_all stored_fits fs) e))
    (sizes-record fs (and_right (stored_fits f) (for_all stored_fits fs) e))

pub length-record : (fs : List StoredField) → for_all stored_fits fs ≡ true → length (record_bytes fs) ≡ sum ◌+◌ 0 (map stored_size fs)
unfolding record_bytes
length-record fs e = length-flatten (map stored_bytes fs) ∙ ap (sum ◌+◌ 0) (sizes-record fs e)

-- ---- a record that is a part of b, and its field k

-- the n bytes of b from place o on are the record with the fields fs
pub record HoldsRecord (b : List ℕ) (o n : ℕ) (fs : List StoredField) : Type 0 where
  pub bytes : bytes_at b o n ≡ record_bytes fs
  pub fits : for_all stored_fits fs ≡ true
  pub size : sum ◌+◌ 0 (map stored_size fs) ≡ n

-- a record by itself
pub own-record : (fs : List StoredField) → for_all stored_fits fs ≡ true → HoldsRecord (record_bytes fs) 0 (sum ◌+◌ 0 (map stored_size fs)) fs
own-record fs e = record { bytes = bytes_at_all (record_bytes fs) (sum ◌+◌ 0 (map stored_size fs)) (length-record fs e); fits = e; size = refl }

module _ {b : List ℕ} {o n : ℕ} {fs : List StoredField} (r : HoldsRecord b o n fs) (k : ℕ) (h : k < length fs) where
  in_record : k < length (map stored_bytes fs)
  in_record = rw length-map h

  field_fits_lem : {f : StoredField} → get_or fs k (filler 0) ≡ f → stored_fits f ≡ true
  field_fits_lem q = sym (ap stored_fits q) ∙ all_at stored_fits fs k (filler 0) r.fits h

  pub field-bytes : {f : StoredField} → get_or fs k (filler 0) ≡ f → bytes_at b (o + offset (map stored_size fs) k) (stored_size f) ≡ stored_bytes f
  unfolding record_bytes stored_bytes stored_size
  field-bytes q =
      ap (bytes_at b (o + offset (map stored_size fs) k)) (sym (get_or-map stored_size fs k (filler 0) ∙ ap stored_size q))
      ∙ bytes_at-field b o n (map stored_size fs) (map stored_bytes fs) r.bytes (sizes-record fs r.fits) r.size k in_record
      ∙ get_or-map stored_bytes fs k (filler 0) ∙ ap stored_bytes q

  pub field_number : (width m : ℕ) → get_or fs k (filler 0) ≡ unsigned width m → number_in b (o + offset (map stored_size fs) k) width ≡ m
  unfolding stored_size stored_bytes stored_fits
  field_number width m q = ap from_le_bytes (field-bytes q) ∙ from_to width m (ltb-true m (256 ^ width) (field_fits_lem q))

  -- a string: the field holds one, and it is the one that was put there
  module _ (limit : ℕ) (s : List ℕ) (l : limit < 65536) (q : get_or fs k (filler 0) ≡ string limit s) where
    short : length s < 65536
    unfolding stored_fits
    short = let m = string_le limit s (field_fits_lem q) in omega arith

    pub field-string : string_at b (o + offset (map stored_size fs) k) limit ≡ s
    unfolding stored_size stored_bytes stored_fits
    field-string = ap field_string (field-bytes q) ∙ string_of_field limit s (field_fits_lem q) short

    pub field_is_string : is_string_field limit (bytes_at b (o + offset (map stored_size fs) k) (2 + limit)) ≡ true
    unfolding stored_size stored_bytes stored_fits
    field_is_string = ap (is_string_field limit) (field-bytes q) ∙ field-holds limit s (field_fits_lem q) short

  pub field-zero : (m : ℕ) → get_or fs k (filler 0) ≡ filler m → all_zero (bytes_at b (o + offset (map stored_size fs) k) m) ≡ true
  unfolding stored_size stored_bytes
  field-zero m q = ap all_zero (field-bytes q) ∙ replicate-zero m

  pub field-written : (f : StoredField) → stored_fits f ≡ true → stored_size f ≡ get_or (map stored_size fs) k 0 → o + n ≤ length b
      → patch b (o + offset (map stored_size fs) k) (stored_bytes f) ≡ patch b o (record_bytes (set fs k f))
  unfolding record_bytes
  field-written f t z l =
      patch-field b o n (map stored_size fs) (map stored_bytes fs) r.bytes (sizes-record fs r.fits) r.size k in_record
      (stored_bytes f) l (length_stored f t ∙ z)
      ∙ ap (λ (xs : List (List ℕ)). patch b o (flatten xs)) (sym (map-set stored_bytes fs k f))

-- ---- any bytes as fields

-- a field with what stands at a place of r in place of its value, and whether such a field can stand there
unfoldable pub field_from : StoredField → List ℕ → ℕ → StoredField
field_from (unsigned width n) r at = unsigned width (number_in r at width)
field_from (string limit s) r at = string limit (string_at r at limit)
field_from (filler n) r at = filler n

unfoldable pub holds_field : StoredField → List ℕ → ℕ → Bool
holds_field (unsigned width n) r at = true
holds_field (string limit s) r at = is_string_field limit (bytes_at r at (2 + limit))
holds_field (filler n) r at = all_zero (bytes_at r at n)

-- the fields of a list, one behind the other from a place on
unfoldable pub fields_from : List StoredField → List ℕ → ℕ → List StoredField
fields_from [] r at = []
fields_from (f ∷ fs) r at = field_from f r at ∷ fields_from fs r (at + stored_size f)

unfoldable pub holds_fields : List StoredField → List ℕ → ℕ → Bool
holds_fields [] r at = true
holds_fields (f ∷ fs) r at = holds_field f r at && holds_fields fs r (at + stored_size f)

-- such a field's bytes are those at its place, and it has room for what it holds
field-held : (f : StoredField) (r : List ℕ) (at : ℕ) → are_bytes r ≡ true → at + stored_size f ≤ length r → holds_field f r at ≡ true
    → (stored_bytes (field_from f r at) ≡ bytes_at r at (stored_size f)) × (stored_fits (field_from f r at) ≡ true)
unfolding field_from holds_field stored_size stored_bytes stored_fits
field-held (unsigned width n) r at y h t =
    let l = length-bytes_at r at width h in
    let b = bytes-bytes_at r at width y in
    let m : number_in r at width < 256 ^ width = subst (λ (k : ℕ). number_in r at width < 256 ^ k) l (from_lt (bytes_at r at width) b) in
    (to_from width (bytes_at r at width) b l, lt-ltb (number_in r at width) (256 ^ width) m)
field-held (string limit s) r at y h t =
    let f : List ℕ = bytes_at r at (2 + limit) in
    (field_of_string limit f (bytes-bytes_at r at (2 + limit) y) t, (holds-string limit f t).allowed)
field-held (filler n) r at y h t =
    (sym (zero-replicate (bytes_at r at n) t ∙ ap (λ (k : ℕ). replicate k 0) (length-bytes_at r at n h)), refl)

fields-held : (fs : List StoredField) (r : List ℕ) (at : ℕ) → are_bytes r ≡ true → at + sum ◌+◌ 0 (map stored_size fs) ≤ length r
    → holds_fields fs r at ≡ true
    → (map stored_bytes (fields_from fs r at) ≡ pieces (map stored_size fs) at r) × (for_all stored_fits (fields_from fs r at) ≡ true)
unfolding fields_from holds_fields pieces for_all sum
fields-held [] r at y h t = (refl, refl)
fields-held (f ∷ fs) r at y h t =
    let one = field-held f r at y (omega arith) (and_left (holds_field f r at) (holds_fields fs r (at + stored_size f)) t) in
    let rest = fields-held fs r (at + stored_size f) y (omega arith) (and_right (holds_field f r at) (holds_fields fs r (at + stored_size f)) t) in
    (ap₂ (λ (x : List ℕ) (xs : List (List ℕ)). x ∷ xs) one.0 rest.0, and_both one.1 rest.1)

-- a record's bytes: so many, and each below 256
abbrev pub is_record : ℕ → List ℕ → Bool
is_record size r = eqb (length r) size && are_bytes r

-- a record in which the fields can stand has the bytes of these fields
pub record-back : (size : ℕ) (fs : List StoredField) → sum ◌+◌ 0 (map stored_size fs) ≡ size → (r : List ℕ)
    → (is_record size r && holds_fields fs r 0) ≡ true → (record_bytes (fields_from fs r 0) ≡ r) × (for_all stored_fits (fields_from fs r 0) ≡ true)
unfolding record_bytes
record-back size fs z r e =
    let g = and_left (is_record size r) (holds_fields fs r 0) e in
    let l = eqb-true (length r) size (and_left (eqb (length r) size) (are_bytes r) g) in
    let y = and_right (eqb (length r) size) (are_bytes r) g in
    let h = fields-held fs r 0 y (omega arith) (and_right (is_record size r) (holds_fields fs r 0) e) in
    (ap flatten h.0 ∙ flatten-pieces (map stored_size fs) 0 r ∙ bytes_at_all r (sum ◌+◌ 0 (map stored_size fs)) (l ∙ sym z), h.1)

-- ---- records of one kind

-- how elements of A stand in a table: the size of their records, their fields, which bytes a record may be, and what it then holds
pub record RecordCodec (A : Type 0) : Type 0 where
  pub size : ℕ
  pub fields : A → List StoredField
  pub good : List ℕ → Bool
  pub read : List ℕ → A
  pub size_right : (x : A) → sum ◌+◌ 0 (map stored_size (fields x)) ≡ size
  pub read_back : (x : A) → for_all stored_fits (fields x) ≡ true → read (record_bytes (fields x)) ≡ x
  pub bytes_back : (r : List ℕ) → good r ≡ true → record_bytes (fields (read r)) ≡ r
  pub fits-back : (r : List ℕ) → good r ≡ true → for_all stored_fits (fields (read r)) ≡ true

pub length_codec : {A : Type 0} (c : RecordCodec A) (x : A) → for_all stored_fits (c.fields x) ≡ true → length (record_bytes (c.fields x)) ≡ c.size
length_codec c x e = length-record (c.fields x) e ∙ c.size_right x
