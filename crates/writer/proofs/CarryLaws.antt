-- The frame of values that the fields of a kind can hold: the reader accepts it and takes these values from it, strings compared by their bytes
-- (`frame_carries`). By induction on the list of fields: each field is read where its bytes stand, behind those of the fields before it. Of the table of
-- kinds it needs two properties that all entries have: `fits_frame`, and that a body is no longer than a frame allows (`small-body`).
use Prim.Native.Nat.{ℕ, ◌+◌, ◌^◌, ◌≤◌, ◌<◌}
use native.Mathlib.Omega.{arith}
use mathlib.Core.Path.{◌≡◌, refl, sym, ap, ap₂, ◌∙◌, subst}
use mathlib.Core.List.{List, [], ◌∷◌, ◌++◌, map, append_assoc, append-nil}
use mathlib.Core.Bool.{Bool, true, false≢true, ◌&&◌}
use mathlib.Core.Option.{some}
use lib.ListN.{length, take, length-append}
use lib.Seq.{take_at, drop_at}
use lib.Dec.{leb, ltb}
use borrow.Author.Tests.{le-leb, leb-true, eq-eqb, ltb-true}
use Rattle.layout.specs.Bytes.{bytes_at}
use Rattle.layout.specs.Numbers.{to_le_bytes, from_le_bytes}
use Rattle.layout.specs.StringFields.{is_string, string_bytes}
use Rattle.layout.proofs.BooleanLaws.{and_left, and_right, and_both}
use Rattle.layout.proofs.NumberLaws.{length_to, from_to}
use Rattle.layout.proofs.StringFieldLaws.{string_le}
use Rattle.reader.specs.Frames.{frame_bytes}
use Rattle.reader.specs.Fields.{FieldType, uint, string, FieldValue, number_value, string_value, out_of_body, number_in, string_in, field_fits, field_end, fields_fit, field_value, field_values, value_fits, values_fit, value_bytes, values_bytes}
use Rattle.reader.specs.Kinds.{kinds, kind_fields, is_known, is_kind}
use Rattle.reader.specs.Messages.{Content, content, body_content, message_content, is_accepted}
use Rattle.reader.proofs.KindLaws.{entry_passes}
use Rattle.reader.proofs.FrameLaws.{frame-body, frame-kind, frame_is_frame}
use Rattle.writer.specs.RoundTrips.{without_place, by_bytes, Carries}
use Rattle.writer.proofs.SizeLaws.{small-body}

-- ---- one field, where its bytes stand behind p and before r

-- a type whose greatest value fits its bytes
fits_width : FieldType → Bool
fits_width (uint w least greatest) = ltb greatest (256 ^ w)
fits_width (string limit) = ltb limit 65536

-- x is read where it stands
part-behind : (p x r : List ℕ) (n : ℕ) → length x ≡ n → bytes_at (p ++ (x ++ r)) (length p) n ≡ x
unfolding bytes_at
part-behind p x r n e = ap (take n) (drop_at p (x ++ r) (length p) refl) ∙ take_at x r n e

-- a field that is v: its test, its end and its value
record FieldRead (f : FieldType) (v : FieldValue) (s : List ℕ) (at : ℕ) : Type 0 where
  fits : field_fits f s at ≡ true
  ends : field_end f s at ≡ at + length (value_bytes f v)
  value : without_place (field_value f s at) ≡ without_place v

number_read : (w least greatest n : ℕ) (p r : List ℕ) → fits_width (uint w least greatest) ≡ true → value_fits (uint w least greatest) (number_value n) ≡ true
    → FieldRead (uint w least greatest) (number_value n) (p ++ (to_le_bytes w n ++ r)) (length p)
unfolding fits_width value_fits field_fits field_end field_value without_place value_bytes
number_read w least greatest n p r room fit =
    let s : List ℕ = p ++ (to_le_bytes w n ++ r) in
    let low : least ≤ n = leb-true least n (and_left (leb least n) (leb n greatest) fit) in
    let high : n ≤ greatest = leb-true n greatest (and_right (leb least n) (leb n greatest) fit) in
    let below : greatest < 256 ^ w = ltb-true greatest (256 ^ w) room in
    let lx = length_to w n in
    let number : number_in s (length p) w ≡ n =
    ap from_le_bytes (part-behind p (to_le_bytes w n) r w lx) ∙ from_to w n (omega arith)
    in
    let l : length s ≡ length p + (length (to_le_bytes w n) + length r) = simp length-append in
    record {
      fits = and_both (le-leb (length p + w) (length s) (omega arith)) (ap₂ (λ (x y : ℕ). leb least x && leb y greatest) number number ∙ fit);
      ends = ap (λ (k : ℕ). length p + k) (sym lx);
      value = ap number_value number;
    }

string-read : (limit place : ℕ) (x p r : List ℕ) → fits_width (string limit) ≡ true → value_fits (string limit) (string_value place x) ≡ true
    → FieldRead (string limit) (string_value place x) (p ++ (string_bytes x ++ r)) (length p)
unfolding fits_width value_fits field_fits field_end field_value without_place value_bytes string_bytes
string-read limit place x p r room fit =
    let n : List ℕ = to_le_bytes 2 (length x) in
    let s : List ℕ = p ++ (n ++ x ++ r) in
    let short : length x ≤ limit = string_le limit x fit in
    let below : limit < 65536 = ltb-true limit 65536 room in
    let ln : length n ≡ 2 = length_to 2 (length x) in
    let lp : length (p ++ n) ≡ length p + 2 = length-append p n ∙ omega arith in
    let number : number_in s (length p) 2 ≡ length x =
    ap (λ (q : List ℕ). number_in (p ++ q) (length p) 2) (append_assoc n x r) ∙ ap from_le_bytes (part-behind p n (x ++ r) 2 ln)
    ∙ from_to 2 (length x) (omega arith)
    in
    let regroup : s ≡ p ++ n ++ (x ++ r) = simp append_assoc in
    let bytes : string_in s (length p) ≡ x =
    ap (λ (k : ℕ). bytes_at s (length p + 2) k) number ∙ ap₂ (λ (q : List ℕ) (k : ℕ). bytes_at q k (length x)) regroup (sym lp)
    ∙ part-behind (p ++ n) x r (length x) refl
    in
    let l : length s ≡ length p + (length n + length x + length r) = simp length-append in
    record {
      fits = and_both (le-leb (length p + 2) (length s) (omega arith))
          (and_both (le-leb (length p + 2 + number_in s (length p) 2) (length s) (omega arith)) (ap (is_string limit) bytes ∙ fit));
      ends = ap (λ (k : ℕ). length p + 2 + k) number ∙ let e = length-append n x in omega arith;
      value = ap (string_value 0) bytes;
    }

field-read : (f : FieldType) (v : FieldValue) (p r : List ℕ) → fits_width f ≡ true → value_fits f v ≡ true
    → FieldRead f v (p ++ (value_bytes f v ++ r)) (length p)
unfolding value_fits value_bytes
field-read (uint w least greatest) (number_value n) p r room fit = number_read w least greatest n p r room fit
field-read (uint w least greatest) (string_value place x) p r room fit = absurd (false≢true fit)
field-read (uint w least greatest) out_of_body p r room fit = absurd (false≢true fit)
field-read (string limit) (number_value n) p r room fit = absurd (false≢true fit)
field-read (string limit) (string_value place x) p r room fit = string-read limit place x p r room fit
field-read (string limit) out_of_body p r room fit = absurd (false≢true fit)

-- ---- the fields of a list, one behind the other

fit_widths : List FieldType → Bool
fit_widths [] = true
fit_widths (f ∷ fs) = fits_width f && fit_widths fs

record FieldsRead (fs : List FieldType) (vs : List FieldValue) (s : List ℕ) (at : ℕ) : Type 0 where
  fit : fields_fit fs s at ≡ true
  values : map without_place (field_values fs s at) ≡ map without_place vs

fields_read : (fs : List FieldType) (vs : List FieldValue) (p : List ℕ) → fit_widths fs ≡ true → values_fit fs vs ≡ true
    → FieldsRead fs vs (p ++ values_bytes fs vs) (length p)
unfolding fit_widths values_fit values_bytes fields_fit field_values
fields_read [] [] p room fit =
    record { fit = eq-eqb (length (p ++ [])) (length p) (ap length (append-nil p)); values = refl }
fields_read [] (v ∷ vs) p room fit = absurd (false≢true fit)
fields_read (f ∷ fs) [] p room fit = absurd (false≢true fit)
fields_read (f ∷ fs) (v ∷ vs) p room fit =
    let x : List ℕ = value_bytes f v in
    let rest : List ℕ = values_bytes fs vs in
    let first : FieldRead f v (p ++ (x ++ rest)) (length p) =
    field-read f v p rest (and_left (fits_width f) (fit_widths fs) room) (and_left (value_fits f v) (values_fit fs vs) fit)
    in
    let others : FieldsRead fs vs (p ++ (x ++ rest)) (field_end f (p ++ (x ++ rest)) (length p)) =
    subst (FieldsRead fs vs (p ++ (x ++ rest))) (length-append p x ∙ sym first.ends)
    (subst (λ (s : List ℕ). FieldsRead fs vs s (length (p ++ x))) (append_assoc p x rest)
    (fields_read fs vs (p ++ x) (and_right (fits_width f) (fit_widths fs) room) (and_right (value_fits f v) (values_fit fs vs) fit)))
    in
    record { fit = and_both first.fits others.fit; values = ap₂ (λ (y : FieldValue) (ys : List FieldValue). y ∷ ys) first.value others.values }

-- ---- what all entries of the table of kinds have in common: a kind of two bytes, and types whose greatest values fit their bytes

fits_frame : ℕ → List FieldType → Bool
fits_frame k fs = ltb k 65536 && fit_widths fs

kind-fits-frame : (k : ℕ) (fs : List FieldType) → kind_fields k ≡ some fs → fits_frame k fs ≡ true
unfolding kind_fields fits_frame fit_widths fits_width kinds
kind-fits-frame k fs e = entry_passes fits_frame k kinds fs refl e

-- ---- the frame

module _ (k : ℕ) (fs : List FieldType) (vs : List FieldValue) (known : kind_fields k ≡ some fs) (fit : values_fit fs vs ≡ true) where
  body-read : FieldsRead fs vs (values_bytes fs vs) 0
  unfolding fits_frame
  body-read = fields_read fs vs [] (and_right (ltb k 65536) (fit_widths fs) (kind-fits-frame k fs known)) fit

  frame-read : message_content (frame_bytes k (values_bytes fs vs)) ≡ content k (field_values fs (values_bytes fs vs) 0)
  unfolding message_content body_content fits_frame
  frame-read =
      let body : List ℕ = values_bytes fs vs in
      let low : k < 65536 = ltb-true k 65536 (and_left (ltb k 65536) (fit_widths fs) (kind-fits-frame k fs known)) in
      rw (frame_is_frame k body (small-body k fs vs known fit), frame-kind k body low, frame-body k body, known, body-read.fit)

  pub frame_carries : Carries (frame_bytes k (values_bytes fs vs)) (content k vs)
  unfolding by_bytes is_accepted is_kind
  frame_carries =
      (ap (λ (c : Content). is_kind c.code) frame-read ∙ ap is_known known, ap by_bytes frame-read ∙ ap (content k) body-read.values)
