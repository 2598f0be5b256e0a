-- 5 exactly for one of the reasons (`five_for_a_reason`): a field cannot hold a value exactly if one of the reasons of `FieldReason` is there, and
-- fields cannot hold values exactly if one of them cannot hold its own, or their counts differ.
use mathlib.Core.Path.{◌≡◌, refl, sym, ap, ◌∙◌}
use mathlib.Core.List.{List, [], ◌∷◌}
use mathlib.Core.Bool.{Bool, true, false, true≢false, ◌&&◌, and-false}
use mathlib.Core.Option.{Option, some, none}
use lib.ListN.{length}
use lib.Dec.{leb}
use borrow.Table.Steps.{cases}
use borrow.Author.Tests.{leb-false, lt-leb}
use Rattle.layout.proofs.StringFieldLaws.{string_by}
use Rattle.reader.specs.Fields.{FieldType, uint, string, FieldValue, number_value, string_value, out_of_body, value_fits, values_fit}
use Rattle.reader.specs.Kinds.{kind_fields}
use Rattle.writer.specs.Reasons.{FieldReason, below_least, above_greatest, over_limit, past_lent, string_for_number, nothing_for_number, number_for_string, Reason, no_kind, first, later, missing, left_over}
use Rattle.writer.specs.RoundTrips.{FiveForAReason}
use Rattle.writer.proofs.EncodingLaws.{holds, five_not_held, not_held-five}

-- a test that fails behind one that holds
fails_behind : {s t : Bool} → (s && t) ≡ false → s ≡ true → t ≡ false
fails_behind {t = t} e q = sym (ap (λ (x : Bool). x && t) q) ∙ e

-- ---- one field

field-reason : (f : FieldType) (v : FieldValue) → value_fits f v ≡ false → FieldReason f v
unfolding value_fits
field-reason (uint w least greatest) (number_value n) e =
    cases (leb least n) (λ q. above_greatest (leb-false n greatest (fails_behind e q))) (λ q. below_least (leb-false least n q))
field-reason (uint w least greatest) (string_value place x) e = string_for_number
field-reason (uint w least greatest) out_of_body e = nothing_for_number
field-reason (string limit) (number_value n) e = number_for_string
field-reason (string limit) (string_value place x) e = over_limit (leb-false (length x) limit (sym (string_by limit x) ∙ e))
field-reason (string limit) out_of_body e = past_lent

not_in_field : {f : FieldType} {v : FieldValue} → FieldReason f v → value_fits f v ≡ false
unfolding value_fits
not_in_field (below_least {least = least} {greatest = greatest} {n = n} h) = ap (λ (t : Bool). t && leb n greatest) (lt-leb least n h)
not_in_field (above_greatest {least = least} {greatest = greatest} {n = n} h) =
    ap (λ (t : Bool). leb least n && t) (lt-leb n greatest h) ∙ and-false (leb least n)
not_in_field (over_limit {limit = limit} {x = x} h) = string_by limit x ∙ lt-leb (length x) limit h
not_in_field past_lent = refl
not_in_field string_for_number = refl
not_in_field nothing_for_number = refl
not_in_field number_for_string = refl

-- ---- the fields of a list, and of a kind

values-reason : (fs : List FieldType) (vs : List FieldValue) → values_fit fs vs ≡ false → Reason (some fs) vs
unfolding values_fit
values-reason [] [] e = absurd (true≢false e)
values-reason [] (v ∷ vs) e = left_over
values-reason (f ∷ fs) [] e = missing
values-reason (f ∷ fs) (v ∷ vs) e =
    cases (value_fits f v) (λ q. later (values-reason fs vs (fails_behind e q))) (λ q. first (field-reason f v q))

not_held-reason : (o : Option (List FieldType)) (vs : List FieldValue) → holds o vs ≡ false → Reason o vs
unfolding holds
not_held-reason none vs e = no_kind
not_held-reason (some fs) vs e = values-reason fs vs e

reason_not_held : {o : Option (List FieldType)} {vs : List FieldValue} → Reason o vs → holds o vs ≡ false
unfolding holds values_fit
reason_not_held no_kind = refl
reason_not_held (first {fs = fs} {vs = vs} r) = ap (λ (t : Bool). t && values_fit fs vs) (not_in_field r)
reason_not_held (later {f = f} {v = v} r) = ap (λ (t : Bool). value_fits f v && t) (reason_not_held r) ∙ and-false (value_fits f v)
reason_not_held missing = refl
reason_not_held left_over = refl

pub five_for_a_reason : FiveForAReason
five_for_a_reason c b = (
  λ e. not_held-reason (kind_fields c.code) c.values (five_not_held c b e),
  λ r. not_held-five c b (reason_not_held r),
)
