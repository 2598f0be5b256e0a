-- Why no frame can carry a message: document 02, change 1, "(a staff or post number 0, a string over its limit or reaching past the lent bytes, visibility
-- above 1)", and what is no message at all.
use Rattle.std.specs.Prelude.{ℕ, ◌<◌, List, [], ◌∷◌, length}
use Rattle.std.proofs.Math.Option.{Option, some, none}
use Rattle.reader.specs.Fields.{FieldType, FieldValue, uint, string, number_value, string_value, out_of_body}

-- why a field cannot hold a value
pub data FieldReason : FieldType → FieldValue → Type 0 where
  -- "a staff or post number 0": their least number is 1
  below_least : {width least greatest n : ℕ} → n < least → FieldReason (uint width least greatest) (number_value n)
  -- "visibility above 1", and a number that is too wide for its field
  above_greatest : {width least greatest n : ℕ} → greatest < n → FieldReason (uint width least greatest) (number_value n)
  -- "a string over its limit"
  over_limit : {limit place : ℕ} {x : List ℕ} → limit < length x → FieldReason (string limit) (string_value place x)
  -- "or reaching past the lent bytes"
  past_lent : {limit : ℕ} → FieldReason (string limit) out_of_body
  -- a string for a number and the other way round, which neither the enum nor words can say
  string_for_number : {width least greatest place : ℕ} {x : List ℕ} → FieldReason (uint width least greatest) (string_value place x)
  nothing_for_number : {width least greatest : ℕ} → FieldReason (uint width least greatest) out_of_body
  number_for_string : {limit n : ℕ} → FieldReason (string limit) (number_value n)

-- why no frame can carry the values of a kind
pub data Reason : Option (List FieldType) → List FieldValue → Type 0 where
  -- an unknown kind, and the refusal case of the enum
  no_kind : {vs : List FieldValue} → Reason none vs
  -- a field that cannot hold its value, the first one or a later one
  first : {f : FieldType} {fs : List FieldType} {v : FieldValue} {vs : List FieldValue} → FieldReason f v → Reason (some (f ∷ fs)) (v ∷ vs)
  later : {f : FieldType} {fs : List FieldType} {v : FieldValue} {vs : List FieldValue} → Reason (some fs) vs → Reason (some (f ∷ fs)) (v ∷ vs)
  -- another count of values
  missing : {f : FieldType} {fs : List FieldType} → Reason (some (f ∷ fs)) []
  left_over : {v : FieldValue} {vs : List FieldValue} → Reason (some []) (v ∷ vs)
