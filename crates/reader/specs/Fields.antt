-- What stands in a body: fields of two sorts, one behind the other.
use Rattle.std.specs.Prelude.{ℕ, ◌+◌, ◌-◌, ◌^◌, List, [], ◌∷◌, ◌++◌, Bool, true, false, ◌&&◌, length, eqb, leb}
use Rattle.layout.specs.Bytes.{bytes_at}
use Rattle.layout.specs.Numbers.{to_le_bytes, from_le_bytes}
use Rattle.layout.specs.StringFields.{is_string, string_bytes}
use Rattle.reader.specs.declared.field.Width.{Width}
use Rattle.reader.specs.declared.field.Width.TheVariants.{One, Four, Eight}

-- an unsigned number of `width` bytes from `least` to `greatest`, and a string of at most `limit` bytes
pub data FieldType : Type 0 where
  uint : ℕ → ℕ → ℕ → FieldType
  string : ℕ → FieldType

-- how many bytes a number has
abbrev pub width_bytes : Width → ℕ
width_bytes One = 1
width_bytes Four = 4
width_bytes Eight = 8

-- "U, V: staff numbers (4 bytes, not 0). P: password (8 bytes). N: post number (4, not 0)." Staff and post numbers are of one type,
-- and bodies that differ in these names alone have one reader.
abbrev pub staff_number : FieldType
staff_number = uint 4 1 (2 ^ 32 - 1)

abbrev pub post_number : FieldType
post_number = uint 4 1 (2 ^ 32 - 1)

abbrev pub password : FieldType
password = uint 8 0 (2 ^ 64 - 1)

-- "picture (4 bytes)", "visibility (1 byte: 0 friends, 1 public)"
abbrev pub picture : FieldType
picture = uint 4 0 (2 ^ 32 - 1)

abbrev pub visibility : FieldType
visibility = uint 1 0 1

-- "name 24 at most, info 56, title 40, text 256, request note 24"
abbrev pub name_limit : ℕ
name_limit = 24

abbrev pub info_limit : ℕ
info_limit = 56

abbrev pub title_limit : ℕ
title_limit = 40

abbrev pub text_limit : ℕ
text_limit = 256

abbrev pub note_limit : ℕ
note_limit = 24

abbrev pub user_name : FieldType
user_name = string name_limit

abbrev pub user_info : FieldType
user_info = string info_limit

abbrev pub post_title : FieldType
post_title = string title_limit

abbrev pub post_text : FieldType
post_text = string text_limit

abbrev pub request_note : FieldType
request_note = string note_limit

-- ---- one field at a place of s

-- the number in the `width` bytes at a place; "a string is a two-byte length and that many bytes": the length, and the bytes
abbrev pub number_in : List ℕ → ℕ → ℕ → ℕ
number_in s at width = from_le_bytes (bytes_at s at width)

abbrev pub string_in : List ℕ → ℕ → List ℕ
string_in s at = bytes_at s (at + 2) (number_in s at 2)

-- the field stands there whole, and is what its type allows
unfoldable pub field_fits : FieldType → List ℕ → ℕ → Bool
field_fits (uint width least greatest) s at =
    leb (at + width) (length s) && (leb least (number_in s at width) && leb (number_in s at width) greatest)
field_fits (string limit) s at =
    leb (at + 2) (length s) && (leb (at + 2 + number_in s at 2) (length s) && is_string limit (string_in s at))

-- the place behind it
unfoldable pub field_end : FieldType → List ℕ → ℕ → ℕ
field_end (uint width least greatest) s at = at + width
field_end (string limit) s at = at + 2 + number_in s at 2

-- its value: a number, or the place and the bytes of a string; `out_of_body` is that of a string whose place reaches past the body, which
-- no body holds
pub data FieldValue : Type 0 where
  number_value : ℕ → FieldValue
  string_value : ℕ → List ℕ → FieldValue
  out_of_body : FieldValue

unfoldable pub field_value : FieldType → List ℕ → ℕ → FieldValue
field_value (uint width least greatest) s at = number_value (number_in s at width)
field_value (string limit) s at = string_value (at + 2) (string_in s at)

-- its number and the bytes of its string; 0 and none where it is of the other sort
unfoldable pub value_number : FieldValue → ℕ
value_number (number_value n) = n
value_number (string_value place x) = 0
value_number out_of_body = 0

unfoldable pub value_string : FieldValue → List ℕ
value_string (number_value n) = []
value_string (string_value place x) = x
value_string out_of_body = []

-- ---- the fields of a list, one behind the other from a place on

-- they fit, and s ends with the last one
unfoldable pub fields_fit : List FieldType → List ℕ → ℕ → Bool
fields_fit [] s at = eqb (length s) at
fields_fit (f ∷ fs) s at = field_fits f s at && fields_fit fs s (field_end f s at)

unfoldable pub field_values : List FieldType → List ℕ → ℕ → List FieldValue
field_values [] s at = []
field_values (f ∷ fs) s at = field_value f s at ∷ field_values fs s (field_end f s at)

-- ---- what most bodies begin with: U P, and U P with a staff or post number

abbrev pub begins_login : List ℕ → Bool
begins_login s = field_fits staff_number s 0 && field_fits password s 4

abbrev pub begins_target : List ℕ → Bool
begins_target s = begins_login s && field_fits staff_number s 12

-- ---- values by themselves: what a field can hold, and its bytes

unfoldable pub value_fits : FieldType → FieldValue → Bool
value_fits (uint width least greatest) (number_value n) = leb least n && leb n greatest
value_fits (uint width least greatest) (string_value place x) = false
value_fits (uint width least greatest) out_of_body = false
value_fits (string limit) (number_value n) = false
value_fits (string limit) (string_value place x) = is_string limit x
value_fits (string limit) out_of_body = false

unfoldable pub values_fit : List FieldType → List FieldValue → Bool
values_fit [] [] = true
values_fit [] (v ∷ vs) = false
values_fit (f ∷ fs) [] = false
values_fit (f ∷ fs) (v ∷ vs) = value_fits f v && values_fit fs vs

unfoldable pub value_bytes : FieldType → FieldValue → List ℕ
value_bytes (uint width least greatest) (number_value n) = to_le_bytes width n
value_bytes (uint width least greatest) (string_value place x) = []
value_bytes (uint width least greatest) out_of_body = []
value_bytes (string limit) (number_value n) = []
value_bytes (string limit) (string_value place x) = string_bytes x
value_bytes (string limit) out_of_body = []

unfoldable pub values_bytes : List FieldType → List FieldValue → List ℕ
values_bytes [] vs = []
values_bytes (f ∷ fs) [] = []
values_bytes (f ∷ fs) (v ∷ vs) = value_bytes f v ++ values_bytes fs vs
