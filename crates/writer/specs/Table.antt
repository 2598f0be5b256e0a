-- For the contracts of inner functions: the lists of fields that kinds have, and what a list of words becomes.
use Rattle.std.specs.Prelude.{ℕ, ◌+◌, ◌≡◌, List, Bool, true, ◌&&◌, ◌||◌, cond, length, get_or, eqb, leb}
use Rattle.std.proofs.Math.Option.{Option, some, none}
use Rattle.reader.specs.Fields.{FieldType, uint, string, field_end, staff_number, password, picture, visibility, fields_fit, field_values, value_fits, values_fit, values_bytes}
use Rattle.reader.specs.Kinds.{kind_fields}
use Rattle.reader.specs.Messages.{enum_content}
use Rattle.reader.specs.declared.Message.{Message}
use Rattle.writer.specs.Words.{word_count, word_value, word_values, word_content, values_words}
use Rattle.writer.specs.declared.body.Place.{Place}
use Rattle.writer.specs.declared.table.Field.{Field}
use Rattle.writer.specs.declared.table.Field.TheVariants.{StaffNumber, Password, Picture, Visibility, Text}

abbrev pub field_type : Field → FieldType
field_type StaffNumber = staff_number
field_type Password = password
field_type Picture = picture
field_type Visibility = visibility
field_type (Text limit) = string limit

-- the fields of some kind
abbrev pub AreOfKind : List FieldType → Type 0
AreOfKind fs = (kind : ℕ) × (kind_fields kind ≡ some fs)

-- the reader has a function for the number of a field: of one, four or eight bytes (`kind-readable`: so are those of all kinds)
unfoldable pub is_readable : FieldType → Bool
is_readable (uint width least greatest) = eqb width 1 || (eqb width 4 || eqb width 8)
is_readable (string limit) = true

-- whether a field can hold the value of the words that stand first, all of which are there, and how many bytes such a value has
unfoldable pub words_fit : List ℕ → FieldType → List ℕ → Bool
words_fit lent f ws = leb (word_count f) (length ws) && value_fits f (word_value lent f ws)

unfoldable pub words_size : FieldType → List ℕ → ℕ
words_size (uint width least greatest) ws = width
words_size (string limit) ws = 2 + get_or ws 1 0

-- the body of words, and whether the fields can hold the values of the words
unfoldable pub body_bytes : List ℕ → List FieldType → List ℕ → List ℕ
body_bytes lent fs ws = values_bytes fs (word_values lent fs ws)

unfoldable pub fields_hold : List ℕ → List FieldType → List ℕ → Bool
fields_hold lent fs ws = values_fit fs (word_values lent fs ws)

-- the length of the frame that carries words, 0 where none does
unfoldable pub frame_size : List ℕ → Option (List FieldType) → List ℕ → ℕ
frame_size lent none ws = 0
frame_size lent (some fs) ws = cond (fields_hold lent fs ws) (4 + length (body_bytes lent fs ws)) 0

-- how many words a body has, 0 where it does not fit its fields
unfoldable pub body_word_count : Option (List FieldType) → List ℕ → ℕ
body_word_count none body = 0
body_word_count (some fs) body = cond (fields_fit fs body 0) (length (values_words (field_values fs body 0))) 0

-- behind a field of a body, and its words counted too
unfoldable pub place_behind : FieldType → List ℕ → Place → Place
place_behind f body p = record { at = field_end f body p.at; words = p.words + word_count f }

-- a kind and words say a message, whatever bytes its spans lie in
abbrev pub Says : ℕ → List ℕ → Message → Type 0
Says kind ws m = (lent : List ℕ) → word_content lent kind ws ≡ enum_content lent m
