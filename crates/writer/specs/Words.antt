-- The values of a message as words of 64 bits, in field order: a number is one word, a string two, its start in the lent bytes and its length.
use Rattle.std.specs.Prelude.{ℕ, List, [], ◌∷◌, ◌++◌, map, cond, length, drop, get_or, leb}
use Rattle.std.proofs.Math.Option.{Option, some, none}
use Rattle.reader.specs.Fields.{FieldType, FieldValue, uint, string, number_value, string_value, out_of_body}
use Rattle.reader.specs.Kinds.{kind_fields, is_kind}
use Rattle.reader.specs.Messages.{Content, content, span_value}
use Rattle.writer.specs.Encoding.{WriteResult, result, put_whole}

-- ---- words to values

unfoldable pub word_count : FieldType → ℕ
word_count (uint width least greatest) = 1
word_count (string limit) = 2

-- the value of a field whose words stand first
unfoldable pub word_value : List ℕ → FieldType → List ℕ → FieldValue
word_value lent (uint width least greatest) ws = number_value (get_or ws 0 0)
word_value lent (string limit) ws = span_value lent (record { start = get_or ws 0 0; len = get_or ws 1 0 })

-- where words are missing so are values, and words that are left over are values that no field takes
unfoldable pub word_values : List ℕ → List FieldType → List ℕ → List FieldValue
word_values lent [] ws = map number_value ws
word_values lent (f ∷ fs) ws = cond (leb (word_count f) (length ws)) (word_value lent f ws ∷ word_values lent fs (drop (word_count f) ws)) []

-- the fields of a kind; none for an unknown one
unfoldable pub listed_fields : Option (List FieldType) → List FieldType
listed_fields none = []
listed_fields (some fs) = fs

-- the message that a kind and words say
unfoldable pub word_content : List ℕ → ℕ → List ℕ → Content
word_content lent kind ws = content kind (word_values lent (listed_fields (kind_fields kind)) ws)

-- ---- values to words

-- a message that was read has no string past its body, so the last case never comes
unfoldable pub value_words : FieldValue → List ℕ
value_words (number_value n) = n ∷ []
value_words (string_value place x) = place ∷ length x ∷ []
value_words out_of_body = []

unfoldable pub values_words : List FieldValue → List ℕ
values_words [] = []
values_words (v ∷ vs) = value_words v ++ values_words vs

-- the way back: the refusal of bytes that are no message, with nothing written, else their words
unfoldable pub read_of : Content → List ℕ → WriteResult
read_of c b = cond (is_kind c.code) (put_whole (values_words c.values) b) (result c.code 0 b)
