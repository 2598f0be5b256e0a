-- Strings in fields of a fixed size: a two-byte length, the bytes, and zeros up to the limit.
use Rattle.std.specs.Prelude.{ℕ, ◌+◌, ◌-◌, List, ◌++◌, Bool, ◌&&◌, cond, length, take, drop, replicate, eqb, leb}
use Rattle.layout.specs.Bytes.{bytes_at, write_at, all_zero}
use Rattle.layout.specs.Numbers.{to_le_bytes, from_le_bytes}

-- what a string may be, in messages and on the board: any bytes, 0 too, at most `limit` of them
unfoldable pub is_string : ℕ → List ℕ → Bool
is_string limit s = leb (length s) limit

-- a string as messages and answers hold it: a two-byte length and that many bytes
unfoldable pub string_bytes : List ℕ → List ℕ
string_bytes s = to_le_bytes 2 (length s) ++ s

-- the field that holds s: the string, and zeros up to the limit
unfoldable pub string_field : ℕ → List ℕ → List ℕ
string_field limit s = string_bytes s ++ replicate (limit - length s) 0

-- the length that a field states, and the string of so many bytes behind it
unfoldable pub stated_length : List ℕ → ℕ
stated_length f = from_le_bytes (take 2 f)

unfoldable pub field_string : List ℕ → List ℕ
field_string f = bytes_at f 2 (stated_length f)

-- a field holds a string: it has its size, the stated bytes are there and are a string, and only zeros follow
unfoldable pub is_string_field : ℕ → List ℕ → Bool
is_string_field limit f =
    eqb (length f) (2 + limit)
    && (leb (2 + stated_length f) (length f) && (is_string limit (field_string f) && all_zero (drop (2 + stated_length f) f)))

-- the write of a field: no change where s is no string of this limit
unfoldable pub write_string : List ℕ → ℕ → ℕ → List ℕ → List ℕ
write_string b at limit s = cond (is_string limit s) (write_at b at (string_field limit s)) b
