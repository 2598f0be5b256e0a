-- Records of one size, one behind the other: their numbers, and the removal of one of them.
use Rattle.std.specs.Prelude.{ℕ, zero, suc, ◌+◌, ◌-◌, ◌*◌, List, [], ◌∷◌, ◌++◌, ◌&&◌, cond, length, take, replicate, leb, ltb}
use Rattle.layout.specs.Bytes.{bytes_at, patch}
use Rattle.layout.specs.Numbers.{from_le_bytes}

-- the number of a record: its first four bytes
unfoldable pub record_number : List ℕ → ℕ
record_number r = from_le_bytes (take 4 r)

-- the numbers of n records of `size` bytes from `at` on; a search is `index_of` of `Search` in them
unfoldable pub record_numbers : List ℕ → ℕ → ℕ → ℕ → List ℕ
record_numbers b at size zero = []
record_numbers b at size (suc n) = from_le_bytes (bytes_at b at 4) ∷ record_numbers b (at + size) size n

-- b without record i of n: the later ones move up by one, and the last one becomes zero
unfoldable pub without_record : List ℕ → ℕ → ℕ → ℕ → ℕ → List ℕ
without_record b base size n i =
    patch b (base + i * size) (bytes_at b (base + (i + 1) * size) ((n - (i + 1)) * size) ++ replicate size 0)

-- the removal that the function does: no change where there is no record i, or the records reach past the end of b
unfoldable pub remove_record : List ℕ → ℕ → ℕ → ℕ → ℕ → List ℕ
remove_record b base size n i = cond (ltb i n && leb (base + n * size) (length b)) (without_record b base size n i) b
