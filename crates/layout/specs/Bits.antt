-- Rows of 32 bits as numbers. Bit j is worth 2 ^ j.
use Rattle.std.specs.Prelude.{ℕ, zero, suc, ◌+◌, ◌-◌, ◌*◌, ◌/◌, ◌%◌, ◌^◌, List, [], ◌∷◌, ◌++◌, Bool, cond, eqb, ltb}

-- bit j of a row, 0 or 1
unfoldable pub bit_at : ℕ → ℕ → ℕ
bit_at row j = row / 2 ^ j % 2

unfoldable pub has_bit : ℕ → ℕ → Bool
has_bit row j = eqb (bit_at row j) 1

-- the row with bit j set; a row has no bit at or above 32
unfoldable pub set_bit : ℕ → ℕ → ℕ
set_bit row j = cond (ltb j 32) (row + (1 - bit_at row j) * 2 ^ j) row

-- the row with bit j cleared
unfoldable pub clear_bit : ℕ → ℕ → ℕ
clear_bit row j = row - bit_at row j * 2 ^ j

-- the places below n whose bits are set, in rising order
unfoldable pub set_places : ℕ → ℕ → List ℕ
set_places row zero = []
set_places row (suc j) = set_places row j ++ cond (has_bit row j) (j ∷ []) []
