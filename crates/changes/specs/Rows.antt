-- A row of the board, read from its place, and written back there as a function has changed it.
use Rattle.std.specs.Prelude.{◌≡◌, ℕ, ◌+◌, ◌*◌, List}
use Rattle.layout.specs.Bytes.{patch}
use Rattle.layout.specs.Numbers.{to_le_bytes}
use Rattle.reader.specs.Fields.{number_in}

-- bit j of the row at a place: R says what becomes of a row at a bit
abbrev pub BitChanged : (ℕ → ℕ → ℕ → Type 0) → List ℕ → ℕ → ℕ → List ℕ → Type 0
BitChanged R old at j new = (row : ℕ) × R (number_in old at 4) j row × (new ≡ patch old at (to_le_bytes 4 row))

-- the bit of the other in the friend rows of slots i and j, one after the other
abbrev pub FriendsChanged : (ℕ → ℕ → ℕ → Type 0) → List ℕ → ℕ → ℕ → List ℕ → Type 0
FriendsChanged R old i j new = (one : List ℕ) × BitChanged R old (16 + i * 104 + 12) j one × BitChanged R one (16 + j * 104 + 12) i new
