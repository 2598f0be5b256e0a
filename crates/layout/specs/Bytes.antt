-- Bytes at places of a list: a part read, a part written, a run of zeros; and where the parts of a concatenation stand.
use Rattle.std.specs.Prelude.{ℕ, ◌+◌, Bool, true, ◌&&◌, cond, length, take, drop, eqb, leb}
use mathlib.Core.List.{List, [], ◌∷◌, ◌++◌, sum}

-- the n bytes of b from place `at` on
unfoldable pub bytes_at : List ℕ → ℕ → ℕ → List ℕ
bytes_at b at n = take n (drop at b)

-- b with x in place of as many bytes from `at` on, for a place within b
unfoldable pub patch : List ℕ → ℕ → List ℕ → List ℕ
patch b at x = take at b ++ (x ++ drop (at + length x) b)

-- the write that the functions do: the patch, and no change where x would reach past the end of b
unfoldable pub write_at : List ℕ → ℕ → List ℕ → List ℕ
write_at b at x = cond (leb (at + length x) (length b)) (patch b at x) b

-- what a function has returned, the count of bytes that it wrote, and left in the buffer
pub record BytesWritten : Type 0 where
  pub count : ℕ
  pub buffer : List ℕ

abbrev pub bytes_written : ℕ → List ℕ → BytesWritten
bytes_written n b = record { count = n; buffer = b }

-- x written to a place within b
unfoldable pub put_bytes : List ℕ → ℕ → List ℕ → BytesWritten
put_bytes b at x = bytes_written (length x) (patch b at x)

-- every byte is zero
unfoldable pub all_zero : List ℕ → Bool
all_zero [] = true
all_zero (x ∷ xs) = eqb x 0 && all_zero xs

-- where part k of a concatenation starts whose parts have the sizes zs (the concatenation itself is the library's `flatten`)
unfoldable pub offset : List ℕ → ℕ → ℕ
offset zs k = sum ◌+◌ 0 (take k zs)

-- b from place `at` on, cut into pieces of the sizes zs
unfoldable pub pieces : List ℕ → ℕ → List ℕ → List (List ℕ)
pieces [] at b = []
pieces (z ∷ zs) at b = bytes_at b at z ∷ pieces zs (at + z) b
