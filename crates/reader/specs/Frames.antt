-- The frame: a two-byte length L, counting all bytes after it, then a two-byte kind, then the body.
use Rattle.std.specs.Prelude.{ℕ, ◌+◌, List, ◌++◌, Bool, ◌&&◌, not, cond, length, drop, eqb, leb, Option, None, Some}
use Rattle.layout.specs.Bytes.{bytes_at}
use Rattle.layout.specs.Numbers.{to_le_bytes, from_le_bytes}

-- the length L that the frame states
unfoldable pub length_field : List ℕ → ℕ
length_field s = from_le_bytes (bytes_at s 0 2)

-- the length of the frame that stands first in s; 0 where the head of four bytes is cut, L is outside 2 to `most` or reaches past the end
unfoldable pub frame_length_up_to : ℕ → List ℕ → ℕ
frame_length_up_to most s =
    cond
    (leb 4 (length s) && (leb 2 (length_field s) && (leb (length_field s) most && leb (length_field s + 2) (length s))))
    (length_field s + 2)
    0

-- of a message: "L is 2 to 276"
abbrev pub frame_length : List ℕ → ℕ
frame_length = frame_length_up_to 276

-- a length that was looked for, which is 0 where there is none
unfoldable pub found : ℕ → Option ℕ
found n = cond (eqb n 0) None (Some n)

-- a message is one whole frame; else its refusal is 3
unfoldable pub is_frame : List ℕ → Bool
is_frame s = not (eqb (frame_length s) 0) && eqb (frame_length s) (length s)

-- the two bytes after L, or 0 where the head is cut
unfoldable pub kind_of : List ℕ → ℕ
kind_of s = cond (leb 4 (length s)) (from_le_bytes (bytes_at s 2 2)) 0

-- "the part after the four head bytes"; empty where the head is cut
unfoldable pub body_of : List ℕ → List ℕ
body_of s = drop 4 s

-- a frame of a kind and a body: L counts the kind and the body
unfoldable pub frame_bytes : ℕ → List ℕ → List ℕ
frame_bytes kind body = to_le_bytes 2 (2 + length body) ++ (to_le_bytes 2 kind ++ body)
