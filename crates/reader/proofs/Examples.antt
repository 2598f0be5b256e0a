-- Worked examples, computed on the definitions: lettered cases and the listing of document 01, and limits of the fields. One table, one theorem.
use Prim.Native.Nat.{ℕ}
use mathlib.Core.Path.{◌≡◌, refl}
use mathlib.Core.List.{List, [], ◌∷◌, ◌++◌}
use mathlib.Core.Bool.{Bool, true, ◌&&◌}
use lib.ListN.{length, replicate}
use lib.Dec.{eqb}
use Rattle.layout.specs.Bytes.{bytes_at}
use Rattle.layout.specs.Numbers.{to_le_bytes, from_le_bytes}
use Rattle.layout.specs.StringFields.{is_string}
use Rattle.reader.specs.Frames.{frame_bytes, length_field, frame_length_up_to, is_frame, kind_of, body_of}
use Rattle.reader.specs.Fields.{number_value, string_value, field_fits, field_end, field_value, fields_fit, field_values}
use Rattle.reader.specs.Kinds.{kinds, fields_in, kind_fields}
use Rattle.reader.specs.Messages.{body_content, message_content}

-- ---- messages as bytes

-- U P with the staff number 7 and the password 1
abbrev login : List ℕ
login = to_le_bytes 4 7 ++ to_le_bytes 8 1

abbrev text_update : ℕ → List ℕ → List ℕ
text_update stated bytes = frame_bytes 0x0403 (login ++ (to_le_bytes 4 9 ++ (to_le_bytes 2 stated ++ bytes)))

-- ---- an example: bytes, the number that they give, and how many values

record Example : Type 0 where
  bytes : List ℕ
  code : ℕ
  count : ℕ

abbrev example : List ℕ → ℕ → ℕ → Example
example b c n = record { bytes = b; code = c; count = n }

examples : List Example
examples =
    -- the listing's messages
    example (frame_bytes 0x0101 login) 0x0101 2
    ∷ example (frame_bytes 0x0203 (login ++ (to_le_bytes 4 9 ++ (to_le_bytes 2 2 ++ (72 ∷ 105 ∷ []))))) 0x0203 4
    ∷ example (frame_bytes 0x0505 (login ++ to_le_bytes 4 9)) 0x0505 3
    ∷ example (frame_bytes 0x0603 login) 0x0603 2
    ∷ example (5 ∷ []) 3 0
    -- (a) L 1
    ∷ example (1 ∷ 0 ∷ 1 ∷ []) 3 0
    -- nothing; a head alone, of kind 0; one byte too many; one too few
    ∷ example [] 3 0
    ∷ example (2 ∷ 0 ∷ 0 ∷ 0 ∷ []) 4 0
    ∷ example (frame_bytes 0x0101 login ++ (0 ∷ [])) 3 0
    ∷ example (15 ∷ 0 ∷ 1 ∷ 1 ∷ login) 3 0
    -- (b) a text of 256 bytes; (c) L 276 with a stated 257; a text of 257 bytes, whose L is 277
    ∷ example (text_update 256 (replicate 256 97)) 0x0403 4
    ∷ example (text_update 257 (replicate 256 97)) 5 0
    ∷ example (text_update 257 (replicate 257 97)) 3 0
    -- unknown kinds, on both sides of the families
    ∷ example (frame_bytes 0x0100 login) 4 0
    ∷ example (frame_bytes 0x0206 login) 4 0
    ∷ example (frame_bytes 0x050b login) 4 0
    ∷ example (frame_bytes 0x0607 login) 4 0
    ∷ example (frame_bytes 0xffff login) 4 0
    -- staff number 0, post number 0, visibility 2, a byte behind the last field, an empty body
    ∷ example (frame_bytes 0x0101 (to_le_bytes 4 0 ++ to_le_bytes 8 1)) 5 0
    ∷ example (frame_bytes 0x0505 (login ++ to_le_bytes 4 0)) 5 0
    ∷ example (frame_bytes 0x0405 (login ++ (to_le_bytes 4 9 ++ (1 ∷ [])))) 0x0405 4
    ∷ example (frame_bytes 0x0405 (login ++ (to_le_bytes 4 9 ++ (2 ∷ [])))) 5 0
    ∷ example (frame_bytes 0x0503 (login ++ (0 ∷ []))) 5 0
    ∷ example (frame_bytes 0x0602 []) 5 0
    -- empty strings; password 0; name 24 and info 56, and one more
    ∷ example (frame_bytes 0x0201 (to_le_bytes 4 7 ++ to_le_bytes 2 0)) 0x0201 2
    ∷ example (frame_bytes 0x0401 (to_le_bytes 4 7 ++ (to_le_bytes 8 0 ++ (to_le_bytes 8 0 ++ (to_le_bytes 2 0 ++ to_le_bytes 2 0))))) 0x0401 5
    ∷ example (frame_bytes 0x0401 (login ++ (to_le_bytes 8 1 ++ (to_le_bytes 2 24 ++ (replicate 24 0 ++ (to_le_bytes 2 56 ++ replicate 56 0)))))) 0x0401 5
    ∷ example (frame_bytes 0x0401 (login ++ (to_le_bytes 8 1 ++ (to_le_bytes 2 25 ++ (replicate 25 0 ++ (to_le_bytes 2 55 ++ replicate 55 0)))))) 5 0
    ∷ []

agrees : List Example → Bool
agrees [] = true
agrees (e ∷ es) = eqb (message_content e.bytes).code e.code && (eqb (length (message_content e.bytes).values) e.count && agrees es)

examples_agree : agrees examples ≡ true
unfolding agrees examples message_content body_content is_frame frame_length_up_to length_field kind_of body_of kind_fields fields_in kinds fields_fit field_values field_fits field_end field_value is_string bytes_at frame_bytes to_le_bytes from_le_bytes
examples_agree = refl

-- the values of the listing's second message: user 7, password 1, post 9, title "Hi" at place 18
listing-values : (message_content (frame_bytes 0x0203 (login ++ (to_le_bytes 4 9 ++ (to_le_bytes 2 2 ++ (72 ∷ 105 ∷ [])))))).values
    ≡ number_value 7 ∷ number_value 1 ∷ number_value 9 ∷ string_value 18 (72 ∷ 105 ∷ []) ∷ []
unfolding message_content body_content is_frame frame_length_up_to length_field kind_of body_of kind_fields fields_in kinds fields_fit field_values field_fits field_end field_value is_string bytes_at frame_bytes to_le_bytes from_le_bytes
listing-values = refl
