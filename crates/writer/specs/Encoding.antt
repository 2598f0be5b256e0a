-- The frame of a message, and what the writer returns and leaves in its buffer: document 02, change 1.
use Rattle.std.specs.Prelude.{ℕ, List, cond, length, leb, Result, Ok, Err}
use Rattle.std.proofs.Math.Option.{Option, some, none}
use Rattle.layout.specs.Bytes.{patch}
use Rattle.reader.specs.Frames.{frame_bytes}
use Rattle.reader.specs.Fields.{FieldType, FieldValue, values_fit, values_bytes}
use Rattle.reader.specs.Kinds.{kind_fields}
use Rattle.reader.specs.Messages.{Content, refusal_number as read_refusal_number}
use Rattle.writer.specs.declared.Refusal.{Refusal}
use Rattle.writer.specs.declared.Refusal.TheVariants.{NotCarried, NotRead, BufferShort}

-- the number that is returned, how much was written, and the buffer
pub record WriteResult : Type 0 where
  pub number : ℕ
  pub written : ℕ
  pub buffer : List ℕ

abbrev pub result : ℕ → ℕ → List ℕ → WriteResult
result number written b = record { number = number; written = written; buffer = b }

-- the numbers of refusals; what is read is refused with the number that the reader has for it
abbrev pub refusal_number : Refusal → ℕ
refusal_number NotCarried = 5
refusal_number (NotRead r) = read_refusal_number r
refusal_number BufferShort = 13

-- two refusals have the number 5: writing gives the first of them alone, reading the second
abbrev pub IsOfWriting : Refusal → Type 0
IsOfWriting NotCarried = Unit
IsOfWriting (NotRead r) = ⊥
IsOfWriting BufferShort = Unit

abbrev pub IsOfReading : Refusal → Type 0
IsOfReading NotCarried = ⊥
IsOfReading (NotRead r) = Unit
IsOfReading BufferShort = Unit

-- what a call returns and leaves
abbrev pub outcome : Result ℕ Refusal → List ℕ → WriteResult
outcome (Ok written) b = result 0 written b
outcome (Err r) b = result (refusal_number r) 0 b

-- "13 after it when the buffer is shorter than the frame. Both write nothing; else it returns 0 and the length, and bytes behind the frame stay"; the
-- length is 0 where nothing is written
unfoldable pub put_whole : List ℕ → List ℕ → WriteResult
put_whole x b = cond (leb (length x) (length b)) (result 0 (length x) (patch b 0 x)) (result 13 0 b)

-- "5 for a message that no frame can carry": Reasons.antt has the reasons
unfoldable pub encode_fields : ℕ → Option (List FieldType) → List FieldValue → List ℕ → WriteResult
encode_fields kind none vs b = result 5 0 b
encode_fields kind (some fs) vs b = cond (values_fit fs vs) (put_whole (frame_bytes kind (values_bytes fs vs)) b) (result 5 0 b)

unfoldable pub encode_of : Content → List ℕ → WriteResult
encode_of c b = encode_fields c.code (kind_fields c.code) c.values b
