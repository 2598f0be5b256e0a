-- What reader and writer promise of each other: document 02, change 1.
use Rattle.std.specs.Prelude.{ℕ, ◌≤◌, ◌≡◌, List, map, true, take}
use Rattle.std.proofs.Math.Pow.{are_bytes}
use Rattle.reader.specs.Frames.{kind_of, body_of}
use Rattle.reader.specs.Fields.{FieldValue, number_value, string_value, out_of_body}
use Rattle.reader.specs.Kinds.{kind_fields}
use Rattle.reader.specs.Messages.{Content, content, message_content, is_accepted, enum_content}
use Rattle.reader.specs.declared.Message.{Message}
use Rattle.writer.specs.Encoding.{WriteResult, put_whole, encode_of}
use Rattle.writer.specs.Reasons.{Reason}
use Rattle.writer.specs.Words.{word_content, values_words, read_of}

-- "strings compared by their bytes": their places do not count
unfoldable pub without_place : FieldValue → FieldValue
without_place (number_value n) = number_value n
without_place (string_value place x) = string_value 0 x
without_place out_of_body = out_of_body

unfoldable pub by_bytes : Content → Content
by_bytes c = content c.code (map without_place c.values)

-- the frame that was written
unfoldable pub frame_in : WriteResult → List ℕ
frame_in r = take r.written r.buffer

abbrev pub Accepted : List ℕ → Type 0
Accepted frame = is_accepted frame ≡ true

-- the reader accepts a frame, and takes this message from it, strings compared by their bytes
abbrev pub Carries : List ℕ → Content → Type 0
Carries frame c = Accepted frame × (by_bytes (message_content frame) ≡ by_bytes c)

-- ---- of any message, so of one that is given as the enum (`enum_content`) and of one that is given as words (`word_content`)

-- "What the reader takes from the frame is that message, strings compared by their bytes"
abbrev pub ReadBack : Type 0
ReadBack = (c : Content) (b : List ℕ) → (encode_of c b).number ≡ 0 → Carries (frame_in (encode_of c b)) c

-- "for every frame the reader accepts the writer makes the same bytes again"
abbrev pub WrittenAgain : Type 0
WrittenAgain = (frame b : List ℕ) → are_bytes frame ≡ true → Accepted frame → encode_of (message_content frame) b ≡ put_whole frame b

-- "5 for a message that no frame can carry": exactly then, and exactly for one of the reasons
abbrev pub FiveIfNotCarried : Type 0
FiveIfNotCarried = (c : Content) (b : List ℕ) →
    ((encode_of c b).number ≡ 5 → (frame : List ℕ) → Carries frame c → ⊥) × (((frame : List ℕ) → Carries frame c → ⊥) → (encode_of c b).number ≡ 5)

abbrev pub FiveForAReason : Type 0
FiveForAReason = (c : Content) (b : List ℕ) →
    ((encode_of c b).number ≡ 5 → Reason (kind_fields c.code) c.values) × (Reason (kind_fields c.code) c.values → (encode_of c b).number ≡ 5)

-- a frame has at most 278 bytes, and a message at most seven words
abbrev pub FrameLimit : Type 0
FrameLimit = (c : Content) (b : List ℕ) → (encode_of c b).written ≤ 278

abbrev pub WordsLimit : Type 0
WordsLimit = (msg b : List ℕ) → (read_of (message_content msg) b).written ≤ 7

-- ---- of the functions, by their contracts

-- a message that `decode` may give for a frame
abbrev pub Decoded : List ℕ → Message → Type 0
Decoded frame m = enum_content (body_of frame) m ≡ message_content frame

-- `decode` of what `encode` wrote
abbrev pub DecodedBack : Type 0
DecodedBack = (lent b : List ℕ) (m n : Message) →
    let r : WriteResult = encode_of (enum_content lent m) b in
    r.number ≡ 0 → Decoded (frame_in r) n → by_bytes (enum_content (body_of (frame_in r)) n) ≡ by_bytes (enum_content lent m)

-- `encode` of what `decode` gave, and `write` of the words that `read` gave: the body is lent
abbrev pub DecodedAgain : Type 0
DecodedAgain = (frame b : List ℕ) (m : Message) → are_bytes frame ≡ true → Accepted frame → Decoded frame m
    → encode_of (enum_content (body_of frame) m) b ≡ put_whole frame b

abbrev pub WordsAgain : Type 0
WordsAgain = (frame b : List ℕ) → are_bytes frame ≡ true → Accepted frame
    → encode_of (word_content (body_of frame) (kind_of frame) (values_words (message_content frame).values)) b ≡ put_whole frame b
