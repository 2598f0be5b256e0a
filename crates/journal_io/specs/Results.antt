-- What `read_journal` has read, and what `print_journal` has left in the text buffer. Which bytes the system gives, and whether it gives them, no
-- contract says; that they stand first in the journal's buffer, that they are the reader's where those are known, and that the text is theirs, is said.
use Rattle.std.specs.Prelude.{ℕ, ◌<◌, List, Option, Result, Ok, Err, ⊤, take, length}
use Rattle.std.specs.Io.KnownBytes.{Consumes, IsAtEnd}
use Rattle.report.specs.Results.{report_result}
use Rattle.journal_io.specs.declared.error.ReadError.{ReadError}
use Rattle.journal_io.specs.declared.error.PrintError.{PrintError}
use Rattle.journal_io.specs.declared.error.PrintError.TheVariants.{Unread, Unwritten}

abbrev pub size_read : Result ℕ ReadError → ℕ
size_read (Ok n) = n
size_read (Err e) = 0

-- of the bytes that the reader had and has left, and the journal's buffer: those read were the reader's first, and none is left where the buffer has
-- room for more
abbrev pub HasRead : Result ℕ ReadError → Option (List ℕ) → Option (List ℕ) → List ℕ → Type 0
HasRead (Ok n) before after j = Consumes before after (take n j) × (n < length j → IsAtEnd after)
HasRead (Err e) before after j = ⊤

-- of the journal's buffer and the text buffer
abbrev pub text_after : Result ℕ ReadError → List ℕ → List ℕ → List ℕ
text_after (Ok n) j t = (report_result (take n j) t).text
text_after (Err e) j t = t

-- how the journal was read whose lines `print_journal` printed, or could not write
abbrev pub reading : Result ℕ PrintError → Result ℕ ReadError
reading (Ok n) = Ok n
reading (Err Unread) = Err (record {})
reading (Err (Unwritten n)) = Ok n
