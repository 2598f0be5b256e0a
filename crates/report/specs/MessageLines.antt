-- The lines of messages that a replay has done, by the bytes of the journal and of the answers. The contracts of private functions use them;
-- that of `lines` does not.
use Rattle.std.specs.Prelude.{ℕ, zero, suc, ◌-◌, List, [], ◌++◌, cond, drop, eqb}
use Rattle.reader.specs.Frames.{length_field, frame_length_up_to, frame_length, kind_of}
use Rattle.report.specs.Report.{message_line}

-- the length of the answer that stands first, 0 where none stands there whole: "The largest is 518 bytes."
abbrev pub answer_length : List ℕ → ℕ
answer_length = frame_length_up_to 516

-- the lines of so many messages; none behind bytes that are no frame, or no answer
unfoldable pub lines_in : ℕ → List ℕ → List ℕ → List ℕ
lines_in zero j a = []
lines_in (suc count) j a =
    let more : List ℕ = message_line (kind_of j) (kind_of a) (length_field a - 2) ++ lines_in count (drop (frame_length j) j) (drop (answer_length a) a) in
    cond (eqb (frame_length j) 0) [] (cond (eqb (answer_length a) 0) [] more)
