-- The text of answers: "a line of lowercase hexadecimal for each message, its whole answer".
use Rattle.std.specs.Prelude.{ℕ, zero, suc, ◌*◌, ◌/◌, ◌%◌, cond, length, take, drop, eqb}
use mathlib.Core.List.{List, [], ◌∷◌, ◌++◌, map, flatten}
use Rattle.report.specs.Report.{digit_character, line_feed}
use Rattle.report.specs.MessageLines.{answer_length}
use Rattle.report.specs.Results.{ReportResult, text_result}
use Rattle.model.specs.State.{State}
use Rattle.model.specs.Step.{step_state}
use Rattle.model.specs.Replay.{Exchange, run_of}

unfoldable pub byte_digits : ℕ → List ℕ
byte_digits b = digit_character (b / 16) ∷ digit_character (b % 16) ∷ []

-- all bytes of an answer, and a line feed
unfoldable pub answer_line : List ℕ → List ℕ
answer_line answer = flatten (map byte_digits answer) ++ line_feed

-- ---- of a journal

-- the lines of the answers to a journal's messages, from a state on
unfoldable pub answers_text : State → List ℕ → List ℕ
answers_text s j = flatten (map (λ (x : Exchange State). answer_line x.response.answer) (run_of step_state s j))

-- ---- of a buffer of answers

-- the lines of the first `count` answers, which stand one behind the other; none behind bytes that are no answer
unfoldable pub answer_lines_in : ℕ → List ℕ → List ℕ
answer_lines_in zero a = []
answer_lines_in (suc count) a =
    cond (eqb (answer_length a) 0) [] (answer_line (take (answer_length a) a) ++ answer_lines_in count (drop (answer_length a) a))

-- what `answer_lines` returns, and leaves in the text buffer
unfoldable pub answers_result : ℕ → List ℕ → List ℕ → ReportResult
answers_result count a t = text_result (3 * length a) (answer_lines_in count a) t
