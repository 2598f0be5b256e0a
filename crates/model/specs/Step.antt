-- The step: "one message, the board and an answer buffer" in; the number, the bytes written, the board and the buffer out.
use Rattle.std.specs.Prelude.{ℕ, List, [], ◌∷◌, not, cond, length, eqb, ltb}
use Rattle.std.proofs.Math.Option.{Option, some, none}
use Rattle.layout.specs.Bytes.{patch}
use Rattle.reader.specs.Frames.{frame_bytes}
use Rattle.model.specs.State.{State}
use Rattle.model.specs.Board.{encode, decode}
use Rattle.model.specs.Soundness.{is_sound}
use Rattle.model.specs.Actions.{Cause, unsound_board, short_buffer, malformed, Action, change, query, refused, action_of}
use Rattle.model.specs.Refusals.{cause_number, RefusalRow, change_refusals, query_refusals, first_cause}
use Rattle.model.specs.Changes.{apply_change}
use Rattle.model.specs.Answers.{answer_body}

-- "The largest is 518 bytes."
abbrev pub answer_limit : ℕ
answer_limit = 518

-- ---- on states

-- what a step on any state gives: the number (0: accepted), the answer, a whole frame, and the state afterwards
pub record Response (S : Type 0) : Type 0 where
  pub number : ℕ
  pub answer : List ℕ
  pub state : S

-- "accepted is 0 with the body"; "A refusal leaves the board as it was."
unfoldable pub respond : Option Cause → State → State → List ℕ → Response State
respond none s next body = record { number = 0; answer = frame_bytes 0 body; state = next }
respond (some cause) s next body = record { number = cause_number cause; answer = frame_bytes (cause_number cause) []; state = s }

-- "no body for changes"
unfoldable pub step_action : State → Action → Response State
step_action s (change c) = respond (first_cause (change_refusals s c)) s (apply_change s c) []
step_action s (query q) = respond (first_cause (query_refusals s q)) s s (answer_body s q)
step_action s (refused refusal) = respond (some (malformed refusal)) s s []

unfoldable pub step_state : List ℕ → State → Response State
step_state msg s = step_action s (action_of msg)

-- ---- on bytes

pub record StepResult : Type 0 where
  pub number : ℕ
  pub written : ℕ
  pub board : List ℕ
  pub buffer : List ℕ

-- the rows 1 and 2 of the table
unfoldable pub argument_refusals : List ℕ → List ℕ → List RefusalRow
argument_refusals board buffer = (unsound_board, not (is_sound board)) ∷ (short_buffer, ltb (length buffer) answer_limit) ∷ []

-- "Bytes behind the frame keep their old contents."
unfoldable pub write_answer : Response State → List ℕ → List ℕ → StepResult
write_answer r board buffer = record {
  number = r.number;
  written = length r.answer;
  board = cond (eqb r.number 0) (encode r.state) board;
  buffer = patch buffer 0 r.answer;
}

-- what the rows 1 and 2 give: nothing is written
abbrev pub unanswered : ℕ → List ℕ → List ℕ → StepResult
unanswered number board buffer = record { number = number; written = 0; board = board; buffer = buffer }

unfoldable pub step_with : Option Cause → List ℕ → List ℕ → List ℕ → StepResult
step_with none msg board buffer = write_answer (step_state msg (decode board)) board buffer
step_with (some cause) msg board buffer = unanswered (cause_number cause) board buffer

unfoldable pub step_of : List ℕ → List ℕ → List ℕ → StepResult
step_of msg board buffer = step_with (first_cause (argument_refusals board buffer)) msg board buffer
