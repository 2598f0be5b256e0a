-- "Replay": a journal on a board, and the run of a journal without buffers.
use Rattle.std.specs.Prelude.{ℕ, zero, suc, ◌+◌, cond, length, take, drop, eqb, ltb}
use mathlib.Core.List.{List, [], ◌∷◌, ◌++◌, flatten}
use Rattle.reader.specs.Frames.{frame_length}
use Rattle.model.specs.Soundness.{is_sound}
use Rattle.model.specs.Step.{answer_limit, Response, StepResult, step_of}

-- ---- the run of a journal

-- "A journal's messages are all its frames up to its end or to the place where replay stops with 3, of any kind and body." A frame has
-- four bytes at least, so the journal's length is enough of a count.
unfoldable pub frames_in : ℕ → List ℕ → List (List ℕ)
frames_in zero j = []
frames_in (suc count) j =
    let more : List (List ℕ) = take (frame_length j) j ∷ frames_in count (drop (frame_length j) j) in cond (eqb (frame_length j) 0) [] more

unfoldable pub frames_of : List ℕ → List (List ℕ)
frames_of j = frames_in (length j) j

-- what is left behind the frames
unfoldable pub unread : List ℕ → List ℕ
unread j = drop (length (flatten (frames_of j))) j

-- a frame, the state that it meets, and the response
pub record Exchange (S : Type 0) : Type 0 where
  pub frame : List ℕ
  pub before : S
  pub response : Response S

-- "Each meets the board that the one before it left"
module _ {S : Type 0} (step : List ℕ → S → Response S) where
  unfoldable pub run_frames : S → List (List ℕ) → List (Exchange S)
  run_frames s [] = []
  run_frames s (m ∷ ms) = record { frame = m; before = s; response = step m s } ∷ run_frames (step m s).state ms

  unfoldable pub run_of : S → List ℕ → List (Exchange S)
  run_of s j = run_frames s (frames_of j)

-- ---- the replay

-- "why it stopped together with its counts: messages done, journal bytes passed, answer bytes written", and board and buffer afterwards
pub record ReplayResult : Type 0 where
  pub stop : ℕ
  pub messages : ℕ
  pub passed : ℕ
  pub written : ℕ
  pub board : List ℕ
  pub buffer : List ℕ

unfoldable pub stopped : ℕ → List ℕ → List ℕ → ReplayResult
stopped why board buffer = record { stop = why; messages = 0; passed = 0; written = 0; board = board; buffer = buffer }

-- a message of so many bytes done, and the replay of the rest: "its answer is written behind the answers already there"
unfoldable pub continued : ℕ → StepResult → ReplayResult → ReplayResult
continued size r rest = record {
  stop = rest.stop;
  messages = 1 + rest.messages;
  passed = size + rest.passed;
  written = r.written + rest.written;
  board = rest.board;
  buffer = take r.written r.buffer ++ rest.buffer;
}

-- "at each place: journal used up, stop with 0; fewer than 518 answer bytes left, stop with 2; head cut, L outside its range or past the
-- end, stop with 3; else the step runs, refused or not, .. and the replay hands the shorter rest of the journal to itself"
unfoldable pub replay_in : ℕ → List ℕ → List ℕ → List ℕ → ReplayResult
replay_in zero j board buffer = stopped 0 board buffer
replay_in (suc count) j board buffer =
    let size : ℕ = frame_length j in
    let r : StepResult = step_of (take size j) board buffer in
    cond (eqb (length j) 0) (stopped 0 board buffer)
    (cond (ltb (length buffer) answer_limit) (stopped 2 board buffer)
    (cond (eqb size 0) (stopped 3 board buffer)
    (continued size r (replay_in count (drop size j) r.board (drop r.written r.buffer)))))

-- "It tests the board first (1)."
unfoldable pub replay_of : List ℕ → List ℕ → List ℕ → ReplayResult
replay_of j board buffer = cond (is_sound board) (replay_in (length j) j board buffer) (stopped 1 board buffer)
