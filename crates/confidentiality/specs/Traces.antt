-- "A journal's messages" with their answers. A trace holds no board: whether a message is accepted is decided where it is met, and all else
-- is read off the messages.
use Rattle.std.specs.Prelude.{ℕ, zero, suc, ◌+◌, Bool, take, drop, eqb}
use mathlib.Core.List.{List, [], ◌∷◌, map, zip_with}
use Rattle.reader.specs.Frames.{length_field, kind_of}
use Rattle.model.specs.State.{State}
use Rattle.model.specs.Step.{Response, step_state}
use Rattle.model.specs.Replay.{frames_of, unread, Exchange, run_of, ReplayResult}

-- a message, whether it is accepted, and its answer, "the whole frame with number and body"
pub record Event : Type 0 where
  pub frame : List ℕ
  pub accepted : Bool
  pub answer : List ℕ

-- "all its frames up to its end or to the place where replay stops with 3", and the bytes behind them
pub record Trace : Type 0 where
  pub events : List Event
  pub rest : List ℕ

-- ---- of a run: "Each meets the board that the one before it left"

-- any step over any states, where `accepts` says whether a refusal applies to a message at a state
module _ {S : Type 0} (accepts : List ℕ → S → Bool) (step : List ℕ → S → Response S) where
  abbrev pub event_of : Exchange S → Event
  event_of x = record { frame = x.frame; accepted = accepts x.frame x.before; answer = x.response.answer }

  unfoldable pub run_trace : S → List ℕ → Trace
  run_trace s j = record { events = map event_of (run_of step s j); rest = unread j }

-- "One is accepted if no refusal applies to it": none of the table's, at the state that it meets
unfoldable pub is_accepted : List ℕ → State → Bool
is_accepted m s = eqb (step_state m s).number 0

-- ---- of a replay: the answers are what its buffer begins with, and an accepted message has the number 0

unfoldable pub answers_in : ℕ → List ℕ → List (List ℕ)
answers_in zero buffer = []
answers_in (suc count) buffer = take (2 + length_field buffer) buffer ∷ answers_in count (drop (2 + length_field buffer) buffer)

unfoldable pub replay_trace : List ℕ → ReplayResult → Trace
replay_trace j r = record {
  events =
      zip_with
      (λ (m a : List ℕ). record { frame = m; accepted = eqb (kind_of a) 0; answer = a })
      (frames_of j)
      (answers_in r.messages r.buffer);
  rest = drop r.passed j;
}
