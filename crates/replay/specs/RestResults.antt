-- What the private functions `stopped`, `answer_size` and `replay_rest` give; the contract of `replay` does not use it.
use Rattle.std.specs.Prelude.{ℕ, ◌≤◌, ◌≡◌, List, length}
use Rattle.model.specs.Step.{StepResult}
use Rattle.model.specs.Replay.{replay_in}
use Rattle.replay.specs.Results.{replayed}
use Rattle.replay.specs.declared.Replayed.{Replayed}
use Rattle.replay.specs.declared.Stop.{Stop}

-- stopped with no message done
abbrev pub none_done : Stop → Replayed
none_done why = record { stop = why; messages = 0; passed = 0; written = 0 }

-- what a step has written, and left on the board and in the buffer: all of its result but the number
abbrev pub Leaves : StepResult → ℕ → List ℕ → List ℕ → Type 0
Leaves s written b o = s ≡ record { number = s.number; written = written; board = b; buffer = o }

-- the replay of j, for any count that is enough, with counts within what was lent
pub record Replays (j b o : List ℕ) (r : Replayed) (b' o' : List ℕ) : Type 0 where
  pub same : (count : ℕ) → length j ≤ count → replayed r b' o' ≡ replay_in count j b o
  pub messages : r.messages ≤ length j
  pub passed : r.passed ≤ length j
  pub written : r.written ≤ length o
