-- A replay passes no more bytes than its journal has, on any board.
use Prim.Native.Nat.{ℕ, zero, suc, ◌≤◌}
use native.Mathlib.Omega.{arith}
use mathlib.Core.Path.{◌≡◌, ap}
use mathlib.Core.List.{List}
use mathlib.Core.Bool.{Bool, true, false, cond}
use lib.ListN.{length, take, drop, length-drop}
use lib.Dec.{eqb, ltb}
use Rattle.reader.specs.Frames.{frame_length}
use Rattle.reader.proofs.FrameLaws.{frame-inside}
use Rattle.model.specs.Soundness.{is_sound}
use Rattle.model.specs.Step.{answer_limit, StepResult, step_of}
use Rattle.model.specs.Replay.{ReplayResult, stopped, continued, replay_in, replay_of}
use Rattle.replay.specs.Results.{replayed}
use Rattle.replay.specs.declared.Replayed.{Replayed}

-- of a message, and of the rest behind it
passed-more : (j b o : List ℕ) (first : StepResult) (rest : ReplayResult) → rest.passed ≤ length (drop (frame_length j) j) → (used short cut : Bool)
    → (cond used (stopped 0 b o) (cond short (stopped 2 b o) (cond cut (stopped 3 b o) (continued (frame_length j) first rest)))).passed ≤ length j
unfolding stopped continued
passed-more j b o first rest later true short cut = omega arith
passed-more j b o first rest later false true cut = omega arith
passed-more j b o first rest later false false true = omega arith
passed-more j b o first rest later false false false = let l = length-drop (frame_length j) j in omega (arith, frame-inside j)

passed_in : (count : ℕ) (j b o : List ℕ) → (replay_in count j b o).passed ≤ length j
unfolding replay_in stopped
passed_in zero j b o = omega arith
passed_in (suc count) j b o =
    let first : StepResult = step_of (take (frame_length j) j) b o in
    passed-more j b o first _ (passed_in count (drop (frame_length j) j) first.board (drop first.written first.buffer))
    (eqb (length j) 0) (ltb (length o) answer_limit) (eqb (frame_length j) 0)

-- what `replay` returned
pub passed-inside : (j b o : List ℕ) (r : Replayed) {b' o' : List ℕ} → replayed r b' o' ≡ replay_of j b o → r.passed ≤ length j
unfolding replay_of stopped
passed-inside j b o r e = let p = ap (λ (x : ReplayResult). x.passed) e in let l = by_test (is_sound b) in omega arith
  where
    by_test : (sound : Bool) → (cond sound (replay_in (length j) j b o) (stopped 1 b o)).passed ≤ length j
    by_test true = passed_in (length j) j b o
    by_test false = omega arith
