-- The wrong replays of "The promises and the table". Whatever else such a replay does, it differs from `replay_of`; the
-- first and the last do at the input named here, on the empty board with room for three answers.
--     skipping_differs      "a replay that applies the first message and merely skips the rest"
--     miscounting_differs   "one whose message count is not the number of frames passed"
--     stopping_differs      "one that stops with 2 before the first message, whatever room is left"
use Prim.Native.Nat.{ℕ, ◌*◌, ◌<◌}
use native.Mathlib.Omega.{arith}
use mathlib.Core.Path.{◌≡◌, refl, sym, ap, ◌∙◌}
use mathlib.Core.List.{List, [], ◌++◌}
use mathlib.Core.Bool.{true}
use lib.ListN.{length, take, replicate}
use lib.Dec.{lit<}
use lib.Pow.{are_bytes}
use Rattle.reader.specs.Frames.{frame_length}
use Rattle.model.specs.State.{State, empty_state}
use Rattle.model.specs.Board.{encode, decode, empty_board}
use Rattle.model.specs.Soundness.{is_sound}
use Rattle.model.specs.Step.{answer_limit, StepResult, step_state, step_of}
use Rattle.model.specs.Replay.{frames_of, run_of, ReplayResult, replay_of}
use Rattle.model.proofs.BoardTheorems.{decode-encode}
use Rattle.model.proofs.EmptyBoard.{empty-encoded}
use Rattle.model.proofs.SoundnessTheorems.{empty-sound}
use Rattle.model.proofs.Invariant.{empty-valid, step_valid, reached_valid}
use Rattle.model.proofs.StepDefinitions.{step_definitions}
use Rattle.model.proofs.JournalLaws.{last_state}
use Rattle.model.proofs.CaseTable.{login, registration_request}
use Rattle.model.proofs.CaseTheorems.{zeros-long}
use Rattle.model.proofs.StepTheorems.{step_valid-board}
use Rattle.model.proofs.ReplayTheorems.{replay_complete, room_enough, messages-counted}

-- what replays do with a journal, a board and a buffer
abbrev pub ReplayFunction : Type 0
ReplayFunction = List ℕ → List ℕ → List ℕ → ReplayResult

-- 0101, then 0201 by another
unfoldable pub started_asked : List ℕ
started_asked = login 0x0101 7 1 ++ registration_request 8 []

abbrev pub roomy_buffer : List ℕ
roomy_buffer = replicate (answer_limit * 3) 0

started_lengths : (0 < length started_asked) × (length (frames_of started_asked) ≡ 2)
unfolding started_asked step_definitions
started_lengths = (lit< tt, refl)

-- both messages have room
started_room : (replay_of started_asked (encode empty_state) roomy_buffer).stop ≡ 2 → ⊥
started_room = room_enough started_asked empty_state roomy_buffer empty-valid (omega (arith, started_lengths.1, zeros-long (answer_limit * 3)))

-- ---- the first message alone

first_message : List ℕ
first_message = take (frame_length started_asked) started_asked

state_of_first : State
state_of_first = (step_state first_message empty_state).state

state_of_both : State
state_of_both = last_state empty_state (run_of step_state empty_state started_asked)

-- one pending registration is left by both messages, none by the first
started_pending : (length state_of_first.pending ≡ 0) × (length state_of_both.pending ≡ 1)
unfolding first_message state_of_first state_of_both started_asked last_state step_definitions
started_pending = (refl, refl)

-- so the boards differ
first_board : (step_of first_message (encode empty_state) roomy_buffer).board ≡ encode state_of_first
unfolding state_of_first
first_board =
    ap (λ (r : StepResult). r.board)
    (step_valid-board first_message empty_state roomy_buffer empty-valid (omega (arith, zeros-long (answer_limit * 3))))

both-board : (replay_of started_asked (encode empty_state) roomy_buffer).board ≡ encode state_of_both
unfolding state_of_both
both-board = ap (λ (r : ReplayResult). r.board) (replay_complete started_asked empty_state roomy_buffer empty-valid started_room)

boards-differ : encode state_of_first ≡ encode state_of_both → ⊥
unfolding state_of_first state_of_both
boards-differ e =
    let states : state_of_first ≡ state_of_both =
    sym (decode-encode state_of_first (step_valid first_message empty_state empty-valid).fits) ∙ ap decode e
    ∙ decode-encode state_of_both (reached_valid started_asked).fits
    in
    omega (arith, started_pending.0, started_pending.1, ap (λ (s : State). length s.pending) states)

-- ---- the wrong replays

module _ (replay : ReplayFunction) where
  pub skipping_differs : ((j b o : List ℕ) → (replay j b o).board ≡ (step_of (take (frame_length j) j) b o).board)
      → replay started_asked empty_board roomy_buffer ≡ replay_of started_asked empty_board roomy_buffer → ⊥
  unfolding first_message
  skipping_differs skips same =
      boards-differ
      (sym first_board ∙ ap (λ (b : List ℕ). (step_of first_message b roomy_buffer).board) empty-encoded ∙ sym (skips started_asked empty_board roomy_buffer)
      ∙ ap (λ (r : ReplayResult). r.board) same ∙ ap (λ (b : List ℕ). (replay_of started_asked b roomy_buffer).board) (sym empty-encoded) ∙ both-board)

  -- wherever the count is not the number of frames passed
  pub miscounting_differs : (j b o : List ℕ) → are_bytes b ≡ true
      → ((replay j b o).messages ≡ length (frames_of (take (replay j b o).passed j)) → ⊥) → replay j b o ≡ replay_of j b o → ⊥
  miscounting_differs j b o y miscounts same =
      miscounts
      (ap (λ (r : ReplayResult). r.messages) same ∙ messages-counted j b o y
      ∙ ap (λ (r : ReplayResult). length (frames_of (take r.passed j))) (sym same))

  pub stopping_differs : ((j b o : List ℕ) → is_sound b ≡ true → 0 < length j → (replay j b o).stop ≡ 2)
      → replay started_asked empty_board roomy_buffer ≡ replay_of started_asked empty_board roomy_buffer → ⊥
  stopping_differs stops same =
      started_room
      (ap (λ (b : List ℕ). (replay_of started_asked b roomy_buffer).stop) empty-encoded ∙ ap (λ (r : ReplayResult). r.stop) (sym same)
      ∙ stops started_asked empty_board roomy_buffer empty-sound started_lengths.0)
