-- Wrong kernels of "The promises and the table", which get past demand 3. Whatever else such a step does, it differs from `step_of` at the
-- input named here: a message on the empty board, with a buffer of zeros.
--     refusing_differs     "a kernel that says 7 to everybody"
--     accepting_differs    "one that sends the empty acceptance to everybody"
--     unchanging_differs   "one that never touches the board"
use Prim.Native.Nat.{ℕ, ◌≤◌}
use native.Mathlib.Omega.{arith}
use mathlib.Core.Path.{◌≡◌, refl, sym, ap, ◌∙◌}
use mathlib.Core.List.{List, []}
use mathlib.Core.Bool.{true}
use lib.ListN.{length, get_or}
use Rattle.reader.specs.Frames.{frame_bytes}
use Rattle.model.specs.State.{State, empty_state}
use Rattle.model.specs.Board.{encode, decode, empty_board}
use Rattle.model.specs.Soundness.{is_sound}
use Rattle.model.specs.Step.{answer_limit, Response, StepResult, step_state, step_of}
use Rattle.model.proofs.BoardTheorems.{decode-encode}
use Rattle.model.proofs.EmptyBoard.{empty-encoded}
use Rattle.model.proofs.SoundnessTheorems.{empty-sound}
use Rattle.model.proofs.Invariant.{empty-valid, step_valid}
use Rattle.model.proofs.StepTheorems.{encoded_result, step_valid-board}
use Rattle.model.proofs.StepDefinitions.{step_definitions}
use Rattle.model.proofs.CaseTable.{login}
use Rattle.model.proofs.CaseTheorems.{zero_buffer, zeros-long, response_of, board_step, board_step_lem}

-- what kernels do with a message, a board and a buffer
abbrev pub StepFunction : Type 0
StepFunction = List ℕ → List ℕ → List ℕ → StepResult

step_empty : (msg : List ℕ) → step_of msg empty_board zero_buffer ≡ encoded_result (step_state msg empty_state) zero_buffer
step_empty msg =
    ap (λ (b : List ℕ). step_of msg b zero_buffer) (sym empty-encoded) ∙ step_valid-board msg empty_state zero_buffer empty-valid (zeros-long answer_limit)

answer-empty : (msg : List ℕ) → (response_of (step_of msg empty_board zero_buffer)).answer ≡ (step_state msg empty_state).answer
unfolding board_step
answer-empty msg =
    ap (λ (b : List ℕ). (response_of (step_of msg b zero_buffer)).answer) (sym empty-encoded)
    ∙ ap (λ (r : Response (List ℕ)). r.answer) (board_step_lem msg empty_state empty-valid)

-- 0101 gets 0, and leaves a user on the board
abbrev pub starting : List ℕ
starting = login 0x0101 7 1

starting_number : (step_state starting empty_state).number ≡ 0
unfolding step_definitions
starting_number = refl

starting-users : (length empty_state.users ≡ 0) × (length (step_state starting empty_state).state.users ≡ 1)
unfolding step_definitions
starting-users = (refl, refl)

-- 0602 by somebody who is not registered gets the frame of 7
abbrev pub listing_users : List ℕ
listing_users = login 0x0602 7 1

listing-kind : get_or (step_state listing_users empty_state).answer 2 0 ≡ 7
unfolding step_definitions
listing-kind = refl

accepting_kind : get_or (frame_bytes 0 []) 2 0 ≡ 0
unfolding step_definitions
accepting_kind = refl

module _ (step : StepFunction) where
  pub refusing_differs : ((msg b o : List ℕ) → is_sound b ≡ true → answer_limit ≤ length o → (step msg b o).number ≡ 7)
      → step starting empty_board zero_buffer ≡ step_of starting empty_board zero_buffer → ⊥
  refusing_differs sevens same =
      let seven : (step starting empty_board zero_buffer).number ≡ 7 = sevens starting empty_board zero_buffer empty-sound (zeros-long answer_limit) in
      let number = ap (λ (r : StepResult). r.number) (same ∙ step_empty starting) in
      omega (arith, seven, starting_number, number)

  pub accepting_differs : ((msg b o : List ℕ) → is_sound b ≡ true → answer_limit ≤ length o → (response_of (step msg b o)).answer ≡ frame_bytes 0 [])
      → step listing_users empty_board zero_buffer ≡ step_of listing_users empty_board zero_buffer → ⊥
  accepting_differs accepts same =
      let frames : frame_bytes 0 [] ≡ (step_state listing_users empty_state).answer =
      sym (accepts listing_users empty_board zero_buffer empty-sound (zeros-long answer_limit)) ∙ ap (λ (r : StepResult). (response_of r).answer) same
      ∙ answer-empty listing_users
      in
      omega (arith, accepting_kind, listing-kind, ap (λ (f : List ℕ). get_or f 2 0) frames)

  pub unchanging_differs : ((msg b o : List ℕ) → (step msg b o).board ≡ b)
      → step starting empty_board zero_buffer ≡ step_of starting empty_board zero_buffer → ⊥
  unchanging_differs keeps same =
      let next : State = (step_state starting empty_state).state in
      let boards : encode empty_state ≡ encode next =
      empty-encoded ∙ sym (keeps starting empty_board zero_buffer) ∙ ap (λ (r : StepResult). r.board) (same ∙ step_empty starting)
      in
      let states : empty_state ≡ next =
      sym (decode-encode empty_state empty-valid.fits) ∙ ap decode boards ∙ decode-encode next (step_valid starting empty_state empty-valid).fits
      in
      omega (arith, ap (λ (s : State). length s.users) states, starting-users.0, starting-users.1)
