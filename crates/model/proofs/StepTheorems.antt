-- Theorems about the step:
--     step_valid-board     on the encoding of a valid state it is the step on that state, with board and buffer around it
--     unsound_refused, short-refused   1 and 2 write nothing and change nothing
--     refused-board        a refusal leaves the board as it was
--     refused-written      from 3 on it writes the head of a frame
--     step_sound           a step on a sound board leaves a sound board
--     step_lengths         what it writes, and that board and buffer keep their lengths
--     step_decides         a frame on a sound board, with room for the answer, gets none of 1, 2 and 3
use Prim.Native.Nat.{ℕ, ◌≤◌, ◌<◌, zero-le}
use native.Mathlib.Omega.{arith}
use mathlib.Core.Path.{◌≡◌, refl, sym, ap, subst, ◌∙◌}
use mathlib.Core.List.{List, []}
use mathlib.Core.Bool.{true, false, cond, ◌||◌}
use mathlib.Core.Option.{Option, some, none}
use lib.ListN.{length}
use lib.Dec.{eqb, ltb, lit≤}
use lib.Pow.{are_bytes}
use borrow.Author.Tests.{lt-ltb, le-ltb, ne_eqb, ltb-true, ltb-false}
use borrow.Table.Steps.{cases}
use Rattle.layout.specs.Bytes.{patch}
use Rattle.layout.proofs.ByteLaws.{length-patch}
use Rattle.layout.proofs.BooleanLaws.{cond_same}
use Rattle.reader.specs.Frames.{is_frame}
use Rattle.reader.proofs.FrameLaws.{length-frame}
use Rattle.model.specs.State.{State}
use Rattle.model.specs.Board.{encode, decode}
use Rattle.model.specs.Soundness.{is_sound}
use Rattle.model.specs.Actions.{Cause, malformed}
use Rattle.model.specs.Actions.{Action, change, query, refused, action_of}
use Rattle.model.specs.Refusals.{cause_number, change_refusals, query_refusals, first_cause}
use Rattle.model.specs.Changes.{apply_change}
use Rattle.model.specs.Answers.{answer_body}
use Rattle.model.specs.Step.{answer_limit, Response, respond, step_action, step_state, StepResult, unanswered, argument_refusals, write_answer, step_with, step_of}
use Rattle.model.proofs.BoardTheorems.{fits-state, length-encode, decode-encode}
use Rattle.model.proofs.SoundnessTheorems.{sound-encode, sound-state}
use Rattle.model.proofs.RefusalTheorems.{frame_number}
use Rattle.model.proofs.RuleLaws.{ValidState}
use Rattle.model.proofs.Invariant.{step_valid}
use Rattle.model.proofs.AnswerLaws.{answer-short}

-- ---- the refusals of the board and of the buffer

pub unsound_refused : (msg b o : List ℕ) → is_sound b ≡ false → step_of msg b o ≡ unanswered 1 b o
unfolding step_of argument_refusals first_cause step_with cause_number
unsound_refused msg b o e = rw e refl

pub short-refused : (msg b o : List ℕ) → is_sound b ≡ true → length o < answer_limit
    → step_of msg b o ≡ unanswered 2 b o
unfolding step_of argument_refusals first_cause step_with cause_number
short-refused msg b o e h = rw e (rw (lt-ltb (length o) answer_limit h) refl)

-- with neither, the message decides
pub arguments_accepted : (msg b o : List ℕ) → is_sound b ≡ true → answer_limit ≤ length o → step_of msg b o ≡ write_answer (step_state msg (decode b)) b o
unfolding step_of argument_refusals first_cause step_with
arguments_accepted msg b o e h = rw e (rw (le-ltb (length o) answer_limit h) refl)

-- ---- a refusal leaves the board as it was

-- on states: a response with another number than 0 leaves the state
module _ (s next : State) (body : List ℕ) where
  respond-refused : (c : Option Cause) → ((respond c s next body).number ≡ 0 → ⊥) → (respond c s next body).state ≡ s
  unfolding respond
  respond-refused none h = absurd (h refl)
  respond-refused (some cause) h = refl

  -- so the board afterwards is the encoding of the state afterwards, whether refused or not
  respond-board : (c : Option Cause) → cond (eqb (respond c s next body).number 0) (encode (respond c s next body).state) (encode s)
      ≡ encode (respond c s next body).state
  unfolding respond
  respond-board none = refl
  respond-board (some cause) = cond_same (eqb (cause_number cause) 0) (encode s)

pub refused-state : (s : State) (a : Action) → ((step_action s a).number ≡ 0 → ⊥) → (step_action s a).state ≡ s
unfolding step_action
refused-state s (change c) h = respond-refused s (apply_change s c) [] (first_cause (change_refusals s c)) h
refused-state s (query q) h = respond-refused s s (answer_body s q) (first_cause (query_refusals s q)) h
refused-state s (refused refusal) h = respond-refused s s [] (some (malformed refusal)) h

action-board : (s : State) (a : Action)
    → cond (eqb (step_action s a).number 0) (encode (step_action s a).state) (encode s) ≡ encode (step_action s a).state
unfolding step_action
action-board s (change c) = respond-board s (apply_change s c) [] (first_cause (change_refusals s c))
action-board s (query q) = respond-board s s (answer_body s q) (first_cause (query_refusals s q))
action-board s (refused refusal) = respond-board s s [] (some (malformed refusal))

-- on bytes, whatever they are
pub refused-board : (msg b o : List ℕ) → ((step_of msg b o).number ≡ 0 → ⊥) → (step_of msg b o).board ≡ b
unfolding step_of
refused-board msg b o = by_cause (first_cause (argument_refusals b o))
  where
    by_cause : (c : Option Cause) → ((step_with c msg b o).number ≡ 0 → ⊥) → (step_with c msg b o).board ≡ b
    by_cause none h = unfold step_with write_answer in rw (ne_eqb (step_state msg (decode b)).number 0 h) refl
    by_cause (some cause) h = unfold step_with in refl

-- ---- a refusal from 3 on writes four bytes

respond-written : (c : Option Cause) (s next : State) (body : List ℕ) → ((respond c s next body).number ≡ 0 → ⊥) → length (respond c s next body).answer ≡ 4
unfolding respond
respond-written none s next body h = absurd (h refl)
respond-written (some cause) s next body h = length-frame (cause_number cause) []

action-written : (s : State) (a : Action) → ((step_action s a).number ≡ 0 → ⊥) → length (step_action s a).answer ≡ 4
unfolding step_action
action-written s (change c) h = respond-written (first_cause (change_refusals s c)) s (apply_change s c) [] h
action-written s (query q) h = respond-written (first_cause (query_refusals s q)) s s (answer_body s q) h
action-written s (refused refusal) h = respond-written (some (malformed refusal)) s s [] h

pub refused-written : (msg b o : List ℕ) → is_sound b ≡ true → answer_limit ≤ length o → ((step_of msg b o).number ≡ 0 → ⊥) → (step_of msg b o).written ≡ 4
unfolding write_answer step_state
refused-written msg b o e h n =
    let r = arguments_accepted msg b o e h in
    ap (λ (x : StepResult). x.written) r ∙ action-written (decode b) (action_of msg) (λ z. n (ap (λ (x : StepResult). x.number) r ∙ z))

-- ---- the step on the board of a valid state

-- a response as a result: the state encoded, and the answer written into a buffer
abbrev pub encoded_result : Response State → List ℕ → StepResult
encoded_result r o = record { number = r.number; written = length r.answer; board = encode r.state; buffer = patch o 0 r.answer }

pub step_valid-board : (msg : List ℕ) (s : State) (o : List ℕ) → ValidState s → answer_limit ≤ length o
    → step_of msg (encode s) o ≡ encoded_result (step_state msg s) o
unfolding step_state write_answer
step_valid-board msg s o valid h =
    let r : Response State = step_state msg s in
    arguments_accepted msg (encode s) o (sound-encode s (fits-state s valid.fits) valid.keeps) h
    ∙ ap (λ (t : State). write_answer (step_state msg t) (encode s) o) (decode-encode s valid.fits)
    ∙ (λ i. record { number = r.number; written = length r.answer; board = action-board s (action_of msg) i; buffer = patch o 0 r.answer })

-- ---- the step on a sound board

-- a sound board is that of a valid state
pub valid-board : (b : List ℕ) → are_bytes b ≡ true → is_sound b ≡ true → ValidState (decode b)
valid-board b y e = let t = sound-state b y e in record { fits = t.encoded.fits; keeps = t.keeps }

pub sound-valid : (s : State) → ValidState s → is_sound (encode s) ≡ true
sound-valid s valid = sound-encode s (fits-state s valid.fits) valid.keeps

module _ (msg b o : List ℕ) (y : are_bytes b ≡ true) where
  step_sound-board : is_sound b ≡ true → answer_limit ≤ length o → step_of msg b o ≡ encoded_result (step_state msg (decode b)) o
  step_sound-board e h =
      ap (λ (x : List ℕ). step_of msg x o) (sound-state b y e).encoded.bytes ∙ step_valid-board msg (decode b) o (valid-board b y e) h

  pub step_sound : is_sound b ≡ true → is_sound (step_of msg b o).board ≡ true
  step_sound e =
      cases (ltb (length o) answer_limit)
      (λ l. ap (λ (r : StepResult). is_sound r.board) (short-refused msg b o e (ltb-true (length o) answer_limit l)) ∙ e)
      (λ l. ap (λ (r : StepResult). is_sound r.board) (step_sound-board e (ltb-false (length o) answer_limit l))
      ∙ sound-valid (step_state msg (decode b)).state (step_valid msg (decode b) (valid-board b y e)))

  -- on any board and buffer
  pub record StepLengths (r : StepResult) : Type 0 where
    pub short : r.written ≤ answer_limit
    pub inside : r.written ≤ length o
    pub board : length r.board ≡ length b
    pub buffer : length r.buffer ≡ length o

  nothing_written : (number : ℕ) → StepLengths (unanswered number b o)
  nothing_written number = record { short = lit≤ tt; inside = zero-le; board = refl; buffer = refl }

  pub step_lengths : StepLengths (step_of msg b o)
  step_lengths =
      cases (is_sound b)
      (λ e. cases (ltb (length o) answer_limit)
      (λ l. subst StepLengths (sym (short-refused msg b o e (ltb-true (length o) answer_limit l))) (nothing_written 2))
      (λ l.
      let h = ltb-false (length o) answer_limit l in
      let s : State = decode b in
      let valid = valid-board b y e in
      let r : Response State = step_state msg s in
      let a = answer-short msg s valid in
      subst StepLengths (sym (step_sound-board e h)) (record {
        short = a;
        inside = omega arith;
        board = length-encode r.state (step_valid msg s valid).fits ∙ sym (length-encode s valid.fits)
            ∙ ap length (sym (sound-state b y e).encoded.bytes);
        buffer = length-patch o 0 r.answer (omega arith);
      })))
      (λ e. subst StepLengths (sym (unsound_refused msg b o e)) (nothing_written 1))

  pub step_decides : is_sound b ≡ true → answer_limit ≤ length o → is_frame msg ≡ true
      → (ltb 3 (step_of msg b o).number || eqb (step_of msg b o).number 0) ≡ true
  step_decides e h f =
      ap (λ (r : StepResult). ltb 3 r.number || eqb r.number 0) (step_sound-board e h) ∙ frame_number msg (decode b) f
