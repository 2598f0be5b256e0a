-- Demand 3, and what a result with room to its end is:
--     unwound, confidential  of any step with an unwinding, and of the model's: any set, any post, any two journals
--     equally_many_windows   both journals have equally many closed windows, and openings follow the same ones
--     replay_confidential, replay_windows   both of the replay
--     results_confidential   of two results, as a caller has them
--     empty-room             518 bytes for each message and 518 more are room to the end
--     buffer-answers         the bytes written are the answers of the trace, one behind the other
use Prim.Native.Nat.{ℕ, ◌+◌, ◌*◌, ◌≤◌}
use mathlib.Core.Path.{◌≡◌, refl, sym, ap, ◌∙◌, subst}
use mathlib.Core.List.{List, [], map, flatten, map-map}
use mathlib.Core.Bool.{Bool}
use lib.ListN.{length, take}
use Rattle.model.specs.State.{State, empty_state}
use Rattle.model.specs.Board.{encode, empty_board}
use Rattle.model.specs.Step.{answer_limit, Response, step_state}
use Rattle.model.specs.Replay.{frames_of, run_of, ReplayResult, replay_of}
use Rattle.model.proofs.RuleLaws.{ValidState}
use Rattle.model.proofs.Invariant.{empty-valid}
use Rattle.model.proofs.EmptyBoard.{empty-encoded}
use Rattle.model.proofs.BufferLaws.{take-start}
use Rattle.model.proofs.JournalLaws.{exchange_answers}
use Rattle.model.proofs.ReplayTheorems.{replay_complete, room_enough}
use Rattle.confidentiality.specs.Traces.{Event, Trace, event_of, run_trace, is_accepted, replay_trace}
use Rattle.confidentiality.specs.History.{closed_to, is_text_update}
use Rattle.confidentiality.specs.Windows.{Window, windows}
use Rattle.confidentiality.specs.Purging.{mark, DifferOnly}
use Rattle.confidentiality.specs.Confidentiality.{SameLastText, Noninterference, Confidential, ReplayConfidential}
use Rattle.confidentiality.proofs.ReplayTraces.{valid_trace, replay_trace_lem}
use Rattle.confidentiality.proofs.Unwinding.{Unwinding, compared_while_open, nothing_compared, unwinding, same-windows}
use Rattle.confidentiality.proofs.TextUnwinding.{no_frame, text_unwinding, low-kept}

-- ---- of the step

-- any step that meets the conditions of the unwinding theorem for the texts of posts
pub unwound : {S : Type 0} (accepts : List ℕ → S → Bool) (step : List ℕ → S → Response S) (initial : S)
    → ((observers : ℕ → Bool) (n : ℕ) → Unwinding accepts step initial observers (closed_to observers n) (is_text_update n) SameLastText no_frame)
    → Confidential accepts step initial
unfolding Confidential Noninterference
unwound accepts step initial u observers n j₁ j₂ marks₁ marks₂ d agree =
    unwinding accepts step initial observers (closed_to observers n) (is_text_update n) SameLastText no_frame (u observers n) j₁ j₂ marks₁ marks₂ d agree
    (none_compared j₁ ∙ sym (none_compared j₂))
  where
    none_compared : (j : List ℕ) → compared_while_open (closed_to observers n) no_frame [] (run_trace accepts step initial j).events ≡ []
    none_compared j = nothing_compared (closed_to observers n) no_frame (λ m. refl) [] (run_trace accepts step initial j).events

pub confidential : Confidential is_accepted step_state empty_state
confidential = unwound is_accepted step_state empty_state text_unwinding

-- whether an opening follows, of each closed window of a trace
abbrev pub openings : (ℕ → Bool) → ℕ → List Bool → Trace → List Bool
openings observers n marks t =
    map (λ (w : Window). w.opens) (windows (closed_to observers n) (is_text_update n) [] [] (mark marks t.events))

-- "both journals have equally many shut stretches", and openings follow the same ones
pub equally_many_windows : (observers : ℕ → Bool) (n : ℕ) (j₁ j₂ : List ℕ) (marks₁ marks₂ : List Bool)
    → let t₁ : Trace = run_trace is_accepted step_state empty_state j₁ in
    let t₂ : Trace = run_trace is_accepted step_state empty_state j₂ in
    DifferOnly (closed_to observers n) (is_text_update n) t₁ t₂ marks₁ marks₂ → openings observers n marks₁ t₁ ≡ openings observers n marks₂ t₂
equally_many_windows observers n j₁ j₂ marks₁ marks₂ d =
    same-windows is_accepted step_state empty_state observers (closed_to observers n) (is_text_update n) SameLastText no_frame
    (text_unwinding observers n) j₁ j₂ marks₁ marks₂ d (low-kept observers n)

-- ---- of the replay

-- the traces of the two replays are the traces of the two runs
pub replay_confidential : ReplayConfidential
unfolding ReplayConfidential Confidential
replay_confidential observers n j₁ j₂ o₁ o₂ room₁ room₂ =
    subst (λ (t : Trace). Noninterference observers n t (replay_trace j₂ (replay_of j₂ empty_board o₂))) (sym (replay_trace_lem j₁ o₁ room₁))
    (subst (Noninterference observers n (run_trace is_accepted step_state empty_state j₁)) (sym (replay_trace_lem j₂ o₂ room₂))
    (confidential observers n j₁ j₂))

pub replay_windows : (observers : ℕ → Bool) (n : ℕ) (j₁ j₂ o₁ o₂ : List ℕ) (marks₁ marks₂ : List Bool)
    → ((replay_of j₁ empty_board o₁).stop ≡ 2 → ⊥) → ((replay_of j₂ empty_board o₂).stop ≡ 2 → ⊥)
    → let t₁ : Trace = replay_trace j₁ (replay_of j₁ empty_board o₁) in
    let t₂ : Trace = replay_trace j₂ (replay_of j₂ empty_board o₂) in
    DifferOnly (closed_to observers n) (is_text_update n) t₁ t₂ marks₁ marks₂ → openings observers n marks₁ t₁ ≡ openings observers n marks₂ t₂
replay_windows observers n j₁ j₂ o₁ o₂ marks₁ marks₂ room₁ room₂ =
    rw (replay_trace_lem j₁ o₁ room₁, replay_trace_lem j₂ o₂ room₂) (equally_many_windows observers n j₁ j₂ marks₁ marks₂)

-- two results as a caller has them, each of which meets the contract of the replay
pub results_confidential : (observers : ℕ → Bool) (n : ℕ) (j₁ j₂ o₁ o₂ : List ℕ) (r₁ r₂ : ReplayResult)
    → r₁ ≡ replay_of j₁ empty_board o₁ → r₂ ≡ replay_of j₂ empty_board o₂ → (r₁.stop ≡ 2 → ⊥) → (r₂.stop ≡ 2 → ⊥)
    → Noninterference observers n (replay_trace j₁ r₁) (replay_trace j₂ r₂)
unfolding ReplayConfidential
results_confidential observers n j₁ j₂ o₁ o₂ r₁ r₂ e₁ e₂ room₁ room₂ =
    let stop : ReplayResult → ℕ = λ r. r.stop in
    subst (λ (r : ReplayResult). Noninterference observers n (replay_trace j₁ r) (replay_trace j₂ r₂)) (sym e₁)
    (subst (λ (r : ReplayResult). Noninterference observers n (replay_trace j₁ (replay_of j₁ empty_board o₁)) (replay_trace j₂ r)) (sym e₂)
    (replay_confidential observers n j₁ j₂ o₁ o₂ (λ e. room₁ (ap stop e₁ ∙ e)) (λ e. room₂ (ap stop e₂ ∙ e))))

-- ---- room and answers

-- enough for any journal of so many frames
pub empty-room : (j o : List ℕ) → answer_limit * (1 + length (frames_of j)) ≤ length o → (replay_of j empty_board o).stop ≡ 2 → ⊥
empty-room j o h =
    subst (λ (b : List ℕ). (replay_of j b o).stop ≡ 2 → ⊥) empty-encoded (room_enough j empty_state o empty-valid h)

abbrev answers_of : Trace → List ℕ
answers_of t = flatten (map (λ (e : Event). e.answer) t.events)

module _ (j o : List ℕ) where
  written-answers : (s : State) → ValidState s → let r : ReplayResult = replay_of j (encode s) o in
      (r.stop ≡ 2 → ⊥) → take r.written r.buffer ≡ answers_of (replay_trace j r)
  unfolding run_trace exchange_answers
  written-answers s valid room =
      ap (λ (r : ReplayResult). take r.written r.buffer) (replay_complete j s o valid room)
      ∙ take-start o (flatten (exchange_answers (run_of step_state s j)))
      ∙ sym (ap answers_of (valid_trace j s o valid room)
      ∙ ap flatten (map-map (λ (e : Event). e.answer) (event_of is_accepted step_state) (run_of step_state s j)))

  pub buffer-answers : let r : ReplayResult = replay_of j empty_board o in
      (r.stop ≡ 2 → ⊥) → take r.written r.buffer ≡ flatten (map (λ (e : Event). e.answer) (replay_trace j r).events)
  buffer-answers =
      subst (λ (b : List ℕ). let r : ReplayResult = replay_of j b o in
      (r.stop ≡ 2 → ⊥) → take r.written r.buffer ≡ answers_of (replay_trace j r)) empty-encoded (written-answers empty_state empty-valid)
