-- The trace of a replay and the trace of the run:
--     answer-accepted                  an answer of the step states number 0 where it accepts the message
--     trace_events, board-done         wherever a replay stopped, its events are those of the messages it did, and so is its board
--     valid_trace, replay_trace_lem    with room to its end its trace is that of the run: from the board of a valid state, and from the
--                                      empty board
use Prim.Native.Nat.{ℕ, zero, suc, ◌+◌}
use native.Mathlib.Omega.{arith}
use mathlib.Core.Path.{◌≡◌, refl, sym, ap, ap₂, ◌∙◌, subst}
use mathlib.Core.List.{List, [], ◌∷◌, ◌++◌, flatten, zip_with, append_assoc}
use lib.ListN.{length, take, drop}
use lib.Seq.{take_at, drop_at, take_all}
use lib.Dec.{eqb}
use Rattle.layout.specs.Bytes.{patch}
use Rattle.reader.specs.Frames.{length_field, kind_of}
use Rattle.reader.proofs.FrameLaws.{length-frame, frame-kind, frame-stated}
use Rattle.model.specs.State.{State, empty_state}
use Rattle.model.specs.Board.{encode, empty_board}
use Rattle.model.specs.Step.{step_state}
use Rattle.model.specs.Replay.{frames_of, unread, run_frames, run_of, ReplayResult, replay_of}
use Rattle.model.proofs.RuleLaws.{ValidState}
use Rattle.model.proofs.AnswerLaws.{answer_framed, answer-short}
use Rattle.model.proofs.Invariant.{step_valid, empty-valid}
use Rattle.model.proofs.EmptyBoard.{empty-encoded}
use Rattle.model.proofs.BufferLaws.{patch-start}
use Rattle.model.proofs.JournalLaws.{exchange_answers, last_state, length_run, run_take}
use Rattle.model.proofs.ReplayTheorems.{result_after, replay_prefix, replay_complete}
use Rattle.confidentiality.specs.Traces.{Event, run_trace, is_accepted, answers_in, replay_trace}
use Rattle.confidentiality.proofs.Alignment.{events_from}

-- ---- an answer of the step

-- it states the number, which is 0 where the message is accepted
pub answer-accepted : (m : List ℕ) (s : State) → eqb (kind_of (step_state m s).answer) 0 ≡ is_accepted m s
unfolding is_accepted
answer-accepted m s =
    let f = answer_framed m s in
    ap (λ (k : ℕ). eqb k 0) (ap kind_of f.equal ∙ frame-kind (step_state m s).number f.body f.in_range)

-- an answer states its own length, with bytes behind it
answer-field : (m : List ℕ) (s : State) (rest : List ℕ) → ValidState s
    → 2 + length_field ((step_state m s).answer ++ rest) ≡ length (step_state m s).answer
answer-field m s rest valid =
    let f = answer_framed m s in
    let n : ℕ = (step_state m s).number in
    let l : length (step_state m s).answer ≡ 4 + length f.body = ap length f.equal ∙ length-frame n f.body in
    let h = answer-short m s valid in
    let e : length_field ((step_state m s).answer ++ rest) ≡ 2 + length f.body =
    ap (λ (a : List ℕ). length_field (a ++ rest)) f.equal ∙ frame-stated n f.body rest (omega arith)
    in
    omega arith

-- ---- the answers of a run

-- one answer, and what stands behind it
first_cut : (count : ℕ) (a rest : List ℕ) → 2 + length_field (a ++ rest) ≡ length a → answers_in (suc count) (a ++ rest) ≡ a ∷ answers_in count rest
unfolding answers_in
first_cut count a rest e =
    ap₂ (λ (x y : List ℕ). x ∷ answers_in count y)
    (take_at a rest (2 + length_field (a ++ rest)) (sym e)) (drop_at a rest (2 + length_field (a ++ rest)) (sym e))

answers-cut : (s : State) (ms : List (List ℕ)) (rest : List ℕ) → ValidState s
    → answers_in (length ms) (flatten (exchange_answers (run_frames step_state s ms)) ++ rest) ≡ exchange_answers (run_frames step_state s ms)
unfolding run_frames exchange_answers flatten answers_in
answers-cut s [] rest valid = refl
answers-cut s (m ∷ ms) rest valid =
    let a : List ℕ = (step_state m s).answer in
    let later : List ℕ = flatten (exchange_answers (run_frames step_state (step_state m s).state ms)) in
    ap (answers_in (suc (length ms))) (append_assoc a later rest) ∙ first_cut (length ms) a (later ++ rest) (answer-field m s (later ++ rest) valid)
    ∙ ap (λ (more : List (List ℕ)). a ∷ more) (answers-cut (step_state m s).state ms rest (step_valid m s valid))

-- ---- the events of a run

abbrev read_event : List ℕ → List ℕ → Event
read_event m a = record { frame = m; accepted = eqb (kind_of a) 0; answer = a }

-- frames beside the answers to the first k of them
events_paired : (k : ℕ) (s : State) (ms : List (List ℕ))
    → zip_with read_event ms (exchange_answers (run_frames step_state s (take k ms))) ≡ events_from is_accepted step_state s (take k ms)
unfolding run_frames exchange_answers zip_with
events_paired zero s [] = refl
events_paired zero s (m ∷ ms) = refl
events_paired (suc k) s [] = refl
events_paired (suc k) s (m ∷ ms) =
    ap₂ (λ (e : Event) (es : List Event). e ∷ es)
    (λ i. record { frame = m; accepted = answer-accepted m s i; answer = (step_state m s).answer })
    (events_paired k (step_state m s).state ms)

-- ---- the trace of a replay

module _ (j : List ℕ) (s : State) (o : List ℕ) (valid : ValidState s) where
  abbrev result : ReplayResult
  result = replay_of j (encode s) o

  -- wherever it stopped: the messages that it did, the first of the journal
  abbrev done : List (List ℕ)
  done = take result.messages (frames_of j)

  result-done : result ≡ result_after result.stop s o (run_frames step_state s done)
  unfolding run_of
  result-done =
      (replay_prefix j s o valid).equal ∙ ap (result_after result.stop s o) (run_take step_state result.messages s (frames_of j))

  pub trace_events : (replay_trace j (replay_of j (encode s) o)).events
      ≡ events_from is_accepted step_state s (take (replay_of j (encode s) o).messages (frames_of j))
  unfolding replay_trace
  trace_events =
      let answers : List (List ℕ) = exchange_answers (run_frames step_state s done) in
      let cut : answers_in (length (run_frames step_state s done)) (patch o 0 (flatten answers)) ≡ answers =
      ap₂ answers_in (length_run step_state s done) (patch-start o (flatten answers))
      ∙ answers-cut s done (drop (length (flatten answers)) o) valid
      in
      ap (λ (r : ReplayResult). (replay_trace j r).events) result-done ∙ ap (zip_with read_event (frames_of j)) cut
      ∙ events_paired result.messages s (frames_of j)

  pub board-done : (replay_of j (encode s) o).board
      ≡ encode (last_state s (run_frames step_state s (take (replay_of j (encode s) o).messages (frames_of j))))
  board-done = ap (λ (r : ReplayResult). r.board) result-done

  pub valid_trace : ((replay_of j (encode s) o).stop ≡ 2 → ⊥) → replay_trace j (replay_of j (encode s) o) ≡ run_trace is_accepted step_state s j
  unfolding replay_trace run_trace run_of unread
  valid_trace n =
      let complete = replay_complete j s o valid n in
      let all : done ≡ frames_of j =
      ap (λ (r : ReplayResult). take r.messages (frames_of j)) complete ∙ take_all (length (frames_of j)) (frames_of j) (omega arith)
      in
      λ i. record {
        events = (trace_events ∙ ap (events_from is_accepted step_state s) all) i;
        rest = ap (λ (r : ReplayResult). drop r.passed j) complete i;
      }

pub replay_trace_lem : (j o : List ℕ) → ((replay_of j empty_board o).stop ≡ 2 → ⊥)
    → replay_trace j (replay_of j empty_board o) ≡ run_trace is_accepted step_state empty_state j
replay_trace_lem j o =
    subst (λ (b : List ℕ). ((replay_of j b o).stop ≡ 2 → ⊥) → replay_trace j (replay_of j b o) ≡ run_trace is_accepted step_state empty_state j)
    empty-encoded (valid_trace j empty_state o empty-valid)
