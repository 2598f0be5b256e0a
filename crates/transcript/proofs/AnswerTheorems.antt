-- The lines of a replay's answers, and the run of its journal:
--     lines_resumed    behind them come the lines of the rest of the journal, from the board that was left
--     lines_complete   they are all, where the replay did not stop for want of room
use Prim.Native.Nat.{ℕ, suc, ◌<◌, ◌≤◌}
use native.Mathlib.Omega.{arith}
use mathlib.Core.Path.{◌≡◌, refl, sym, ap, ap₂, ◌∙◌, subst}
use mathlib.Core.List.{List, [], ◌∷◌, ◌++◌, map, flatten, append_assoc}
use mathlib.Core.Bool.{true}
use lib.ListN.{length, take, drop}
use lib.Seq.{take_at, drop_at, take_all}
use lib.Pow.{are_bytes}
use borrow.Author.Tests.{ne_eqb}
use Rattle.reader.specs.Frames.{frame_bytes}
use Rattle.reader.proofs.FrameLaws.{length-frame}
use Rattle.model.specs.State.{State}
use Rattle.model.specs.Board.{encode, decode}
use Rattle.model.specs.Soundness.{is_sound}
use Rattle.model.specs.Step.{Response, step_state}
use Rattle.model.specs.Replay.{frames_of, Exchange, run_frames, run_of, ReplayResult, replay_of}
use Rattle.model.proofs.RuleLaws.{ValidState}
use Rattle.model.proofs.Invariant.{step_valid}
use Rattle.model.proofs.AnswerLaws.{answer_framed, answer-short}
use Rattle.model.proofs.SoundnessTheorems.{sound-state}
use Rattle.model.proofs.StepTheorems.{valid-board}
use Rattle.model.proofs.JournalLaws.{exchange_answers}
use Rattle.model.proofs.ReplayTheorems.{StopReason, no_room, at_end, replay_prefix}
use Rattle.report.specs.MessageLines.{answer_length}
use Rattle.report.proofs.RunLines.{answer-length}
use Rattle.report.proofs.ReplayText.{lines_split, run-done, frames-done, answers-done, run-resumed}
use Rattle.transcript.specs.AnswerLines.{answer_line, answers_text, answer_lines_in}

-- the line of an exchange
abbrev line : Exchange State → List ℕ
line x = answer_line x.response.answer

-- an answer in front of others
lines_more : (count number : ℕ) (body a : List ℕ) → number < 65536 → length body ≤ 514
    → answer_lines_in (suc count) (frame_bytes number body ++ a) ≡ answer_line (frame_bytes number body) ++ answer_lines_in count a
unfolding answer_lines_in
lines_more count number body a n l =
    let x : List ℕ = frame_bytes number body in
    let size = answer-length number body a n l in
    let k = length-frame number body in
    rw (ne_eqb (answer_length (x ++ a)) 0 (λ z. omega arith))
    (ap₂ (λ (y z : List ℕ). answer_line y ++ answer_lines_in count z)
    (take_at x a (answer_length (x ++ a)) (k ∙ sym size))
    (drop_at x a (answer_length (x ++ a)) (k ∙ sym size)))

-- the answers of a run, one behind the other
lines_run : (s : State) (ms : List (List ℕ)) (a : List ℕ) → ValidState s
    → answer_lines_in (length ms) (flatten (exchange_answers (run_frames step_state s ms)) ++ a) ≡ flatten (map line (run_frames step_state s ms))
unfolding run_frames exchange_answers flatten answer_lines_in
lines_run s [] a valid = refl
lines_run s (m ∷ ms) a valid =
    let r : Response State = step_state m s in
    let framed = answer_framed m s in
    let body : List ℕ = framed.body in
    let later : List ℕ = flatten (exchange_answers (run_frames step_state r.state ms)) in
    let short = answer-short m s valid in
    let k = ap length framed.equal ∙ length-frame r.number body in
    ap (answer_lines_in (suc (length ms))) (append_assoc r.answer later a ∙ ap (λ (x : List ℕ). x ++ (later ++ a)) framed.equal)
    ∙ lines_more (length ms) r.number body (later ++ a) framed.in_range (omega arith)
    ∙ ap₂ (λ (x y : List ℕ). answer_line x ++ y) (sym framed.equal) (lines_run r.state ms a (step_valid m s valid))

module _ (j o : List ℕ) where
  module _ (s : State) (valid : ValidState s) where
    abbrev r : ReplayResult
    r = replay_of j (encode s) o

    abbrev xs : List (Exchange State)
    xs = run_of step_state s j

    lines_done : answer_lines_in r.messages r.buffer ≡ flatten (map line (take r.messages xs))
    lines_done =
        let ms : List (List ℕ) = take r.messages (frames_of j) in
        ap₂ answer_lines_in (sym (frames-done j o s valid)) (answers-done j o s valid)
        ∙ lines_run s ms _ valid
        ∙ sym (ap (λ (ys : List (Exchange State)). flatten (map line ys)) (run-done j o s valid))

    resumed : answer_lines_in r.messages r.buffer ++ answers_text (decode r.board) (drop r.passed j) ≡ answers_text s j
    unfolding answers_text
    resumed =
        ap₂ (λ (x : List ℕ) (ys : List (Exchange State)). x ++ flatten (map line ys)) lines_done (run-resumed j o s valid)
        ∙ lines_split line r.messages xs

    complete : (r.stop ≡ 2 → ⊥) → answer_lines_in r.messages r.buffer ≡ answers_text s j
    unfolding answers_text
    complete room = by_reason (replay_prefix j s o valid).reason
      where
        by_reason : StopReason j o xs r → answer_lines_in r.messages r.buffer ≡ flatten (map line xs)
        by_reason (no_room e l p) = absurd (room e)
        by_reason (at_end e w) = lines_done ∙ ap (λ (ys : List (Exchange State)). flatten (map line ys)) (take_all r.messages xs (omega arith))

  -- from any sound board
  module _ (b : List ℕ) (y : are_bytes b ≡ true) (e : is_sound b ≡ true) where
    pub lines_resumed : let r : ReplayResult = replay_of j b o in
        answer_lines_in r.messages r.buffer ++ answers_text (decode r.board) (drop r.passed j) ≡ answers_text (decode b) j
    lines_resumed =
        subst (λ (x : List ℕ). let r : ReplayResult = replay_of j x o in
        answer_lines_in r.messages r.buffer ++ answers_text (decode r.board) (drop r.passed j) ≡ answers_text (decode b) j)
        (sym (sound-state b y e).encoded.bytes) (resumed (decode b) (valid-board b y e))

    pub lines_complete : let r : ReplayResult = replay_of j b o in
        (r.stop ≡ 2 → ⊥) → answer_lines_in r.messages r.buffer ≡ answers_text (decode b) j
    lines_complete =
        subst (λ (x : List ℕ). let r : ReplayResult = replay_of j x o in
        (r.stop ≡ 2 → ⊥) → answer_lines_in r.messages r.buffer ≡ answers_text (decode b) j)
        (sym (sound-state b y e).encoded.bytes) (complete (decode b) (valid-board b y e))
