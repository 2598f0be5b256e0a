-- The text of a journal by a replay of it: the lines of the messages done, and what the stop says of the rest.
use Prim.Native.Nat.{ℕ, ◌+◌, ◌-◌, ◌*◌, ◌≤◌, ◌<◌}
use native.Mathlib.Omega.{arith}
use mathlib.Core.Path.{◌≡◌, refl, sym, ap, ap₂, ◌∙◌, subst}
use mathlib.Core.Logic.{◌⊎◌, inl, inr}
use mathlib.Core.List.{List, [], ◌∷◌, ◌++◌, map, flatten, map-append, append_assoc, append-nil}
use mathlib.Core.Bool.{Bool, true, false, cond}
use lib.ListN.{length, take, drop, length-append, length-drop, take-append-drop}
use lib.Seq.{length-take-le, take_all}
use lib.Dec.{eqb}
use lib.Pow.{are_bytes}
use borrow.Author.Tests.{eqb-true, eqb-false}
use borrow.Table.Steps.{cases}
use Rattle.layout.proofs.ConcatenationLaws.{flatten_append}
use Rattle.reader.specs.Frames.{is_frame, kind_of, body_of}
use Rattle.model.specs.Lists.{for_all}
use Rattle.model.specs.State.{State}
use Rattle.model.specs.Board.{encode, decode}
use Rattle.model.specs.Soundness.{is_sound}
use Rattle.model.specs.Step.{answer_limit, step_state}
use Rattle.model.specs.Replay.{frames_of, unread, Exchange, run_frames, run_of, ReplayResult, replay_of}
use Rattle.model.proofs.ListLaws.{all_take}
use Rattle.model.proofs.RuleLaws.{ValidState}
use Rattle.model.proofs.BoardTheorems.{decode-encode}
use Rattle.model.proofs.SoundnessTheorems.{sound-state}
use Rattle.model.proofs.StepTheorems.{valid-board}
use Rattle.model.proofs.BufferLaws.{patch-start}
use Rattle.model.proofs.JournalLaws.{all_frames, frames-size, frames-unread, length-frames, exchange_frames, exchange_answers, last_state, length_run, frames-run, run_take}
use Rattle.model.proofs.ReplayTheorems.{stop_at_end, StopReason, no_room, at_end, valid_after, replay_prefix, replay_stops, replay_sound, replay_resumed, unread-resumed}
use Rattle.report.specs.Report.{exchange_line, cut_line, run_text}
use Rattle.report.specs.MessageLines.{lines_in}
use Rattle.report.proofs.LineLaws.{length-decimal}
use Rattle.report.proofs.MessageLineLaws.{line-short}
use Rattle.report.proofs.RunLines.{lines_run}

-- a replay that has done all messages stops with 0 or 3, by whether bytes are left over
by_rest : (j : List ℕ) {why : ℕ} {C : Type 0} → why ≡ stop_at_end j → (eqb (length (unread j)) 0 ≡ true → why ≡ 0 → C)
    → (eqb (length (unread j)) 0 ≡ false → why ≡ 3 → C) → C
by_rest j e used cut =
    cases (eqb (length (unread j)) 0) (λ q. used q (e ∙ ap (λ (t : Bool). cond t 0 3) q)) (λ q. cut q (e ∙ ap (λ (t : Bool). cond t 0 3) q))

-- the lines of the first exchanges and those of the others, whatever the line of an exchange is
pub lines_split : (line : Exchange State → List ℕ) (k : ℕ) (xs : List (Exchange State))
    → flatten (map line (take k xs)) ++ flatten (map line (drop k xs)) ≡ flatten (map line xs)
lines_split line k xs =
    sym (flatten_append (map line (take k xs)) (map line (drop k xs)))
    ∙ ap flatten (sym (map-append line (take k xs) (drop k xs)) ∙ ap (map line) (take-append-drop k xs))

-- what r says of the text of the journal j, which begins at a place, from the state s
pub record TextOf (s : State) (place : ℕ) (j o : List ℕ) (r : ReplayResult) : Type 0 where
  pub few : 4 * r.messages ≤ r.passed
  pub inside : r.passed ≤ length j
  pub used : r.stop ≡ 0 → lines_in r.messages j r.buffer ≡ run_text s place j
  pub cut : r.stop ≡ 3 → lines_in r.messages j r.buffer ++ cut_line (place + r.passed) ≡ run_text s place j
  pub resumed : lines_in r.messages j r.buffer ++ run_text (decode r.board) (place + r.passed) (drop r.passed j) ≡ run_text s place j
  pub falls : r.stop ≡ 2 → answer_limit ≤ length o → 0 < r.passed
  pub not_unsound : r.stop ≡ 1 → ⊥
  pub sound : is_sound r.board ≡ true

module _ (j o : List ℕ) (s : State) (valid : ValidState s) where
  abbrev r : ReplayResult
  r = replay_of j (encode s) o

  abbrev xs : List (Exchange State)
  xs = run_of step_state s j

  abbrev ms : List (List ℕ)
  ms = take r.messages (frames_of j)

  -- the exchanges of the messages done, and their frames
  pub run-done : take r.messages xs ≡ run_frames step_state s ms
  unfolding run_of
  run-done = run_take step_state r.messages s (frames_of j)

  pub frames-done : length ms ≡ r.messages
  unfolding run_of
  frames-done =
      let l = length_run step_state s (frames_of j) in
      length-take-le r.messages (frames_of j) (omega (arith, (replay_prefix j s o valid).not_more))

  passed : r.passed ≡ length (flatten ms)
  passed =
      ap (λ (x : ReplayResult). x.passed) (replay_prefix j s o valid).equal
      ∙ ap (λ (fs : List (List ℕ)). length (flatten fs)) (ap exchange_frames run-done ∙ frames-run step_state s ms)

  written : r.written ≡ length (flatten (exchange_answers (run_frames step_state s ms)))
  written =
      ap (λ (x : ReplayResult). x.written) (replay_prefix j s o valid).equal
      ∙ ap (λ (ys : List (Exchange State)). length (flatten (exchange_answers ys))) run-done

  -- the frames done, and what stands behind them
  split : j ≡ flatten ms ++ (flatten (drop r.messages (frames_of j)) ++ unread j)
  split =
      let fs : List (List ℕ) = frames_of j in
      sym (frames-unread j)
      ∙ ap (λ (x : List ℕ). x ++ unread j) (ap flatten (sym (take-append-drop r.messages fs)) ∙ flatten_append ms (drop r.messages fs))
      ∙ append_assoc (flatten ms) (flatten (drop r.messages fs)) (unread j)

  all_frame : for_all is_frame ms ≡ true
  all_frame = all_take is_frame r.messages (frames_of j) (all_frames j)

  -- the answers to them stand first in the buffer
  pub answers-done : let answers : List ℕ = flatten (exchange_answers (run_frames step_state s ms)) in r.buffer ≡ answers ++ drop (length answers) o
  answers-done =
      ap (λ (x : ReplayResult). x.buffer) (replay_prefix j s o valid).equal
      ∙ patch-start o (flatten (exchange_answers (take r.messages xs)))
      ∙ ap (λ (ys : List (Exchange State)). flatten (exchange_answers ys) ++ drop (length (flatten (exchange_answers ys))) o) run-done

  -- the rest of the journal meets the board that was left
  pub run-resumed : run_of step_state (decode r.board) (drop r.passed j) ≡ drop r.messages xs
  run-resumed =
      let t : State = last_state s (take r.messages xs) in
      let board : decode r.board ≡ t =
      ap (λ (x : ReplayResult). decode x.board) (replay_prefix j s o valid).equal
      ∙ decode-encode t (valid_after j s r.messages valid).fits
      in
      ap (λ (x : State). run_of step_state x (drop r.passed j)) board ∙ replay_resumed j s o valid

  lines_done : lines_in r.messages j r.buffer ≡ flatten (map exchange_line (take r.messages xs))
  lines_done =
      let answers : List ℕ = flatten (exchange_answers (run_frames step_state s ms)) in
      ap₂ (λ (k : ℕ) (a : List ℕ). lines_in k j a) (sym frames-done) answers-done
      ∙ ap (λ (x : List ℕ). lines_in (length ms) x (answers ++ drop (length answers) o)) split
      ∙ lines_run s ms _ _ valid all_frame
      ∙ sym (ap (λ (ys : List (Exchange State)). flatten (map exchange_line ys)) run-done)

  behind-done : length j ≡ r.passed + (length (flatten (drop r.messages (frames_of j))) + length (unread j))
  behind-done =
      let p = passed in
      let later : List ℕ = flatten (drop r.messages (frames_of j)) in
      let l = length-append (flatten ms) (later ++ unread j) in
      let m = length-append later (unread j) in
      ap length split ∙ omega arith

  -- what the journal has behind its frames: nothing, or a line
  abbrev ending : ℕ → List ℕ → ℕ → List ℕ
  ending place rest size = cond (eqb (length rest) 0) [] (cut_line (place + (size - length rest)))

  text_resumed : (place : ℕ) → lines_in r.messages j r.buffer ++ run_text (decode r.board) (place + r.passed) (drop r.passed j) ≡ run_text s place j
  unfolding run_text
  text_resumed place =
      let k : ℕ = r.messages in
      let front : List ℕ = flatten (map exchange_line (take k xs)) in
      let back : List ℕ = flatten (map exchange_line (drop k xs)) in
      let l = length-drop r.passed j in
      let h = behind-done in
      let place_same : place + r.passed + (length (drop r.passed j) - length (unread j)) ≡ place + (length j - length (unread j)) = omega arith in
      let end : ending (place + r.passed) (unread (drop r.passed j)) (length (drop r.passed j)) ≡ ending place (unread j) (length j) =
      ap (λ (u : List ℕ). ending (place + r.passed) u (length (drop r.passed j))) (unread-resumed j s o valid)
      ∙ ap (λ (n : ℕ). cond (eqb (length (unread j)) 0) [] (cut_line n)) place_same
      in
      ap₂ (λ (x y : List ℕ). x ++ y) lines_done
      (ap₂ (λ (ys : List (Exchange State)) (z : List ℕ). flatten (map exchange_line ys) ++ z) run-resumed end)
      ∙ sym (append_assoc front back (ending place (unread j) (length j)))
      ∙ ap (λ (x : List ℕ). x ++ ending place (unread j) (length j)) (lines_split exchange_line k xs)

  -- all messages done
  all_done : r.messages ≡ length xs → lines_in r.messages j r.buffer ≡ flatten (map exchange_line xs)
  all_done e = lines_done ∙ ap (λ (ys : List (Exchange State)). flatten (map exchange_line ys)) (take_all r.messages xs (omega arith))

  all_passed : r.messages ≡ length xs → r.passed ≡ length j - length (unread j)
  unfolding run_of
  all_passed e =
      let n = length_run step_state s (frames_of j) in
      let whole : ms ≡ frames_of j = take_all r.messages (frames_of j) (omega arith) in
      let p = passed ∙ ap (λ (fs : List (List ℕ)). length (flatten fs)) whole in
      omega (arith, length-frames j)

  pub text_of : (place : ℕ) → TextOf s place j o r
  unfolding run_text exchange_answers run_frames flatten
  text_of place = record {
    few = let f = frames-size ms all_frame in let c = frames-done in let p = passed in omega arith;
    inside = let h = behind-done in omega arith;
    used = λ e. by_used e (replay_prefix j s o valid).reason;
    cut = λ e. by_cut e (replay_prefix j s o valid).reason;
    resumed = text_resumed place;
    falls = λ e h. by_falls e h (replay_prefix j s o valid).reason;
    not_unsound = λ e. by_stops e (replay_stops j s o valid);
    sound = replay_sound j s o valid;
  }
    where
      by_used : r.stop ≡ 0 → StopReason j o xs r → lines_in r.messages j r.buffer ≡ run_text s place j
      by_used e (no_room f l m) = absurd (omega arith)
      by_used e (at_end m f) =
          by_rest j f (λ q z. all_done m ∙ sym (append-nil (flatten (map exchange_line xs))) ∙ sym (rw q refl)) (λ q z. absurd (omega arith))

      by_cut : r.stop ≡ 3 → StopReason j o xs r → lines_in r.messages j r.buffer ++ cut_line (place + r.passed) ≡ run_text s place j
      by_cut e (no_room f l m) = absurd (omega arith)
      by_cut e (at_end m f) =
          by_rest j f (λ q z. absurd (omega arith))
          (λ q z. ap₂ (λ (x : List ℕ) (n : ℕ). x ++ cut_line (place + n)) (all_done m) (all_passed m) ∙ sym (rw q refl))

      by_falls : r.stop ≡ 2 → answer_limit ≤ length o → StopReason j o xs r → 0 < r.passed
      by_falls e h (no_room f l m) =
          cases (eqb r.messages 0)
          (λ z.
          let none : ms ≡ [] = ap (λ (k : ℕ). take k (frames_of j)) (eqb-true r.messages 0 z) in
          let w : r.written ≡ 0 = written ∙ ap (λ (fs : List (List ℕ)). length (flatten (exchange_answers (run_frames step_state s fs)))) none in
          omega arith)
          (λ z.
          let n = eqb-false r.messages 0 z in
          let f = frames-size ms all_frame in
          let c = frames-done in
          let p = passed in
          omega arith)
      by_falls e h (at_end m f) = by_rest j f (λ q z. absurd (omega arith)) (λ q z. absurd (omega arith))

      by_stops : r.stop ≡ 1 → (r.stop ≡ 0) ⊎ ((r.stop ≡ 2) ⊎ (r.stop ≡ 3)) → ⊥
      by_stops e (inl f) = omega arith
      by_stops e (inr (inl f)) = omega arith
      by_stops e (inr (inr f)) = omega arith

-- from any sound board
pub sound_text : (place : ℕ) (j b o : List ℕ) → are_bytes b ≡ true → is_sound b ≡ true → TextOf (decode b) place j o (replay_of j b o)
sound_text place j b o y e =
    subst (λ (x : List ℕ). TextOf (decode b) place j o (replay_of j x o)) (sym (sound-state b y e).encoded.bytes)
    (text_of j o (decode b) (valid-board b y e) place)

-- ---- no text is longer than its lines can be

lines_bound : (xs : List (Exchange State)) → length (flatten (map exchange_line xs)) ≤ 14 * length xs
unfolding flatten exchange_line
lines_bound [] = omega arith
lines_bound (x ∷ xs) =
    let line = line-short (kind_of x.frame) x.response.number (length (body_of x.response.answer)) in
    let later = lines_bound xs in
    let l = length-append (exchange_line x) (flatten (map exchange_line xs)) in
    omega arith

pub cut_short : (place : ℕ) → length (cut_line place) ≤ 10
unfolding cut_line
cut_short place = let d = length-decimal place in simp length-append (omega arith)

pub text_short : (s : State) (place : ℕ) (j : List ℕ) → 2 * length (run_text s place j) ≤ 7 * length j + 20
unfolding run_text run_of
text_short s place j =
    let xs : List (Exchange State) = run_frames step_state s (frames_of j) in
    let lines = lines_bound xs in
    let n = length_run step_state s (frames_of j) in
    let few = frames-size (frames_of j) (all_frames j) in
    let whole = length-frames j in
    by_test (eqb (length (unread j)) 0) (flatten (map exchange_line xs)) (omega arith)
  where
    by_test : (t : Bool) (x : List ℕ) → 2 * length x ≤ 7 * length j
        → 2 * length (x ++ cond t [] (cut_line (place + (length j - length (unread j))))) ≤ 7 * length j + 20
    by_test true x h = let l = length-append x [] in omega arith
    by_test false x h =
        let c = cut_short (place + (length j - length (unread j))) in
        let l = length-append x (cut_line (place + (length j - length (unread j)))) in
        omega arith
