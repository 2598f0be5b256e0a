-- Wrong kernels of "The promises and the table" that get past demand 3: the claim holds of each. model's WrongSteps shows that such kernels
-- differ from the step, so demand 2 is needed.
--     refuses_all_meets     "a kernel that says 7 to everybody"
--     accepts_all_meets     "one that sends the empty acceptance to everybody"
--     never_changes_meets   "one that never touches the board", with the step's answers on the board it holds, always the empty one
--     unchanging_meets      any kernel that never touches the board, whatever it answers
-- The first two do each message on the board, as the step does. Kernels with their answers that never touch the board are covered too.
use Prim.Native.Nat.{ℕ}
use mathlib.Core.Path.{◌≡◌, refl, sym, ap, ◌∙◌}
use mathlib.Core.List.{List, [], ◌∷◌, ◌++◌, flatten}
use mathlib.Core.Bool.{Bool, true, false, ◌&&◌, true≢false}
use lib.Dec.{eqb}
use borrow.Author.Tests.{eqb-true}
use Rattle.layout.proofs.BooleanLaws.{and_left, and_right}
use Rattle.reader.specs.Frames.{frame_bytes}
use Rattle.reader.specs.Kinds.{kinds}
use Rattle.reader.specs.Messages.{content, message_content}
use Rattle.model.specs.State.{State, empty_state}
use Rattle.model.specs.Actions.{action_from}
use Rattle.model.specs.Step.{Response, step_action, step_state}
use Rattle.model.specs.Replay.{frames_of, unread, run_frames, run_of}
use Rattle.model.proofs.JournalLaws.{frames-unread}
use Rattle.model.proofs.StepDefinitions.{step_definitions}
use Rattle.confidentiality.specs.Traces.{run_trace, is_accepted}
use Rattle.confidentiality.specs.History.{History, is_kind, is_about, closed_to, is_text_update}
use Rattle.confidentiality.specs.Purging.{mark, remaining, purged_while_closed}
use Rattle.confidentiality.specs.Confidentiality.{observed, Noninterference, Confidential}
use Rattle.confidentiality.proofs.TextUnwinding.{fixed_answers, fixed_unwinding}
use Rattle.confidentiality.proofs.ConfidentialityTheorems.{unwound}
use Rattle.confidentiality.proofs.Alignment.{events_from}

-- ---- at the empty state no text update is accepted

update_refused : (m : List ℕ) → is_kind 0x0403 (message_content m) ≡ true → (step_state m empty_state).number ≡ 7
unfolding is_kind step_definitions
update_refused m e =
    ap (λ (k : ℕ). (step_action empty_state (action_from kinds (content k (message_content m).values))).number)
    (eqb-true (message_content m).code 0x0403 e)

update_not_accepted : (n : ℕ) (m : List ℕ) → is_accepted m empty_state && is_about 0x0403 n (message_content m) ≡ true → ⊥
unfolding is_accepted is_about
update_not_accepted n m e =
    let accepted = and_left (is_accepted m empty_state) (is_about 0x0403 n (message_content m)) e in
    let about = and_right (is_accepted m empty_state) (is_about 0x0403 n (message_content m)) e in
    let kind = and_left (is_kind 0x0403 (message_content m)) _ about in
    true≢false (sym accepted ∙ ap (λ (k : ℕ). eqb k 0) (update_refused m kind))

-- ---- a step that leaves each state as it is

module _ (step : List ℕ → State → Response State) (unchanging : (m : List ℕ) (s : State) → (step m s).state ≡ s) where
  -- every message meets the empty state, so nothing may be purged and all frames remain
  all_remain : (closed : History → Bool) (n : ℕ) (s : State) → s ≡ empty_state → (ms : List (List ℕ)) (marks : List Bool) (h : History)
      → purged_while_closed closed (is_text_update n) h (mark marks (events_from is_accepted step s ms)) ≡ true
      → remaining (mark marks (events_from is_accepted step s ms)) ≡ ms
  unfolding run_frames mark remaining purged_while_closed is_text_update
  all_remain closed n s empty [] marks h allowed = refl
  all_remain closed n s empty (m ∷ ms) [] h allowed =
      ap (λ (later : List (List ℕ)). m ∷ later) (all_remain closed n (step m s).state (unchanging m s ∙ empty) ms [] _ allowed)
  all_remain closed n s empty (m ∷ ms) (false ∷ marks) h allowed =
      ap (λ (later : List (List ℕ)). m ∷ later) (all_remain closed n (step m s).state (unchanging m s ∙ empty) ms marks _ allowed)
  all_remain closed n s empty (m ∷ ms) (true ∷ marks) h allowed =
      let update = and_left (is_accepted m s && is_about 0x0403 n (message_content m)) (closed h) (and_left _ _ allowed) in
      absurd (update_not_accepted n m (ap (λ (t : State). is_accepted m t && is_about 0x0403 n (message_content m)) (sym empty) ∙ update))

  -- hence the remaining bytes are the journal
  journal_remains : (closed : History → Bool) (n : ℕ) (marks : List Bool) (j : List ℕ)
      → purged_while_closed closed (is_text_update n) [] (mark marks (run_trace is_accepted step empty_state j).events) ≡ true
      → flatten (remaining (mark marks (run_trace is_accepted step empty_state j).events)) ++ (run_trace is_accepted step empty_state j).rest ≡ j
  unfolding run_trace run_of
  journal_remains closed n marks j allowed =
      ap (λ (ms : List (List ℕ)). flatten ms ++ unread j) (all_remain closed n empty_state refl (frames_of j) marks [] allowed) ∙ frames-unread j

  -- so journals that differ only in purged updates are the same
  pub unchanging_meets : Confidential is_accepted step empty_state
  unfolding Confidential Noninterference
  unchanging_meets observers n j₁ j₂ marks₁ marks₂ differ agree =
      let same : j₁ ≡ j₂ =
      sym (journal_remains (closed_to observers n) n marks₁ j₁ differ.purged₁) ∙ differ.same_bytes
      ∙ journal_remains (closed_to observers n) n marks₂ j₂ differ.purged₂
      in
      ap (λ (j : List ℕ). observed observers (run_trace is_accepted step empty_state j).events) same

-- ---- the kernels

-- each message is done on the board, and all get one answer
pub refuses_all_meets : Confidential is_accepted (fixed_answers (λ m. 7) (λ m. frame_bytes 7 [])) empty_state
refuses_all_meets =
    unwound is_accepted (fixed_answers (λ m. 7) (λ m. frame_bytes 7 [])) empty_state (fixed_unwinding (λ m. 7) (λ m. frame_bytes 7 []))

pub accepts_all_meets : Confidential is_accepted (fixed_answers (λ m. 0) (λ m. frame_bytes 0 [])) empty_state
accepts_all_meets =
    unwound is_accepted (fixed_answers (λ m. 0) (λ m. frame_bytes 0 [])) empty_state (fixed_unwinding (λ m. 0) (λ m. frame_bytes 0 []))

-- the step's answers, on a board that is never touched
unfoldable pub never_changes : List ℕ → State → Response State
never_changes m s = record { number = (step_state m s).number; answer = (step_state m s).answer; state = s }

pub never_changes_meets : Confidential is_accepted never_changes empty_state
unfolding never_changes
never_changes_meets = unchanging_meets never_changes (λ m s. refl)
