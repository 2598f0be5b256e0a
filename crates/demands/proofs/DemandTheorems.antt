-- The three demands, of any result x that meets the contract of `step` or of `replay`. Both functions are proved to meet theirs on every input and
-- to return, so these are the demands on the code; `step_contract` and `replay_contract` say that the hypotheses here are those contracts.
-- CallTheorems has the demands of the calls that C and Rust reach.
use Prim.Native.Nat.{ℕ, ◌≤◌, ◌<◌}
use mathlib.Core.Path.{◌≡◌, ◌∙◌}
use mathlib.Core.List.{List}
use mathlib.Core.Bool.{Bool, true, false}
use lib.ListN.{length}
use lib.Pow.{are_bytes}
use contract.Lifetimes.{Lfts}
use denote.Triple.Clauses.{AtExit}
use borrow.Fn.World.{ArgsD, ResD}
use borrow.Fn.Kinds.{ended_of}
use Rattle.model.specs.Board.{empty_board, decode}
use Rattle.model.specs.Soundness.{is_sound}
use Rattle.model.specs.Refusals.{cause_number}
use Rattle.model.specs.Step.{answer_limit, step_state, StepResult, unanswered, write_answer, step_of}
use Rattle.model.specs.Replay.{ReplayResult, run_of, replay_of}
use Rattle.model.proofs.RefusalTheorems.{table_rows, nth_row, lowest_number, number_applies}
use Rattle.model.proofs.StepTheorems.{unsound_refused, short-refused, arguments_accepted, refused-board, refused-written}
use Rattle.model.proofs.ReplayTheorems.{ReplayPrefix, result_after, stop_at_end, sound_prefix, sound-complete}
use Rattle.confidentiality.specs.Confidentiality.{Noninterference}
use Rattle.confidentiality.specs.Traces.{replay_trace}
use Rattle.confidentiality.proofs.ConfidentialityTheorems.{results_confidential}
use Rattle.step.specs.Results.{stepped}
use Rattle.step.specs.contracts.step as step
use Rattle.step.proofs.step.Kinds as step-kinds
use Rattle.step.proofs.step.Reads as step-reads
use Rattle.replay.specs.Results.{replayed}
use Rattle.replay.specs.contracts.replay as replay
use Rattle.replay.proofs.replay.Kinds as replay-kinds
use Rattle.replay.proofs.replay.Reads as replay-reads

-- ---- the contracts, as their callers have them: of the arguments a, the result r and what was left at the end, e

pub step_contract : (κs : Lfts 3) (a : ArgsD step.signature κs) (r : ResD step.signature κs) (e : AtExit (ended_of 3 step-kinds.ps step-kinds.r) κs)
    → step-reads.Learnt κs a r e → stepped r e.1.0.now e.1.1.0.now ≡ step_of a.0.now a.1.0.now a.1.1.0.now
step_contract κs a r e met = met

pub replay_contract : (κs : Lfts 3) (a : ArgsD replay.signature κs) (r : ResD replay.signature κs)
    (e : AtExit (ended_of 3 replay-kinds.ps replay-kinds.r) κs)
    → replay-reads.Learnt κs a r e → replayed r e.1.0.now e.1.1.0.now ≡ replay_of a.0.now a.1.0.now a.1.1.0.now
replay_contract κs a r e met = met

-- DEMAND 1. x is the result for the message m, the board b and the buffer o, whatever bytes these are: of `step` it is `stepped a b' o'`, where a is
-- the answer that it returned, and b' and o' are the board and the buffer as it left them.
module _ (m b o : List ℕ) (x : StepResult) (met : x ≡ step_of m b o) where
  -- "the one numbered refusal that document 01 fixes": a refusal is a row of the table that applies ..
  pub refusal_applies : (x.number ≡ 0 → ⊥)
      → (i : ℕ) × (i < length (table_rows m b o)) × ((nth_row (table_rows m b o) i).1 ≡ true)
      × (cause_number (nth_row (table_rows m b o) i).0 ≡ x.number)
  refusal_applies = rw met (number_applies m b o)

  -- .. and none that applies has a lower number; where one applies, the message is not accepted
  pub refusal-lowest : (i : ℕ) → i < length (table_rows m b o) → (nth_row (table_rows m b o) i).1 ≡ true
      → (0 < x.number) × (x.number ≤ cause_number (nth_row (table_rows m b o) i).0)
  refusal-lowest = rw met (lowest_number m b o)

  -- "the accepted result": on a sound board and with room for the answer, number, answer and board are those of the step on the board's state
  pub accepted-result : is_sound b ≡ true → answer_limit ≤ length o → x ≡ write_answer (step_state m (decode b)) b o
  accepted-result sound room = met ∙ arguments_accepted m b o sound room

  -- the column "Written": 0 for 1 and 2 ..
  pub refused_unsound : is_sound b ≡ false → x ≡ unanswered 1 b o
  refused_unsound unsound = met ∙ unsound_refused m b o unsound

  pub refused-short : is_sound b ≡ true → length o < answer_limit → x ≡ unanswered 2 b o
  refused-short sound short = met ∙ short-refused m b o sound short

  -- .. and 4 from 3 on
  pub refusal-written : is_sound b ≡ true → answer_limit ≤ length o → (x.number ≡ 0 → ⊥) → x.written ≡ 4
  refusal-written = rw met (refused-written m b o)

  -- "a refusal changes no byte of the board"
  pub refusal-unchanged : (x.number ≡ 0 → ⊥) → x.board ≡ b
  refusal-unchanged = rw met (refused-board m b o)

-- DEMAND 2. x is the result for the journal j, a sound board b and the buffer o: of `replay` it is `replayed r b' o'`, where r is what it returned,
-- and b' and o' are the board and the buffer as it left them. b is bytes, as every lent slice is.
module _ (j b o : List ℕ) (x : ReplayResult) (met : x ≡ replay_of j b o) (bytes : are_bytes b ≡ true) (sound : is_sound b ≡ true) where
  -- "Every answer and every board after it equal the CoSMed step": wherever it stopped, the answers, the board and the counts are those of
  -- the first messages of the run ..
  pub journal_prefix : ReplayPrefix j (decode b) o x
  journal_prefix = rw met (sound_prefix j b o bytes sound)

  -- .. "over a whole journal": of all its messages, where the answers had room
  pub journal_complete : (x.stop ≡ 2 → ⊥) → x ≡ result_after (stop_at_end j) (decode b) o (run_of step_state (decode b) j)
  journal_complete = rw met (sound-complete j b o bytes sound)

-- DEMAND 3. x₁ and x₂ are two replays from the empty board, with room to their ends. The same bytes remain of both journals once some accepted updates
-- of the text of post n, each met while n was closed to the set, are purged from each. Before each message that opens n to the set, neither journal
-- had an accepted update since n was closed, or both had (purged or not) and the last text is the same. Then the set sees the same frames and answers.
module _ (observers : ℕ → Bool) (n : ℕ) (j₁ j₂ o₁ o₂ : List ℕ) (x₁ x₂ : ReplayResult)
    (met₁ : x₁ ≡ replay_of j₁ empty_board o₁)
    (met₂ : x₂ ≡ replay_of j₂ empty_board o₂) where
  pub journals_confidential : (x₁.stop ≡ 2 → ⊥) → (x₂.stop ≡ 2 → ⊥) → Noninterference observers n (replay_trace j₁ x₁) (replay_trace j₂ x₂)
  journals_confidential = results_confidential observers n j₁ j₂ o₁ o₂ x₁ x₂ met₁ met₂
