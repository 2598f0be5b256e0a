-- The three demands of the calls that C and Rust reach, of any result that meets the contract of `staff_board_step` or of `staff_board_replay`. Both
-- are proved to meet theirs; `step_call_contract` and `replay_call_contract` say that the hypotheses here are those contracts.
use Prim.Native.Nat.{ℕ, ◌/◌, ◌%◌, ◌^◌, ◌≤◌, ◌<◌}
use native.Mathlib.Omega.{arith}
use mathlib.Core.Path.{◌≡◌, refl, sym, ap, ◌∙◌}
use mathlib.Core.List.{List, [], ◌++◌, append_assoc, append-nil}
use mathlib.Core.Bool.{Bool, true, false}
use lib.ListN.{length, take, length-append}
use lib.Seq.{take_at, drop_at}
use lib.Pow.{are_bytes}
use contract.Lifetimes.{Lfts}
use denote.Triple.Clauses.{AtExit}
use borrow.Fn.World.{ArgsD, ResD}
use borrow.Fn.Kinds.{ended_of, GoodsP}
use Rattle.layout.specs.Bytes.{bytes_at}
use Rattle.layout.specs.Numbers.{to_le_bytes, from_le_bytes}
use Rattle.layout.proofs.NumberLaws.{length_to, from_to}
use Rattle.model.specs.Board.{empty_board, decode}
use Rattle.model.specs.Soundness.{is_sound}
use Rattle.model.specs.Refusals.{cause_number}
use Rattle.model.specs.Step.{answer_limit, step_state, unanswered, write_answer, step_of}
use Rattle.model.specs.Replay.{ReplayResult, run_of, replay_of}
use Rattle.model.proofs.RefusalTheorems.{table_rows, nth_row}
use Rattle.model.proofs.ReplayTheorems.{ReplayPrefix, result_after, stop_at_end, counts-within}
use Rattle.confidentiality.specs.Confidentiality.{Noninterference}
use Rattle.confidentiality.specs.Traces.{replay_trace}
use Rattle.abi.specs.CallResults.{step_called, ReplayCall, replay_called, count_bytes, counts_size, wrong_counts, replay_call_of, call_result}
use Rattle.abi.proofs.CallLaws.{counts-refused, counts-accepted}
use Rattle.abi.specs.contracts.staff_board_step as step_call
use Rattle.abi.proofs.staff_board_step.Kinds as step-call-kinds
use Rattle.abi.proofs.staff_board_step.Reads as step-call-reads
use Rattle.abi.specs.contracts.staff_board_replay as replay-call
use Rattle.abi.proofs.staff_board_replay.Kinds as replay-call-kinds
use Rattle.abi.proofs.staff_board_replay.Reads as replay-call-reads
use Rattle.demands.proofs.DemandTheorems.{refusal_applies, refusal-lowest, accepted-result, refused_unsound, refused-short, refusal-written, refusal-unchanged, journal_prefix, journal_complete, journals_confidential}

-- ---- the contracts, as their callers have them: of the arguments a, the result r and what was left at the end, e

pub step_call_contract : (κs : Lfts 3) (a : ArgsD step_call.signature κs) (r : ResD step_call.signature κs)
    (e : AtExit (ended_of 3 step-call-kinds.ps step-call-kinds.r) κs)
    → step-call-reads.Learnt κs a r e → step_called r e.1.0.now e.1.1.0.now ≡ step_of a.0.now a.1.0.now a.1.1.0.now
step_call_contract κs a r e met = met

pub replay_call_contract : (κs : Lfts 4) (a : ArgsD replay-call.signature κs) (r : ResD replay-call.signature κs)
    (e : AtExit (ended_of 4 replay-call-kinds.ps replay-call-kinds.r) κs) → replay-call-reads.Learnt κs a r e
    → replay_called r e.1.0.now e.1.1.0.now e.1.1.1.0.now
    ≡ replay_call_of a.0.now a.1.0.now a.1.1.0.now a.1.1.1.0.now
replay_call_contract κs a r e met = met

-- the lengths of a journal and of an answer buffer fit eight bytes ..
abbrev pub LengthsFit : List ℕ → List ℕ → Type 0
LengthsFit j o = (length j < 2 ^ 64) × (length o < 2 ^ 64)

-- .. as those of all lent slices do: a caller that owns the arguments knows it
pub lent-lengths : (κs : Lfts 4) (a : ArgsD replay-call.signature κs) → GoodsP κs replay-call-kinds.ps a → LengthsFit a.0.now a.1.1.0.now
lent-lengths κs a good = (good.0.0, good.1.1.0.0)

-- DEMAND 1. r is the number that `staff_board_step` returned for the message m, the board b and the buffer o, whatever bytes these are; it left b'
-- and o'. The refusal, or 0, is r % 65536, and the bytes written are r / 65536.
module _ (m b o : List ℕ) (r : ℕ) (b' o' : List ℕ) (met : step_called r b' o' ≡ step_of m b o) where
  -- "the one numbered refusal that document 01 fixes": a refusal is a row of the table that applies ..
  pub call_refusal_applies : (r % 65536 ≡ 0 → ⊥)
      → (i : ℕ) × (i < length (table_rows m b o)) × ((nth_row (table_rows m b o) i).1 ≡ true)
      × (cause_number (nth_row (table_rows m b o) i).0 ≡ r % 65536)
  call_refusal_applies = refusal_applies m b o (step_called r b' o') met

  -- .. and none that applies has a lower number; where one applies, the message is not accepted
  pub call_refusal-lowest : (i : ℕ) → i < length (table_rows m b o) → (nth_row (table_rows m b o) i).1 ≡ true
      → (0 < r % 65536) × (r % 65536 ≤ cause_number (nth_row (table_rows m b o) i).0)
  call_refusal-lowest = refusal-lowest m b o (step_called r b' o') met

  -- "the accepted result": on a sound board and with room for the answer, number, answer and board are those of the step on the board's state
  pub call_accepted-result : is_sound b ≡ true → answer_limit ≤ length o → step_called r b' o' ≡ write_answer (step_state m (decode b)) b o
  call_accepted-result = accepted-result m b o (step_called r b' o') met

  -- the column "Written": 0 for 1 and 2 ..
  pub call_refused_unsound : is_sound b ≡ false → step_called r b' o' ≡ unanswered 1 b o
  call_refused_unsound = refused_unsound m b o (step_called r b' o') met

  pub call_refused-short : is_sound b ≡ true → length o < answer_limit → step_called r b' o' ≡ unanswered 2 b o
  call_refused-short = refused-short m b o (step_called r b' o') met

  -- .. and 4 from 3 on
  pub call_refusal-written : is_sound b ≡ true → answer_limit ≤ length o → (r % 65536 ≡ 0 → ⊥) → r / 65536 ≡ 4
  call_refusal-written = refusal-written m b o (step_called r b' o') met

  -- "a refusal changes no byte of the board"
  pub call_refusal-unchanged : (r % 65536 ≡ 0 → ⊥) → b' ≡ b
  call_refusal-unchanged = refusal-unchanged m b o (step_called r b' o') met

-- ---- the counts, read back

-- a number of eight bytes, with x in front of it and y behind it
number_back : (x y : List ℕ) (at n : ℕ) → length x ≡ at → n < 2 ^ 64 → from_le_bytes (bytes_at (x ++ (to_le_bytes 8 n ++ y)) at 8) ≡ n
unfolding bytes_at
number_back x y at n l h =
    ap from_le_bytes (ap (take 8) (drop_at x (to_le_bytes 8 n ++ y) at l) ∙ take_at (to_le_bytes 8 n) y 8 (length_to 8 n)) ∙ from_to 8 n h

-- all three counts, each behind the ones before it
counts-back : (x : ReplayResult) → x.messages < 2 ^ 64 → x.passed < 2 ^ 64 → x.written < 2 ^ 64
    → call_result x.stop x.board x.buffer (count_bytes x) ≡ x
unfolding count_bytes
counts-back x hm hp hw =
    let m : List ℕ = to_le_bytes 8 x.messages in
    let p : List ℕ = to_le_bytes 8 x.passed in
    let w : List ℕ = to_le_bytes 8 x.written in
    let two : length (m ++ p) ≡ 16 = omega (arith, length-append m p, length_to 8 x.messages, length_to 8 x.passed) in
    let last : m ++ (p ++ w) ≡ m ++ p ++ (w ++ []) = sym (ap (λ (y : List ℕ). m ++ p ++ y) (append-nil w) ∙ append_assoc m p w) in
    λ i. record {
      stop = x.stop;
      messages = number_back [] (p ++ w) 0 x.messages refl hm i;
      passed = number_back m w 8 x.passed (length_to 8 x.messages) hp i;
      written = (ap (λ (c : List ℕ). from_le_bytes (bytes_at c 16 8)) last ∙ number_back (m ++ p) [] 16 x.written two hw) i;
      board = x.board;
      buffer = x.buffer;
    }

-- DEMAND 2. r is the number that `staff_board_replay` returned for the journal j, the board b, the buffer o and the counts c; it left b', o' and c'.
-- `call_result` is what the caller reads from them.
module _ (j b o c : List ℕ) (r : ℕ) (b' o' c' : List ℕ) (met : replay_called r b' o' c' ≡ replay_call_of j b o c) where
  -- counts of another length: 255, and board, buffer and counts are as they were
  pub call_refused-counts : (length c ≡ counts_size → ⊥) → replay_called r b' o' c' ≡ replay_called wrong_counts b o c
  call_refused-counts n = met ∙ sym (counts-refused j b o c n)

  -- 24 bytes of counts; b is bytes, as every lent slice is, and the lengths fit eight bytes (`lent-lengths`)
  module _ (size : length c ≡ counts_size) (bytes : are_bytes b ≡ true) (lengths : LengthsFit j o) where
    -- the caller reads the result of the replay: the counts are at most the lengths, so each fits its eight bytes
    pub call_result_lem : call_result r b' o' c' ≡ replay_of j b o
    call_result_lem =
        let x : ReplayResult = replay_of j b o in
        let w = counts-within j b o bytes in
        ap (λ (y : ReplayCall). call_result y.number y.board y.buffer y.counts) (met ∙ sym (counts-accepted j b o c size))
        ∙ counts-back x (omega arith) (omega arith) (omega arith)

    -- "Every answer and every board after it equal the CoSMed step": wherever it stopped, the answers, the board and the counts are those of
    -- the first messages of the run ..
    pub call_journal_prefix : is_sound b ≡ true → ReplayPrefix j (decode b) o (call_result r b' o' c')
    call_journal_prefix = journal_prefix j b o (call_result r b' o' c') call_result_lem bytes

    -- .. "over a whole journal": of all its messages, where the answers had room
    pub call_journal_complete : is_sound b ≡ true → (r ≡ 2 → ⊥)
        → call_result r b' o' c' ≡ result_after (stop_at_end j) (decode b) o (run_of step_state (decode b) j)
    call_journal_complete = journal_complete j b o (call_result r b' o' c') call_result_lem bytes

-- the empty board is bytes: each is 0
empty-bytes : are_bytes empty_board ≡ true
unfolding empty_board
empty-bytes = refl

-- DEMAND 3, which DemandTheorems has in words, of two calls of `staff_board_replay` from the empty board with room to their ends: of the frames and
-- answers that a caller reads from the journal, the counts and the buffer.
module _ (observers : ℕ → Bool) (n : ℕ) (j₁ j₂ o₁ o₂ c₁ c₂ : List ℕ) (r₁ r₂ : ℕ) (b₁ b₂ o₁' o₂' c₁' c₂' : List ℕ)
    (met₁ : replay_called r₁ b₁ o₁' c₁' ≡ replay_call_of j₁ empty_board o₁ c₁)
    (met₂ : replay_called r₂ b₂ o₂' c₂' ≡ replay_call_of j₂ empty_board o₂ c₂)
    (size₁ : length c₁ ≡ counts_size)
    (size₂ : length c₂ ≡ counts_size)
    (lengths₁ : LengthsFit j₁ o₁)
    (lengths₂ : LengthsFit j₂ o₂) where
  pub call_journals_confidential : (r₁ ≡ 2 → ⊥) → (r₂ ≡ 2 → ⊥) → Noninterference observers n
      (replay_trace j₁ (call_result r₁ b₁ o₁' c₁')) (replay_trace j₂ (call_result r₂ b₂ o₂' c₂'))
  call_journals_confidential =
      journals_confidential observers n j₁ j₂ o₁ o₂ (call_result r₁ b₁ o₁' c₁') (call_result r₂ b₂ o₂' c₂')
      (call_result_lem j₁ empty_board o₁ c₁ r₁ b₁ o₁' c₁' met₁ size₁ empty-bytes lengths₁)
      (call_result_lem j₂ empty_board o₂ c₂ r₂ b₂ o₂' c₂' met₂ size₂ empty-bytes lengths₂)
