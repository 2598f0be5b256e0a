-- What `replay_rest` and `replay` show at each of their returns, of plain lists.
use Prim.Native.Nat.{ℕ, zero, suc, ◌+◌, ◌-◌, ◌≤◌, ◌<◌}
use native.Mathlib.Nat.{le_refl}
use native.Mathlib.Omega.{arith}
use mathlib.Core.Path.{◌≡◌, refl, sym, ap, ◌∙◌, subst}
use mathlib.Core.List.{List}
use mathlib.Core.Bool.{Bool, true, false, cond}
use lib.ListN.{length, take, drop, length-drop}
use lib.Dec.{eqb}
use lib.Pow.{are_bytes}
use borrow.Author.Tests.{eqb-false, eq-eqb, ne_eqb, lt-ltb, le-ltb}
use borrow.Author.Rules.{part_to_end}
use borrow.Rule.Slice.PartMut.{put_mid}
use Rattle.layout.proofs.ByteLaws.{put_rest}
use Rattle.reader.specs.Frames.{frame_length}
use Rattle.reader.proofs.FrameLaws.{frame-inside}
use Rattle.model.specs.Soundness.{is_sound}
use Rattle.model.specs.Step.{answer_limit, StepResult, step_of}
use Rattle.model.specs.Replay.{stopped, continued, replay_in, replay_of}
use Rattle.model.proofs.StepTheorems.{step_lengths}
use Rattle.model.proofs.ReplayTheorems.{unsound_replay}
use Rattle.replay.specs.Results.{stop_number, replayed}
use Rattle.replay.specs.RestResults.{none_done, Leaves, Replays}
use Rattle.replay.specs.declared.Replayed.{Replayed}
use Rattle.replay.specs.declared.Stop.{Stop}
use Rattle.replay.specs.declared.Stop.TheVariants.{JournalUsed, BoardUnsound, BufferShort, FrameCut}

-- what a step has written lies within the buffer that it left
pub answer-inside : (m b o : List ℕ) → are_bytes b ≡ true → (w : ℕ) (b₁ o₁ : List ℕ) → Leaves (step_of m b o) w b₁ o₁ → w ≤ length o₁
answer-inside m b o y w b₁ o₁ e =
    let l = step_lengths m b o y in
    omega (arith, ap (λ (x : StepResult). x.written) e, ap (λ (x : StepResult). length x.buffer) e)

module _ (j b o : List ℕ) where
  -- stopped at once
  at_once : (why : Stop) → {r : Replayed} → r ≡ none_done why
      → ((count : ℕ) → length j ≤ count → stopped (stop_number why) b o ≡ replay_in count j b o) → Replays j b o r b o
  unfolding stopped
  at_once why e f =
      subst (λ (r : Replayed). Replays j b o r b o) (sym e)
      (record { same = f; messages = omega arith; passed = omega arith; written = omega arith })

  pub journal_used_lem : {r : Replayed} → r ≡ none_done JournalUsed → eqb (length j) 0 ≡ true → Replays j b o r b o
  unfolding replay_in
  journal_used_lem e t = at_once JournalUsed e by_count
    where
      by_count : (count : ℕ) → length j ≤ count → stopped 0 b o ≡ replay_in count j b o
      by_count zero h = refl
      by_count (suc count) h = rw t refl

  pub buffer-short : {r : Replayed} → r ≡ none_done BufferShort → eqb (length j) 0 ≡ false → length o < answer_limit → Replays j b o r b o
  unfolding replay_in
  buffer-short e n l = at_once BufferShort e by_count
    where
      by_count : (count : ℕ) → length j ≤ count → stopped 2 b o ≡ replay_in count j b o
      by_count zero h = absurd (eqb-false (length j) 0 n (omega arith))
      by_count (suc count) h = rw n (rw (lt-ltb (length o) answer_limit l) refl)

  pub frame-cut : {r : Replayed} → r ≡ none_done FrameCut → eqb (length j) 0 ≡ false → answer_limit ≤ length o → frame_length j ≡ 0 → Replays j b o r b o
  unfolding replay_in
  frame-cut e n l z = at_once FrameCut e by_count
    where
      by_count : (count : ℕ) → length j ≤ count → stopped 3 b o ≡ replay_in count j b o
      by_count zero h = absurd (eqb-false (length j) 0 n (omega arith))
      by_count (suc count) h = rw n (rw (le-ltb (length o) answer_limit l) (rw (eq-eqb (frame_length j) 0 z) refl))

  -- a message was done: w is its answer's size, b₁ and o₁ what it left, and r, b₂ and o₂ what the rest came to
  module _ (y : are_bytes b ≡ true) (n w : ℕ) (b₁ o₁ : List ℕ) (r : Replayed) (b₂ o₂ : List ℕ)
      (more : eqb (length j) 0 ≡ false)
      (room : answer_limit ≤ length o)
      (is : n ≡ frame_length j)
      (whole : n ≡ 0 → ⊥)
      (done : Leaves (step_of (take n j) b o) w b₁ o₁)
      (rest : Replays (take (length j - n) (drop n j)) b₁ (take (length o₁ - w) (drop w o₁)) r b₂ o₂) where
    abbrev joined : Replayed
    joined = record { stop = r.stop; messages = 1 + r.messages; passed = n + r.passed; written = w + r.written }

    abbrev left : StepResult
    left = record { number = (step_of (take n j) b o).number; written = w; board = b₁; buffer = o₁ }

    inside : w ≤ length o₁
    inside = answer-inside (take n j) b o y w b₁ o₁ done

    same_length : length o₁ ≡ length o
    same_length = sym (ap (λ (x : StepResult). length x.buffer) done) ∙ (step_lengths (take n j) b o y).buffer

    behind : Replays (drop n j) b₁ (drop w o₁) r b₂ o₂
    behind = rw (← part_to_end j n, ← part_to_end o₁ w) rest

    by_count : (count : ℕ) → length j ≤ count → replayed joined b₂ (put_mid w (length o₁ - w) o₁ o₂) ≡ replay_in count j b o
    unfolding replay_in continued
    by_count zero h = absurd (eqb-false (length j) 0 more (omega arith))
    by_count (suc count) h =
        simp (more, le-ltb _ _ room, ← is, ne_eqb _ _ whole, done, put_rest o₁ w o₂ inside)
        (ap (continued n left) (behind.same count (omega (arith, length-drop n j))))

    pub message-done : Replays j b o joined b₂ (put_mid w (length o₁ - w) o₁ o₂)
    message-done =
        let l = frame-inside j in
        let s = same_length in record {
          same = by_count;
          messages = omega (arith, behind.messages, length-drop n j);
          passed = omega (arith, behind.passed, length-drop n j);
          written = omega (arith, behind.written, length-drop w o₁, inside);
        }

-- ---- the whole replay

module _ (j b o : List ℕ) {r : Replayed} where
  pub board_unsound : r ≡ none_done BoardUnsound → is_sound b ≡ false → replayed r b o ≡ replay_of j b o
  unfolding stopped
  board_unsound e f = ap (λ (x : Replayed). replayed x b o) e ∙ sym (unsound_replay j b o f)

  pub board-sound : {b' o' : List ℕ} → is_sound b ≡ true → Replays j b o r b' o' → replayed r b' o' ≡ replay_of j b o
  unfolding replay_of
  board-sound e done = done.same (length j) (le_refl _) ∙ sym (ap (λ (t : Bool). cond t (replay_in (length j) j b o) (stopped 1 b o)) e)
