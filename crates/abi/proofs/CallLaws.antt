-- What the functions for C show at their returns, of plain numbers and lists.
use Prim.Native.Nat.{ℕ, ◌≤◌, ◌<◌}
use native.Mathlib.Omega.{arith}
use mathlib.Core.Path.{◌≡◌, refl, sym, ap, ◌∙◌}
use mathlib.Core.List.{List, ◌++◌, append_assoc, append-nil}
use mathlib.Core.Bool.{true}
use lib.ListN.{length, length-append, drop_of_length-le}
use lib.Pow.{are_bytes}
use borrow.Author.Tests.{eq-eqb, ne_eqb}
use Rattle.std.specs.Prelude.{Result, Ok, Err, IfOk}
use Rattle.layout.specs.Bytes.{write_at, bytes_written, put_bytes}
use Rattle.layout.specs.Numbers.{to_le_bytes}
use Rattle.layout.proofs.ByteLaws.{length-write}
use Rattle.layout.proofs.WrittenLaws.{bytes-put-within, put-behind, put-buffer}
use Rattle.layout.proofs.NumberLaws.{length_to}
use Rattle.model.specs.Step.{answer_limit, StepResult, step_of}
use Rattle.model.specs.Replay.{ReplayResult, replay_of}
use Rattle.model.proofs.BufferLaws.{patch-start}
use Rattle.model.proofs.StepTheorems.{step_lengths}
use Rattle.step.specs.Results.{stepped}
use Rattle.step.specs.declared.Answer.{Answer}
use Rattle.replay.specs.Results.{stop_number, replayed}
use Rattle.replay.specs.declared.Replayed.{Replayed}
use Rattle.writer.specs.Encoding.{WriteResult, outcome}
use Rattle.writer.specs.declared.Refusal.{Refusal}
use Rattle.abi.specs.CallResults.{replay_called, count_bytes, counts_size, wrong_counts, replay_call_of}

-- ---- one number for two: few are written

pub written-short : (m b o : List ℕ) (a : Answer) {b' o' : List ℕ} → stepped a b' o' ≡ step_of m b o → are_bytes b ≡ true → a.written ≤ answer_limit
written-short m b o a done y = let l = step_lengths m b o y in omega (arith, ap (λ (x : StepResult). x.written) done)

pub few-written : (done : Result ℕ Refusal) (b : List ℕ) {x : WriteResult} {n : ℕ} → outcome done b ≡ x → x.written ≤ n → n < 65536
    → IfOk done (λ (written : ℕ). written < 65536)
few-written (Ok written) b e h l = omega (arith, ap (λ (y : WriteResult). y.written) e)
few-written (Err refusal) b e h l = tt

-- ---- the replay

-- three numbers of eight bytes, written one behind the other, are all of the counts
pub counts-written : (c : List ℕ) (x : ReplayResult) → length c ≡ counts_size
    → write_at (write_at (write_at c 0 (to_le_bytes 8 x.messages)) 8 (to_le_bytes 8 x.passed)) 16 (to_le_bytes 8 x.written) ≡ count_bytes x
unfolding count_bytes
counts-written c x h =
    let m : List ℕ = to_le_bytes 8 x.messages in
    let p : List ℕ = to_le_bytes 8 x.passed in
    let w : List ℕ = to_le_bytes 8 x.written in
    let lm : length m ≡ 8 = length_to 8 x.messages in
    let lp : length p ≡ 8 = length_to 8 x.passed in
    let lw : length w ≡ 8 = length_to 8 x.written in
    let lmp : length (m ++ p) ≡ 16 = length-append m p ∙ omega arith in
    let lmpw : length (m ++ p ++ w) ≡ 24 = length-append (m ++ p) w ∙ omega arith in
    let c₁ : List ℕ = write_at c 0 m in
    let c₂ : List ℕ = write_at c₁ 8 p in
    let first : bytes_written 8 c₁ ≡ put_bytes c 0 m = bytes-put-within c 0 m (sym lm) (omega arith) refl in
    let second : bytes_written 16 c₂ ≡ put_bytes c 0 (m ++ p) =
    put-behind c 0 m p (omega arith) first refl (bytes-put-within c₁ 8 p (sym lp) (omega (arith, length-write c 0 m)) refl)
    in
    let third : bytes_written 24 (write_at c₂ 16 w) ≡ put_bytes c 0 (m ++ p ++ w) =
    put-behind c 0 (m ++ p) w (omega arith) second refl
    (bytes-put-within c₂ 16 w (sym lw) (omega (arith, length-write c₁ 8 p, length-write c 0 m)) refl)
    in
    put-buffer c 0 (m ++ p ++ w) third ∙ patch-start c (m ++ p ++ w)
    ∙ ap (λ (y : List ℕ). m ++ p ++ w ++ y) (drop_of_length-le c {i = length (m ++ p ++ w)} (omega arith))
    ∙ append-nil (m ++ p ++ w) ∙ append_assoc m p w

-- counts of another length, and counts of 24 bytes
pub counts-refused : (j b o c : List ℕ) → (length c ≡ counts_size → ⊥) → replay_called wrong_counts b o c ≡ replay_call_of j b o c
unfolding replay_call_of
counts-refused j b o c n = rw (ne_eqb (length c) counts_size n) refl

pub counts-accepted : (j b o c : List ℕ) → length c ≡ counts_size → let x : ReplayResult = replay_of j b o in
    replay_called x.stop x.board x.buffer (count_bytes x) ≡ replay_call_of j b o c
unfolding replay_call_of
counts-accepted j b o c h = rw (eq-eqb (length c) counts_size h) refl

module _ (j b o c : List ℕ) (r : Replayed) {b' o' c₁ c₂ c₃ : List ℕ} {n : ℕ} where
  pub replay_called_lem : length c ≡ counts_size → replayed r b' o' ≡ replay_of j b o → c₁ ≡ write_at c 0 (to_le_bytes 8 r.messages)
      → c₂ ≡ write_at c₁ 8 (to_le_bytes 8 r.passed) → c₃ ≡ write_at c₂ 16 (to_le_bytes 8 r.written) → n ≡ stop_number r.stop
      → replay_called n b' o' c₃ ≡ replay_call_of j b o c
  replay_called_lem h done e₁ e₂ e₃ stop =
      let counts : c₃ ≡ count_bytes (replayed r b' o') =
      e₃ ∙ ap (λ (y : List ℕ). write_at y 16 (to_le_bytes 8 r.written)) (e₂ ∙ ap (λ (y : List ℕ). write_at y 8 (to_le_bytes 8 r.passed)) e₁)
      ∙ counts-written c (replayed r b' o') h
      in
      (λ i. replay_called (stop i) b' o' (counts i))
      ∙ (λ i. replay_called (done i).stop (done i).board (done i).buffer (count_bytes (done i)))
      ∙ counts-accepted j b o c h
