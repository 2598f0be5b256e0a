-- `step_sound` meets its contract: the action's result gets its head, and that is the model's step.
use Prim.Native.Nat.{ℕ, ◌+◌, ◌≤◌}
use native.Mathlib.Omega.{arith}
use mathlib.Core.Path.{◌≡◌, refl, sym, ap, ◌∙◌, subst}
use mathlib.Core.List.{List}
use mathlib.Core.Bool.{true}
use lib.ListN.{length}
use lib.Pow.{are_bytes}
use Rattle.std.specs.Prelude.{Result}
use Rattle.std.specs.Result.{result_unwrap_or}
use Rattle.layout.specs.Bytes.{write_at, bytes_written}
use Rattle.layout.specs.Numbers.{to_le_bytes}
use Rattle.layout.proofs.NumberLaws.{bytes_of}
use Rattle.model.specs.Step.{answer_limit}
use Rattle.model.proofs.SoundnessTheorems.{sound-state}
use Rattle.step.specs.Results.{outcome_number}
use Rattle.step.specs.ActionResults.{ActionResult}
use Rattle.step.specs.declared.Refusal.{Refusal}
use Rattle.step.proofs.FrameLaws.{headed, head_placed, step_headed, action-short}
use Rattle.step.proofs.step_sound.Goals as goal
use Rattle.step.proofs.step_sound.Goals.{After-act, Joined-act, After-slice_known-2-1}
use Rattle.step.proofs.step_sound.Goals.{in-Ok, in-Err}

board-bytes : (c : After-slice_known-2-1) → are_bytes c.args.board.now ≡ true
board-bytes c = bytes_of c.args.board.now (λ i h. omega (arith, c.type_inv.board i))

pub act-requires : goal.act-requires
act-requires c = (sound-state c.args.board.now (board-bytes (goal.at.act-requires c).After-slice_known-2-1) c.requires.0, c.requires.1)

-- the number and the body's length are those of the action's result
pub record IsSplit (outcome : Result Unit Refusal × ℕ) (acted : Result ℕ Refusal) : Type 0 where
  pub number : outcome_number outcome.0 ≡ outcome_number acted
  pub len : outcome.1 ≡ result_unwrap_or acted 0

split : (c : Joined-act) → IsSplit c.match-act.outcome c.act.result
split c =
    elim c.match-act.branch [
      | in-Ok w ↦ rw (w.outcome-is, w.in-Ok.is) (record { number = refl; len = refl })
      | in-Err w ↦ rw (w.outcome-is, w.in-Err.is) (record { number = refl; len = refl })
    ]

-- the body is short
body-short : (c : Joined-act) → 4 + c.match-act.outcome.1 ≤ answer_limit
body-short c =
    let a = c.args in
    rw (split c).len
    (subst (λ (x : ActionResult). 4 + x.reply.body.count ≤ answer_limit) (sym c.act.ensures)
    (action-short a.msg.now a.board.now a.out.now (board-bytes (goal.at.Joined-act c).After-slice_known-2-1) c.requires.0 c.requires.1))

pub overflow_add-answer : goal.overflow_add-answer
overflow_add-answer c = omega (arith, body-short c)

pub overflow_add-len : goal.overflow_add-len
overflow_add-len c = omega (arith, body-short (goal.at.overflow_add-len c).Joined-act)

pub returns : goal.returns
returns c =
    let a = c.args in
    let shown = split (goal.at.returns c).Joined-act in
    let r = c.match-act.outcome in
    let o : List ℕ = c.act.new.out in
    let l : length o ≡ length a.out.now = c.act.auto.out in
    let h = c.requires.1 in
    (λ i. record {
      number = outcome_number r.0;
      written = 4 + r.1;
      board = c.act.new.board;
      buffer = head_placed o (outcome_number r.0) r.1 (omega arith) c.write_number.ensures
          (c.write_number-2.ensures ∙ ap (λ (k : ℕ). write_at c.write_number.new.b 2 (to_le_bytes 2 k)) c.number.ensures) i;
    })
    ∙ (λ i. headed (record { reply = record { number = shown.number i; body = bytes_written (shown.len i) o }; board = c.act.new.board }))
    ∙ ap headed c.act.ensures
    ∙ sym (step_headed a.msg.now a.board.now a.out.now (board-bytes (goal.at.returns c).After-slice_known-2-1) c.requires.0 h)
