-- What a function returns that refuses a change, and one that has made it.
use Prim.Native.Nat.{ℕ}
use mathlib.Core.Path.{◌≡◌, sym, ap, ap₂, ◌∙◌}
use mathlib.Core.List.{List}
use mathlib.Core.Bool.{Bool, false, cond}
use lib.Dec.{eqb}
use borrow.Author.Tests.{eq-eqb, ne_eqb}
use Rattle.std.specs.Prelude.{Result, IsErrAnd}
use Rattle.access.specs.Refusals.{refusal_number}
use Rattle.access.specs.declared.refusals.Refusal.{Refusal}
use Rattle.access.proofs.RefusalLaws.{refusal_counts, handed_up}
use Rattle.model.specs.Board.{encode, decode}
use Rattle.model.specs.Actions.{Change}
use Rattle.model.specs.Refusals.{change_refusals, first_number}
use Rattle.model.specs.Changes.{apply_change}
use Rattle.model.proofs.BoardTheorems.{Encodes}
use Rattle.changes.specs.ChangeResults.{returned, changed, change_result}

module _ (b : List ℕ) (c : Change) where
  pub change-refused : {number : ℕ} → number ≡ first_number (change_refusals (decode b) c) → (number ≡ 0 → ⊥) → returned number b ≡ change_result b c
  unfolding change_result
  change-refused {number = number} e n =
      let k : ℕ = first_number (change_refusals (decode b) c) in
      let refused : eqb k 0 ≡ false = ne_eqb k 0 (λ q. n (e ∙ q)) in
      ap₂ returned e (sym (ap (λ (t : Bool). cond t (encode (apply_change (decode b) c)) b) refused))

  -- a refusal that `?` hands up
  pub change-handed_up : {A : Type 0} (up : Result A Refusal) (r : Refusal) → IsErrAnd up (λ x. x ≡ r)
      → refusal_number r ≡ first_number (change_refusals (decode b) c) → changed up b ≡ change_result b c
  change-handed_up up r h e =
      let number = handed_up up r h in
      change-refused (number ∙ e) (λ z. refusal_counts r (sym number ∙ z))

  -- x is the board that the code has written
  pub change-accepted : {after x : List ℕ} → 0 ≡ first_number (change_refusals (decode b) c) → after ≡ x → Encodes x (apply_change (decode b) c)
      → returned 0 after ≡ change_result b c
  unfolding change_result
  change-accepted e f w =
      let k : ℕ = first_number (change_refusals (decode b) c) in
      ap₂ returned e (f ∙ w.bytes ∙ sym (ap (λ (t : Bool). cond t (encode (apply_change (decode b) c)) b) (eq-eqb k 0 (sym e))))
