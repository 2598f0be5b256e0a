-- How the functions of the changes decide: from row to row, where the rows that are left give the number of all of them.
use Prim.Native.Nat.{ℕ}
use mathlib.Core.Path.{◌≡◌, refl, sym, ◌∙◌}
use mathlib.Core.List.{List, [], ◌∷◌, ◌++◌}
use mathlib.Core.Bool.{Bool, true, false}
use mathlib.Core.Option.{some, some-ne-none}
use lib.ListN.{drop}
use Rattle.std.specs.Prelude.{Result, IsErrAnd}
use Rattle.access.specs.Refusals.{refusal_number}
use Rattle.access.specs.declared.refusals.Refusal.{Refusal}
use Rattle.model.specs.Board.{decode}
use Rattle.model.specs.Actions.{Cause, Change}
use Rattle.model.specs.Refusals.{cause_number, RefusalRow, change_refusals, first_cause, first_number}
use Rattle.model.specs.Changes.{apply_change}
use Rattle.model.proofs.BoardTheorems.{Encodes}
use Rattle.model.proofs.RefusalTheorems.{no_cause}
use Rattle.changes.specs.ChangeResults.{returned, changed, change_result}
use Rattle.access.proofs.RefusalLaws.{row_applies, row-passes, rows_pass, earlier_refuse}
use Rattle.changes.proofs.ChangeLaws.{change-refused, change-handed_up, change-accepted}

-- the rows left of those of a change, behind rows that do not apply
pub record RowsLeft (b : List ℕ) (c : Change) (rows : List RefusalRow) : Type 0 where
  pub same_number : first_number rows ≡ first_number (change_refusals (decode b) c)

-- those behind the first k
abbrev pub RowsBehind : List ℕ → Change → ℕ → Type 0
RowsBehind b c k = RowsLeft b c (drop k (change_refusals (decode b) c))

pub all_rows : (b : List ℕ) (c : Change) → RowsLeft b c (change_refusals (decode b) c)
all_rows b c = record { same_number = refl }

module _ {b : List ℕ} {c : Change} where
  -- the next row
  module _ {cause : Cause} {t : Bool} {rows : List RefusalRow} (left : RowsLeft b c ((cause, t) ∷ rows)) where
    pub refused-here : t ≡ true → returned (cause_number cause) b ≡ change_result b c
    refused-here e =
        change-refused b c (sym (row_applies cause rows e) ∙ left.same_number) (λ z. some-ne-none cause (no_cause (some cause) z))

    pub passed_here : t ≡ false → RowsLeft b c rows
    passed_here e = record { same_number = sym (row-passes cause rows e) ∙ left.same_number }

  -- several rows first, which a function has tested: its refusal handed up, or none
  module _ (first rest : List RefusalRow) (left : RowsLeft b c (first ++ rest)) where
    pub refused_first : {A : Type 0} (up : Result A Refusal) (r : Refusal) → IsErrAnd up (λ x. x ≡ r) → refusal_number r ≡ first_number first
        → changed up b ≡ change_result b c
    refused_first up r h e = change-handed_up b c up r h (earlier_refuse first rest r e ∙ left.same_number)

    pub passed_first : 0 ≡ first_number first → RowsLeft b c rest
    passed_first e = record { same_number = sym (rows_pass first rest (sym e)) ∙ left.same_number }

  -- no row is left, and x is the board that the code has written
  pub accepted-here : {after x : List ℕ} → RowsLeft b c [] → after ≡ x → Encodes x (apply_change (decode b) c) → returned 0 after ≡ change_result b c
  unfolding first_number first_cause
  accepted-here left e w = change-accepted b c left.same_number e w
