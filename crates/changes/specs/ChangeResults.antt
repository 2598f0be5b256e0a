-- What the function of a change has returned and left on the board, and what it must be on a sound board.
use Rattle.std.specs.Prelude.{ℕ, List, cond, eqb, Result}
use Rattle.model.specs.Board.{encode, decode}
use Rattle.model.specs.Actions.{Change}
use Rattle.model.specs.Refusals.{change_refusals, first_number}
use Rattle.model.specs.Changes.{apply_change}
use Rattle.access.specs.Refusals.{result_number}
use Rattle.access.specs.declared.refusals.Refusal.{Refusal}

pub record ChangeResult : Type 0 where
  pub number : ℕ
  pub board : List ℕ

abbrev pub returned : ℕ → List ℕ → ChangeResult
returned number b = record { number = number; board = b }

abbrev pub changed : {A : Type 0} → Result A Refusal → List ℕ → ChangeResult
changed result b = returned (result_number result) b

-- "A refusal leaves the board as it was."
unfoldable pub change_result : List ℕ → Change → ChangeResult
change_result b c =
    let number : ℕ = first_number (change_refusals (decode b) c) in
    returned number (cond (eqb number 0) (encode (apply_change (decode b) c)) b)
