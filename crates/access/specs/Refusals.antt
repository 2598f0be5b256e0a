-- The numbers of refusals, as the table of refusals has them, and of the results of functions that refuse.
use Rattle.std.specs.Prelude.{ℕ, Result, Ok, Err}
use Rattle.access.specs.declared.refusals.Refusal.{Refusal}
use Rattle.access.specs.declared.refusals.Refusal.TheVariants.{WrongStart, WrongLogin, NotAdmin, Missing, NotEntitled, AlreadyThere, Full}

abbrev pub refusal_number : Refusal → ℕ
refusal_number WrongStart = 6
refusal_number WrongLogin = 7
refusal_number NotAdmin = 8
refusal_number Missing = 9
refusal_number NotEntitled = 10
refusal_number AlreadyThere = 11
refusal_number Full = 12

-- 0 where nothing is refused
abbrev pub result_number : {A : Type 0} → Result A Refusal → ℕ
result_number (Ok x) = 0
result_number (Err refusal) = refusal_number refusal
