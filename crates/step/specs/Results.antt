-- What `step` has returned, and left on the board and in the buffer.
use Rattle.std.specs.Prelude.{ℕ, List, Result, Ok, Err}
use Rattle.reader.specs.Messages
use Rattle.access.specs.Refusals
use Rattle.model.specs.Step.{StepResult}
use Rattle.step.specs.declared.Answer.{Answer}
use Rattle.step.specs.declared.Refusal.{Refusal}
use Rattle.step.specs.declared.Refusal.TheVariants.{BoardUnsound, BufferShort, Message, Action}

-- the number of each refusal
abbrev pub refusal_number : Refusal → ℕ
refusal_number BoardUnsound = 1
refusal_number BufferShort = 2
refusal_number (Message refusal) = Messages.refusal_number refusal
refusal_number (Action refusal) = Refusals.refusal_number refusal

-- the number returned, 0 for accepted
abbrev pub outcome_number : {A : Type 0} → Result A Refusal → ℕ
outcome_number (Ok x) = 0
outcome_number (Err refusal) = refusal_number refusal

abbrev pub stepped : Answer → List ℕ → List ℕ → StepResult
stepped r b o = record { number = outcome_number r.outcome; written = r.written; board = b; buffer = o }
