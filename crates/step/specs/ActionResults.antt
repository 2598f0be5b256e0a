-- What the private function `act` gives, the result of a change, of a query or of a refused message; the contract of `step` does not use it.
use Rattle.std.specs.Prelude.{ℕ, List, Result}
use Rattle.std.specs.Result.{result_unwrap_or}
use Rattle.layout.specs.Bytes.{bytes_written}
use Rattle.reader.specs.Messages.{refusal_number}
use Rattle.model.specs.Actions.{Action, change, query, refused}
use Rattle.changes.specs.ChangeResults.{change_result}
use Rattle.access.specs.declared.refusals.Refusal.{Refusal as ActionRefusal}
use Rattle.queries.specs.QueryResults.{QueryResult, replied, query_result}
use Rattle.step.specs.Results.{outcome_number}
use Rattle.step.specs.declared.Refusal.{Refusal}

pub record ActionResult : Type 0 where
  pub reply : QueryResult
  pub board : List ℕ

-- what the function of an action has returned, and left on the board and in the buffer; a refusal has no body
abbrev pub performed : Result ℕ ActionRefusal → List ℕ → List ℕ → ActionResult
performed r b o = record { reply = replied r o; board = b }

-- .. and `act`
abbrev pub acted : Result ℕ Refusal → List ℕ → List ℕ → ActionResult
acted r b o = record { reply = record { number = outcome_number r; body = bytes_written (result_unwrap_or r 0) o }; board = b }

-- "no body for changes"
unfoldable pub action_result : List ℕ → Action → List ℕ → ActionResult
action_result b (change c) o = record { reply = record { number = (change_result b c).number; body = bytes_written 0 o }; board = (change_result b c).board }
action_result b (query q) o = record { reply = query_result b q o; board = b }
action_result b (refused refusal) o = record { reply = record { number = refusal_number refusal; body = bytes_written 0 o }; board = b }
