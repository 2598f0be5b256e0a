-- What the function of a query has returned and left in the buffer, and what it must be on a sound board. The body of the answer is written
-- behind the frame's head of four bytes, which the step adds.
use Rattle.std.specs.Prelude.{ℕ, List, [], map, cond, eqb, Result}
use Rattle.std.specs.Result.{result_unwrap_or}
use Rattle.layout.specs.Bytes.{BytesWritten, bytes_written, put_bytes}
use Rattle.layout.specs.Bits.{set_places}
use Rattle.model.specs.State.{State, user_limit, post_at, pending_at}
use Rattle.model.specs.Board.{decode}
use Rattle.model.specs.Actions.{Query}
use Rattle.model.specs.Refusals.{RefusalRow, query_refusals, first_number}
use Rattle.model.specs.Answers.{answer_body, users_in}
use Rattle.access.specs.declared.tables.Table.{Table}
use Rattle.access.specs.declared.tables.Table.TheVariants.{Users, Posts, Pending}
use Rattle.access.specs.Refusals.{result_number}
use Rattle.access.specs.declared.refusals.Refusal.{Refusal}

-- how many bytes the head of a frame has: its length and its kind
abbrev pub head_size : ℕ
head_size = 4

pub record QueryResult : Type 0 where
  pub number : ℕ
  pub body : BytesWritten

-- a refusal has no body
abbrev pub replied : Result ℕ Refusal → List ℕ → QueryResult
replied r o = record { number = result_number r; body = bytes_written (result_unwrap_or r 0) o }

-- the number of the first row that applies; the body is x where none does, and empty where one does
unfoldable pub reply_to : List RefusalRow → List ℕ → List ℕ → QueryResult
reply_to rows x o =
    let number : ℕ = first_number rows in
    record { number = number; body = put_bytes o head_size (cond (eqb number 0) x []) }

unfoldable pub query_result : List ℕ → Query → List ℕ → QueryResult
query_result b q o = reply_to (query_refusals (decode b) q) (answer_body (decode b) q) o

-- the numbers of the records of a table whose bits are set in a row, the first 32 at most
abbrev pub numbers_in : State → Table → ℕ → List ℕ
numbers_in s Users row = users_in s row
numbers_in s Posts row = map (λ (j : ℕ). (post_at s j).number) (set_places row user_limit)
numbers_in s Pending row = map (λ (j : ℕ). (pending_at s j).number) (set_places row user_limit)
