-- What the functions for C return, and leave in the slices that they were lent.
use Rattle.std.specs.Prelude.{ℕ, ◌/◌, ◌%◌, List, ◌++◌, cond, length, eqb}
use Rattle.layout.specs.Bytes.{bytes_at}
use Rattle.layout.specs.Numbers.{to_le_bytes, from_le_bytes}
use Rattle.model.specs.Step.{StepResult}
use Rattle.model.specs.Replay.{ReplayResult, replay_of}
use Rattle.writer.specs.Encoding.{WriteResult}

-- one number for both: how much was written, above sixteen bits for the number
abbrev pub step_called : ℕ → List ℕ → List ℕ → StepResult
step_called r b o = record { number = r % 65536; written = r / 65536; board = b; buffer = o }

abbrev pub write_called : ℕ → List ℕ → WriteResult
write_called r b = record { number = r % 65536; written = r / 65536; buffer = b }

-- the number returned, the board, the answer buffer and the counts
pub record ReplayCall : Type 0 where
  pub number : ℕ
  pub board : List ℕ
  pub buffer : List ℕ
  pub counts : List ℕ

abbrev pub replay_called : ℕ → List ℕ → List ℕ → List ℕ → ReplayCall
replay_called r b o c = record { number = r; board = b; buffer = o; counts = c }

-- three numbers of eight bytes: messages done, journal bytes passed, answer bytes written
abbrev pub counts_size : ℕ
counts_size = 24

unfoldable pub count_bytes : ReplayResult → List ℕ
count_bytes x = to_le_bytes 8 x.messages ++ (to_le_bytes 8 x.passed ++ to_le_bytes 8 x.written)

-- the refusal of counts that have another length
abbrev pub wrong_counts : ℕ
wrong_counts = 255

unfoldable pub replay_call_of : List ℕ → List ℕ → List ℕ → List ℕ → ReplayCall
replay_call_of j b o c =
    let x : ReplayResult = replay_of j b o in
    cond (eqb (length c) counts_size) (replay_called x.stop x.board x.buffer (count_bytes x)) (replay_called wrong_counts b o c)

-- the result of a replay as its caller reads it from the number returned, the board, the answer buffer and the counts
abbrev pub call_result : ℕ → List ℕ → List ℕ → List ℕ → ReplayResult
call_result r b o c = record {
  stop = r;
  messages = from_le_bytes (bytes_at c 0 8);
  passed = from_le_bytes (bytes_at c 8 8);
  written = from_le_bytes (bytes_at c 16 8);
  board = b;
  buffer = o;
}
