-- What `replay` has returned, and left on the board and in the buffer.
use Rattle.std.specs.Prelude.{ℕ, List}
use Rattle.model.specs.Replay.{ReplayResult}
use Rattle.replay.specs.declared.Replayed.{Replayed}
use Rattle.replay.specs.declared.Stop.{Stop}
use Rattle.replay.specs.declared.Stop.TheVariants.{JournalUsed, BoardUnsound, BufferShort, FrameCut}

-- the number of each stop
abbrev pub stop_number : Stop → ℕ
stop_number JournalUsed = 0
stop_number BoardUnsound = 1
stop_number BufferShort = 2
stop_number FrameCut = 3

abbrev pub replayed : Replayed → List ℕ → List ℕ → ReplayResult
replayed r b o = record {
  stop = stop_number r.stop;
  messages = r.messages;
  passed = r.passed;
  written = r.written;
  board = b;
  buffer = o;
}
