-- The state of a board that is known to be sound.
use Rattle.model.specs.State.{State}
use Rattle.model.specs.Board.{decode}
use Rattle.access.specs.declared.sound_board.SoundBoard.{SoundBoard}

abbrev pub state_of : SoundBoard → State
state_of b = decode b.bytes.now
