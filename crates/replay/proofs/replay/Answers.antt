-- `replay` meets its contract: a board that is not sound stops it, and on a sound one it is `replay_sound`.
use Rattle.layout.proofs.BooleanLaws.{test_fails, test_holds}
use Rattle.replay.proofs.ReplayLaws.{board_unsound}
use Rattle.replay.proofs.replay.Goals as goal

pub returns-then-not-sound : goal.returns-then-not-sound
returns-then-not-sound c = board_unsound _ _ _ c.stopped.ensures (test_fails c.sound.ensures c.if-not-sound.true)

pub replay_sound-requires : goal.replay_sound-requires
replay_sound-requires c = test_holds c.sound.ensures c.if-not-sound.false
