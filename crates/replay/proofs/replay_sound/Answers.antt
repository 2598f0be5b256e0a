-- `replay_sound` meets its contract: from a sound board the replay of the rest is that of the whole.
use Rattle.replay.proofs.ReplayLaws.{board-sound}
use Rattle.replay.proofs.replay_sound.Goals as goal

pub returns : goal.returns
returns c =
    board-sound _ _ _ c.requires c.replay_rest.ensures
