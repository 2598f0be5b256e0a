-- `user_friends` meets its contract: the field stands in the record of the slot, and is 0 where there is none.
use mathlib.Core.Path.{refl}
use Rattle.model.specs.State.{User}
use Rattle.model.specs.Board.{decode}
use Rattle.model.proofs.ReadingLaws.{read-user-friends}
use Rattle.access.proofs.RecordReads.{user-field}
use Rattle.access.proofs.sound_board.SoundBoard.user_friends.Goals as goal

pub returns : goal.returns
returns c =
    user-field (decode c.args.self.now.bytes.now) c.args.i (λ (x : User). x.friends) refl
    (read-user-friends c.args.self.now.sound.encoded c.args.i) c.field_u32.ensures
