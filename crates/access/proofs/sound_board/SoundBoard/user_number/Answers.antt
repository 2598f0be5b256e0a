-- `user_number` meets its contract: the field stands in the record of the slot, and is 0 where there is none.
use native.Mathlib.Nat.{add-zero}
use mathlib.Core.Path.{refl}
use Rattle.model.specs.State.{User}
use Rattle.model.specs.Board.{decode}
use Rattle.model.proofs.ReadingLaws.{read-user_number}
use Rattle.access.proofs.RecordReads.{user-field}
use Rattle.access.proofs.sound_board.SoundBoard.user_number.Goals as goal

pub returns : goal.returns
returns c =
    user-field (decode c.args.self.now.bytes.now) c.args.i (λ (x : User). x.number) refl
    (λ h. rw add-zero (read-user_number c.args.self.now.sound.encoded c.args.i h)) c.field_u32.ensures
