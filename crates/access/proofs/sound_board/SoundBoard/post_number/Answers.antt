-- `post_number` meets its contract: the field stands in the record of the post, and is 0 where there is none.
use native.Mathlib.Nat.{add-zero}
use mathlib.Core.Path.{refl}
use Rattle.model.specs.State.{Post}
use Rattle.model.specs.Board.{decode}
use Rattle.model.proofs.ReadingLaws.{read-post_number}
use Rattle.access.proofs.RecordReads.{post-field}
use Rattle.access.proofs.sound_board.SoundBoard.post_number.Goals as goal

pub returns : goal.returns
returns c =
    post-field (decode c.args.self.now.bytes.now) c.args.i (λ (x : Post). x.number) refl
    (λ h. rw add-zero (read-post_number c.args.self.now.sound.encoded c.args.i h)) c.field_u32.ensures
