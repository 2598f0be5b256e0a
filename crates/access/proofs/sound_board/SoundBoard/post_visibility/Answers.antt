-- `post_visibility` meets its contract: the field stands in the record of the post, and is 0 where there is none.
use mathlib.Core.Path.{refl}
use Rattle.model.specs.State.{Post}
use Rattle.model.specs.Board.{decode}
use Rattle.model.proofs.ReadingLaws.{read-post-visibility}
use Rattle.access.proofs.RecordReads.{post-field}
use Rattle.access.proofs.sound_board.SoundBoard.post_visibility.Goals as goal

pub returns : goal.returns
returns c =
    post-field (decode c.args.self.now.bytes.now) c.args.i (λ (x : Post). x.visibility) refl
    (read-post-visibility c.args.self.now.sound.encoded c.args.i) c.field_u16.ensures
