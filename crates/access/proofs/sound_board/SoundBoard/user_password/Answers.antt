-- `user_password` meets its contract: the field stands in the record of the slot, and is 0 where there is none.
use Prim.Native.Nat.{ℕ, ◌<◌}
use native.Mathlib.Omega.{arith}
use mathlib.Core.Path.{refl, ap, ◌∙◌}
use lib.ListN.{length}
use Rattle.reader.specs.Fields.{number_in}
use Rattle.model.specs.State.{User, no_user, user_at}
use Rattle.model.specs.Board.{decode}
use Rattle.model.proofs.ReadingLaws.{read-user-password}
use Rattle.access.proofs.RecordReads.{field_beyond}
use Rattle.access.proofs.TableReads.{count_below, field-within}
use Rattle.access.specs.declared.tables.Table.TheVariants.{Users}
use Rattle.access.proofs.sound_board.SoundBoard.user_password.Goals as goal

pub returns-then-count-i : goal.returns-then-count-i
unfolding user_at
returns-then-count-i c =
    field_beyond (λ (x : User). x.password) no_user refl (decode c.args.self.now.bytes.now).users c.args.i (omega arith)

pub field_at-requires : goal.field_at-requires
field_at-requires c = (omega (arith, count_below c.args.self.now.sound Users), omega arith)

pub read_u64-requires : goal.read_u64-requires
read_u64-requires c = omega (arith, field-within c.args.self.now.sound Users c.args.i 4 8 (omega arith) (omega arith), c.field_at.ensures)

pub returns : goal.returns
returns c =
    let h : c.args.i < length (decode c.args.self.now.bytes.now).users = omega arith in
    c.read_u64.ensures ∙ ap (λ (at : ℕ). number_in c.args.self.now.bytes.now at 8) c.field_at.ensures ∙ read-user-password c.args.self.now.sound.encoded c.args.i h
