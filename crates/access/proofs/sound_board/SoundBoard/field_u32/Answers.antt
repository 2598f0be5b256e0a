-- `field_u32` meets its contract: a record below the count lies within the board, and so does its field.
use native.Mathlib.Omega.{arith}
use Rattle.access.proofs.TableReads.{count_below, field-within}
use Rattle.access.proofs.sound_board.SoundBoard.field_u32.Goals as goal

pub field_at-requires : goal.field_at-requires
field_at-requires c = (omega (arith, count_below c.args.self.now.sound c.args.table), omega (arith, c.requires))

pub read_u32-requires : goal.read_u32-requires
read_u32-requires c =
    let a = c.args in
    rw c.field_at.ensures (field-within c.args.self.now.sound a.table a.i a.field 4 (omega arith) c.requires)
