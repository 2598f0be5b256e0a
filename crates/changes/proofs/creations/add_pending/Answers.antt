-- `add_pending` meets its contract: three writes within the board, one behind the other.
use Prim.Native.Nat.{◌+◌, ◌*◌}
use native.Mathlib.Omega.{arith}
use mathlib.Core.Path.{refl}
use Rattle.reader.specs.Fields.{note_limit}
use Rattle.changes.proofs.BoardWrites.{then_number, then_string}
use Rattle.changes.proofs.creations.add_pending.Goals as goal

pub returns : goal.returns
returns c =
    let a = c.args in
    let first = then_number refl 4 refl 2 (a.n + 1) (omega arith) c.write_number.ensures in
    let second = then_number first (23312 + a.n * 32) refl 4 a.u (omega arith) c.write_number-2.ensures in
    then_string second (23312 + a.n * 32 + 4) refl note_limit a.note.now c.requires.2 (omega arith) c.write_string.ensures
