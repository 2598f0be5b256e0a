-- `add_user` meets its contract: three writes within the board, one behind the other.
use Prim.Native.Nat.{◌+◌, ◌*◌}
use native.Mathlib.Omega.{arith}
use mathlib.Core.Path.{refl}
use Rattle.changes.proofs.BoardWrites.{then_number}
use Rattle.changes.proofs.creations.add_user.Goals as goal

pub returns : goal.returns
returns c =
    let a = c.args in
    let first = then_number refl 0 refl 2 (a.n + 1) (omega arith) c.write_number.ensures in
    let second = then_number first (16 + a.n * 104) refl 4 a.u (omega arith) c.write_number-2.ensures in
    then_number second (16 + a.n * 104 + 4) refl 8 a.password (omega arith) c.write_number-3.ensures
