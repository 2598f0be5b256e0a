-- `add_post` meets its contract: four writes within the board, one behind the other.
use Prim.Native.Nat.{◌+◌, ◌*◌}
use native.Mathlib.Omega.{arith}
use mathlib.Core.Path.{refl}
use Rattle.reader.specs.Fields.{title_limit}
use Rattle.changes.proofs.BoardWrites.{then_number, then_string}
use Rattle.changes.proofs.creations.add_post.Goals as goal

pub returns : goal.returns
returns c =
    let a = c.args in
    let first = then_number refl 2 refl 2 (a.n + 1) (omega arith) c.write_number.ensures in
    let second = then_number first (3344 + a.n * 312) refl 4 a.number (omega arith) c.write_number-2.ensures in
    let third = then_number second (3344 + a.n * 312 + 8) refl 2 a.owner (omega arith) c.write_number-3.ensures in
    then_string third (3344 + a.n * 312 + 12) refl title_limit a.title.now c.requires.3 (omega arith) c.write_string.ensures
