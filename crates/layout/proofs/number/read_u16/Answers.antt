-- `read_u16` meets its contract: the library's sum of the bytes in an array is the number (`from_array`).
use mathlib.Core.Path.{◌∙◌}
use Rattle.layout.proofs.NumberLaws.{from_array}
use Rattle.layout.proofs.number.read_u16.Goals as goal

pub returns : goal.returns
returns c =
    let a = c.args in
    c.from_le_bytes.ensures ∙ from_array a.b.now a.at 1 c.requires (rw c.unwrap.ensures at c.try_into.ensures).1
