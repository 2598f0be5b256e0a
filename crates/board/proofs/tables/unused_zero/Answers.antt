-- `unused_zero` meets its contract: the records behind the used ones are one run of bytes.
use Prim.Native.Nat.{◌+◌, ◌-◌, ◌*◌}
use mathlib.Core.Path.{sym, ap, ◌∙◌}
use lib.ListN.{length}
use Rattle.layout.specs.Bytes.{all_zero}
use Rattle.model.specs.Lists.{for_all}
use Rattle.model.proofs.CutLaws.{drop-table, zero-pieces}
use Rattle.board.proofs.tables.unused_zero.Goals as goal

pub returns : goal.returns
returns g c =
    let a = c.args in
    let n = length a.used.now in
    c.all_zero.ensures
    ∙ sym (ap (for_all all_zero) (drop-table a.bytes.now g.row.SIZE a.limit a.base n c.requires.0)
    ∙ zero-pieces a.bytes.now g.row.SIZE (a.limit - n) (a.base + n * g.row.SIZE))
