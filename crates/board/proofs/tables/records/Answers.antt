-- `records` meets its contract: the part of the table, cut into arrays.
use native.Mathlib.Omega.{arith}
use mathlib.Core.Path.{◌∙◌}
use Rattle.board.proofs.RecordPlaces.{chunks-records}
use Rattle.board.proofs.tables.records.Goals as goal

pub returns : goal.returns
returns g c =
    let a = c.args in
    c.as_chunks.ensures.front ∙ chunks-records a.bytes.now a.base g.row.SIZE a.n _ c.requires.0 c.requires.1 (omega arith)
