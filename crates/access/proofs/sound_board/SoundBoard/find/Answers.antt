-- `find` meets its contract: it searches the numbers of the table, and a number that is there has a place below the count.
use Prim.Native.Nat.{◌≤◌}
use mathlib.Core.Path.{refl, sym, ap, ap₂, ◌∙◌}
use lib.Dec.{lit≤}
use Rattle.layout.specs.Search.{index_of, place_below}
use Rattle.layout.specs.Tables.{record_numbers}
use Rattle.layout.specs.declared.table.Records.{Records}
use Rattle.access.specs.Tables.{record_size, place_if}
use Rattle.access.specs.declared.tables.Table.{Table}
use Rattle.access.specs.declared.tables.Table.TheVariants.{Users, Posts, Pending}
use Rattle.access.proofs.TableReads.{records-within, place-found, test_found}
use Rattle.access.proofs.sound_board.SoundBoard.find.Goals as goal

number_fits : (t : Table) → 4 ≤ record_size t
number_fits Users = lit≤ tt
number_fits Posts = lit≤ tt
number_fits Pending = lit≤ tt

pub find-requires : goal.find-requires
find-requires c = rw (c.records.ensures, c.count.ensures) (number_fits c.args.table, records-within c.args.self.now.sound c.args.table)

pub returns : goal.returns
returns c =
    let a = c.args in
    let w = a.self.now.sound in
    c.find.ensures
    ∙ ap (λ (r : Records). place_below c.count.result (index_of a.number (record_numbers a.self.now.bytes.now r.base r.size c.count.result))) c.records.ensures
    ∙ ap₂ place_if (sym (test_found w a.table a.number c.count.ensures refl)) (place-found w a.table a.number c.count.ensures refl)
