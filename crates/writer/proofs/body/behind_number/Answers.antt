-- `behind_number` meets its contract: the reader's test decides, and a number that is there ends within the body.
use Prim.Native.Nat.{ℕ, ◌+◌}
use native.Mathlib.Omega.{arith}
use mathlib.Core.Path.{ap}
use Rattle.layout.proofs.BooleanLaws.{test_fails, test_holds}
use Rattle.reader.specs.Fields.{field_end}
use Rattle.reader.proofs.FieldLaws.{is_there, is_none, number_width}
use Rattle.writer.specs.Table.{place_behind}
use Rattle.writer.specs.Words.{word_count}
use Rattle.writer.specs.declared.body.Place.{Place}
use Rattle.writer.proofs.body.behind_number.Goals as goal

pub returns-then-not-number_fits : goal.returns-then-not-number_fits
returns-then-not-number_fits c = is_none _ (test_fails c.number_fits.ensures c.if-not-number_fits.true)

pub overflow_add-result : goal.overflow_add-result
overflow_add-result c = let h = number_width _ _ _ _ _ (test_holds c.number_fits.ensures c.if-not-number_fits.false) in omega arith

pub returns : goal.returns
unfolding place_behind field_end word_count
returns c =
    let p = c.args.place in
    is_there (test_holds c.number_fits.ensures c.if-not-number_fits.false)
    (ap (λ (n : ℕ). let q : Place = record { at = p.at + n; words = p.words + 1 } in q) c.bytes.ensures)
