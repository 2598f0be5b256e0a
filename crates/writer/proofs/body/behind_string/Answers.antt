-- `behind_string` meets its contract: the reader's test decides, and a string that is there ends within the body.
use Prim.Native.Nat.{ℕ, ◌+◌}
use native.Mathlib.Omega.{arith}
use mathlib.Core.Path.{◌≡◌, ap}
use mathlib.Core.Bool.{true}
use Rattle.layout.proofs.BooleanLaws.{test_fails, test_holds}
use Rattle.reader.specs.Fields.{string, field_fits, field_end}
use Rattle.reader.proofs.FieldLaws.{is_there, is_none, string-length, string_end}
use Rattle.writer.specs.Table.{place_behind}
use Rattle.writer.specs.Words.{word_count}
use Rattle.writer.specs.declared.body.Place.{Place}
use Rattle.writer.proofs.body.behind_string.Goals as goal
use Rattle.writer.proofs.body.behind_string.Goals.{Else-not-string_fits}

fits : (c : Else-not-string_fits) → field_fits (string c.args.limit) c.args.body.now c.args.place.at ≡ true
fits c = test_holds c.string_fits.ensures c.if-not-string_fits.false

pub returns-then-not-string_fits : goal.returns-then-not-string_fits
returns-then-not-string_fits c = is_none _ (test_fails c.string_fits.ensures c.if-not-string_fits.true)

pub overflow_add-result : goal.overflow_add-result
overflow_add-result c = let h = string-length _ _ _ (fits (goal.at.overflow_add-result c).Else-not-string_fits) in omega arith

pub read_u16-requires : goal.read_u16-requires
read_u16-requires c = string-length _ _ _ (fits (goal.at.read_u16-requires c).Else-not-string_fits)

pub overflow_add-result-2 : goal.overflow_add-result-2
overflow_add-result-2 c = omega (arith, string_end _ _ _ (fits (goal.at.overflow_add-result-2 c).Else-not-string_fits), c.read_u16.ensures)

pub returns : goal.returns
unfolding place_behind field_end word_count
returns c =
    let p = c.args.place in
    is_there (fits (goal.at.returns c).Else-not-string_fits)
    (ap (λ (n : ℕ). let q : Place = record { at = p.at + 2 + n; words = p.words + 2 } in q) c.read_u16.ensures)
