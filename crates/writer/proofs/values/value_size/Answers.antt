-- `value_size` meets its contract: each field has the size of a number of its width and bounds, or of a string.
use Prim.Native.Nat.{ℕ}
use mathlib.Core.Path.{sym, ap, ◌∙◌}
use mathlib.Core.List.{List}
use Rattle.std.specs.Prelude.{Option}
use Rattle.std.specs.Bool.{then_some}
use Rattle.writer.specs.Table.{field_type, words_fit, words_size}
use Rattle.writer.specs.declared.table.Field.{Field}
use Rattle.writer.proofs.values.value_size.Goals as goal

abbrev size_of : List ℕ → List ℕ → Field → Option ℕ
size_of lent ws f = then_some (words_fit lent (field_type f) ws) (words_size (field_type f) ws)

pub returns-in-StaffNumber : goal.returns-in-StaffNumber
unfolding words_size
returns-in-StaffNumber c = c.number_size.ensures c.args.lent.now ∙ ap (size_of c.args.lent.now c.args.words.now) (sym c.in-StaffNumber.is)

pub returns-in-Password : goal.returns-in-Password
unfolding words_size
returns-in-Password c = c.number_size-in-Password.ensures c.args.lent.now ∙ ap (size_of c.args.lent.now c.args.words.now) (sym c.in-Password.is)

pub returns-in-Picture : goal.returns-in-Picture
unfolding words_size
returns-in-Picture c = c.number_size-in-Picture.ensures c.args.lent.now ∙ ap (size_of c.args.lent.now c.args.words.now) (sym c.in-Picture.is)

pub returns-in-Visibility : goal.returns-in-Visibility
unfolding words_size
returns-in-Visibility c = c.number_size-in-Visibility.ensures c.args.lent.now ∙ ap (size_of c.args.lent.now c.args.words.now) (sym c.in-Visibility.is)

pub returns-in-Text : goal.returns-in-Text
returns-in-Text c = c.string_size.ensures ∙ ap (size_of c.args.lent.now c.args.words.now) (sym c.in-Text.is)
