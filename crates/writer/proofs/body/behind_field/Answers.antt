-- `behind_field` meets its contract: each field ends as a number of its width and bounds, or as a string.
use mathlib.Core.Path.{sym, ap, ◌∙◌}
use Rattle.std.specs.Prelude.{Option}
use Rattle.std.specs.Bool.{then_some}
use Rattle.reader.specs.Fields.{field_fits}
use Rattle.writer.specs.Table.{field_type, place_behind}
use Rattle.writer.specs.declared.body.Place.{Place}
use Rattle.writer.specs.declared.table.Field.{Field}
use Rattle.writer.proofs.body.behind_field.Goals as goal
use Rattle.writer.proofs.body.behind_field.Goals.{Start}

abbrev behind : Start → Field → Option Place
behind c f = then_some (field_fits (field_type f) c.args.body.now c.args.place.at) (place_behind (field_type f) c.args.body.now c.args.place)

pub returns-in-StaffNumber : goal.returns-in-StaffNumber
returns-in-StaffNumber c = c.behind_number.ensures ∙ ap (behind (goal.at.returns-in-StaffNumber c).Start) (sym c.in-StaffNumber.is)

pub returns-in-Password : goal.returns-in-Password
returns-in-Password c = c.behind_number-in-Password.ensures ∙ ap (behind (goal.at.returns-in-Password c).Start) (sym c.in-Password.is)

pub returns-in-Picture : goal.returns-in-Picture
returns-in-Picture c = c.behind_number-in-Picture.ensures ∙ ap (behind (goal.at.returns-in-Picture c).Start) (sym c.in-Picture.is)

pub returns-in-Visibility : goal.returns-in-Visibility
returns-in-Visibility c = c.behind_number-in-Visibility.ensures ∙ ap (behind (goal.at.returns-in-Visibility c).Start) (sym c.in-Visibility.is)

pub returns-in-Text : goal.returns-in-Text
returns-in-Text c = c.behind_string.ensures ∙ ap (behind (goal.at.returns-in-Text c).Start) (sym c.in-Text.is)
