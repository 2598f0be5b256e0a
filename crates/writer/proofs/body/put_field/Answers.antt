-- `put_field` meets its contract: a number is one word, and a string two, one behind the other.
use Prim.Native.Nat.{ℕ, ◌+◌, ◌≤◌}
use native.Mathlib.Omega.{arith}
use mathlib.Core.Path.{◌≡◌, sym, ap, ◌∙◌, subst}
use mathlib.Core.Bool.{true}
use mathlib.Core.List.{List}
use lib.ListN.{length}
use Rattle.layout.specs.Bytes.{patch}
use Rattle.reader.specs.Fields.{field_fits, field_end, field_value}
use Rattle.reader.proofs.FieldLaws.{number_width, string_end}
use Rattle.writer.specs.Table.{field_type, place_behind}
use Rattle.writer.specs.Words.{word_count, value_words}
use Rattle.writer.specs.declared.body.Place.{Place}
use Rattle.writer.specs.declared.table.Field.{Field}
use Rattle.writer.proofs.ReadLaws.{string-words}
use Rattle.writer.proofs.body.put_field.Goals as goal
use Rattle.writer.proofs.body.put_field.Goals.{Start}

-- of the field that the code has found: it fits, and there is room for its words
record Asked (c : Start) (f : Field) : Type 0 where
  fits : field_fits (field_type f) c.args.body.now c.args.place.at ≡ true
  room : c.args.place.words + word_count (field_type f) ≤ length c.args.values.now

asked : (c : Start) {f : Field} → c.args.field ≡ f → Asked c f
asked c e = subst (Asked c) e (record { fits = c.requires.0; room = c.requires.1 })

abbrev written : Start → Field → List ℕ
written c f = patch c.args.values.now c.args.place.words (value_words (field_value (field_type f) c.args.body.now c.args.place.at))

abbrev behind : Start → Field → Place
behind c f = place_behind (field_type f) c.args.body.now c.args.place

pub put_number-requires : goal.put_number-requires
unfolding word_count
put_number-requires c =
    let h = asked (goal.at.put_number-requires c).Start c.in-StaffNumber.is in
    (number_width 4 1 0xffff_ffff _ _ h.fits, (let r = h.room in omega arith))

pub returns-in-StaffNumber-clause-written : goal.returns-in-StaffNumber-clause-written
unfolding value_words field_value
returns-in-StaffNumber-clause-written c = c.put_number.ensures.written ∙ ap (written (goal.at.returns-in-StaffNumber-clause-written c).Start) (sym c.in-StaffNumber.is)

pub returns-in-StaffNumber-clause-behind : goal.returns-in-StaffNumber-clause-behind
unfolding place_behind field_end word_count
returns-in-StaffNumber-clause-behind c = c.put_number.ensures.behind ∙ ap (behind (goal.at.returns-in-StaffNumber-clause-behind c).Start) (sym c.in-StaffNumber.is)

pub put_number-requires-in-Password : goal.put_number-requires-in-Password
unfolding word_count
put_number-requires-in-Password c =
    let h = asked (goal.at.put_number-requires-in-Password c).Start c.in-Password.is in
    (number_width 8 0 0xffff_ffff_ffff_ffff _ _ h.fits, (let r = h.room in omega arith))

pub returns-in-Password-clause-written : goal.returns-in-Password-clause-written
unfolding value_words field_value
returns-in-Password-clause-written c = c.put_number-in-Password.ensures.written ∙ ap (written (goal.at.returns-in-Password-clause-written c).Start) (sym c.in-Password.is)

pub returns-in-Password-clause-behind : goal.returns-in-Password-clause-behind
unfolding place_behind field_end word_count
returns-in-Password-clause-behind c = c.put_number-in-Password.ensures.behind ∙ ap (behind (goal.at.returns-in-Password-clause-behind c).Start) (sym c.in-Password.is)

pub put_number-requires-in-Picture : goal.put_number-requires-in-Picture
unfolding word_count
put_number-requires-in-Picture c =
    let h = asked (goal.at.put_number-requires-in-Picture c).Start c.in-Picture.is in
    (number_width 4 0 0xffff_ffff _ _ h.fits, (let r = h.room in omega arith))

pub returns-in-Picture-clause-written : goal.returns-in-Picture-clause-written
unfolding value_words field_value
returns-in-Picture-clause-written c = c.put_number-in-Picture.ensures.written ∙ ap (written (goal.at.returns-in-Picture-clause-written c).Start) (sym c.in-Picture.is)

pub returns-in-Picture-clause-behind : goal.returns-in-Picture-clause-behind
unfolding place_behind field_end word_count
returns-in-Picture-clause-behind c = c.put_number-in-Picture.ensures.behind ∙ ap (behind (goal.at.returns-in-Picture-clause-behind c).Start) (sym c.in-Picture.is)

pub put_number-requires-in-Visibility : goal.put_number-requires-in-Visibility
unfolding word_count
put_number-requires-in-Visibility c =
    let h = asked (goal.at.put_number-requires-in-Visibility c).Start c.in-Visibility.is in
    (number_width 1 0 1 _ _ h.fits, (let r = h.room in omega arith))

pub returns-in-Visibility-clause-written : goal.returns-in-Visibility-clause-written
unfolding value_words field_value
returns-in-Visibility-clause-written c = c.put_number-in-Visibility.ensures.written ∙ ap (written (goal.at.returns-in-Visibility-clause-written c).Start) (sym c.in-Visibility.is)

pub returns-in-Visibility-clause-behind : goal.returns-in-Visibility-clause-behind
unfolding place_behind field_end word_count
returns-in-Visibility-clause-behind c = c.put_number-in-Visibility.ensures.behind ∙ ap (behind (goal.at.returns-in-Visibility-clause-behind c).Start) (sym c.in-Visibility.is)

pub put_string-requires : goal.put_string-requires
unfolding word_count
put_string-requires c =
    let h = asked (goal.at.put_string-requires c).Start c.in-Text.is in
    (string_end _ _ _ h.fits, h.room)

pub returns-in-Text-clause-written : goal.returns-in-Text-clause-written
returns-in-Text-clause-written c =
    let s = (goal.at.returns-in-Text-clause-written c).Start in
    c.put_string.ensures.written ∙ ap (patch c.args.values.now c.args.place.words) (string-words _ _ _ (asked s c.in-Text.is).fits) ∙ ap (written s) (sym c.in-Text.is)

pub returns-in-Text-clause-behind : goal.returns-in-Text-clause-behind
unfolding place_behind field_end word_count
returns-in-Text-clause-behind c = c.put_string.ensures.behind ∙ ap (behind (goal.at.returns-in-Text-clause-behind c).Start) (sym c.in-Text.is)
