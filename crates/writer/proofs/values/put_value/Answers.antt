-- `put_value` meets its contract: the bytes of a number or of a string, where there is room for them.
use Prim.Native.Nat.{ℕ, ◌+◌, ◌≤◌, ◌<◌}
use native.Mathlib.Omega.{arith}
use mathlib.Core.Path.{◌≡◌, sym, ap, ◌∙◌, subst}
use mathlib.Core.Bool.{true}
use mathlib.Core.List.{List}
use lib.ListN.{length}
use Rattle.layout.specs.Bytes.{patch}
use Rattle.reader.specs.Fields.{value_bytes}
use Rattle.writer.specs.Table.{field_type, words_fit, words_size}
use Rattle.writer.specs.Words.{word_count, word_value}
use Rattle.writer.specs.declared.table.Field.{Field}
use Rattle.writer.proofs.ValueLaws.{fit_words, string-within, held_bytes, string-written}
use Rattle.writer.proofs.values.put_value.Goals as goal
use Rattle.writer.proofs.values.put_value.Goals.{Start}

-- of the field that the code has found: its value fits, is short, and there is room for it
record Asked (c : Start) (f : Field) : Type 0 where
  fits : words_fit c.args.lent.now (field_type f) c.args.words.now ≡ true
  short : words_size (field_type f) c.args.words.now < 65536
  room : c.args.at + words_size (field_type f) c.args.words.now ≤ length c.args.frame.now

asked : (c : Start) {f : Field} → c.args.field ≡ f → Asked c f
asked c e = subst (Asked c) e (record { fits = c.requires.0; short = c.requires.1; room = c.requires.2 })

abbrev written : Start → Field → List ℕ
written c f = patch c.args.frame.now c.args.at (held_bytes c.args.lent.now (field_type f) c.args.words.now)

abbrev behind : Start → Field → ℕ
behind c f = c.args.at + words_size (field_type f) c.args.words.now

pub put_number-requires : goal.put_number-requires
unfolding word_count words_size
put_number-requires c =
    let h = asked (goal.at.put_number-requires c).Start c.in-StaffNumber.is in
    (fit_words _ _ _ h.fits, h.room)

pub returns-in-StaffNumber-clause-written : goal.returns-in-StaffNumber-clause-written
unfolding word_value value_bytes
returns-in-StaffNumber-clause-written c = c.put_number.ensures.written ∙ ap (written (goal.at.returns-in-StaffNumber-clause-written c).Start) (sym c.in-StaffNumber.is)

pub returns-in-StaffNumber-clause-behind : goal.returns-in-StaffNumber-clause-behind
unfolding words_size
returns-in-StaffNumber-clause-behind c = c.put_number.ensures.behind ∙ ap (behind (goal.at.returns-in-StaffNumber-clause-behind c).Start) (sym c.in-StaffNumber.is)

pub put_number-requires-in-Password : goal.put_number-requires-in-Password
unfolding word_count words_size
put_number-requires-in-Password c =
    let h = asked (goal.at.put_number-requires-in-Password c).Start c.in-Password.is in
    (fit_words _ _ _ h.fits, h.room)

pub returns-in-Password-clause-written : goal.returns-in-Password-clause-written
unfolding word_value value_bytes
returns-in-Password-clause-written c = c.put_number-in-Password.ensures.written ∙ ap (written (goal.at.returns-in-Password-clause-written c).Start) (sym c.in-Password.is)

pub returns-in-Password-clause-behind : goal.returns-in-Password-clause-behind
unfolding words_size
returns-in-Password-clause-behind c = c.put_number-in-Password.ensures.behind ∙ ap (behind (goal.at.returns-in-Password-clause-behind c).Start) (sym c.in-Password.is)

pub put_number-requires-in-Picture : goal.put_number-requires-in-Picture
unfolding word_count words_size
put_number-requires-in-Picture c =
    let h = asked (goal.at.put_number-requires-in-Picture c).Start c.in-Picture.is in
    (fit_words _ _ _ h.fits, h.room)

pub returns-in-Picture-clause-written : goal.returns-in-Picture-clause-written
unfolding word_value value_bytes
returns-in-Picture-clause-written c = c.put_number-in-Picture.ensures.written ∙ ap (written (goal.at.returns-in-Picture-clause-written c).Start) (sym c.in-Picture.is)

pub returns-in-Picture-clause-behind : goal.returns-in-Picture-clause-behind
unfolding words_size
returns-in-Picture-clause-behind c = c.put_number-in-Picture.ensures.behind ∙ ap (behind (goal.at.returns-in-Picture-clause-behind c).Start) (sym c.in-Picture.is)

pub put_number-requires-in-Visibility : goal.put_number-requires-in-Visibility
unfolding word_count words_size
put_number-requires-in-Visibility c =
    let h = asked (goal.at.put_number-requires-in-Visibility c).Start c.in-Visibility.is in
    (fit_words _ _ _ h.fits, h.room)

pub returns-in-Visibility-clause-written : goal.returns-in-Visibility-clause-written
unfolding word_value value_bytes
returns-in-Visibility-clause-written c = c.put_number-in-Visibility.ensures.written ∙ ap (written (goal.at.returns-in-Visibility-clause-written c).Start) (sym c.in-Visibility.is)

pub returns-in-Visibility-clause-behind : goal.returns-in-Visibility-clause-behind
unfolding words_size
returns-in-Visibility-clause-behind c = c.put_number-in-Visibility.ensures.behind ∙ ap (behind (goal.at.returns-in-Visibility-clause-behind c).Start) (sym c.in-Visibility.is)

pub put_string-requires : goal.put_string-requires
unfolding word_count words_size
put_string-requires c =
    let h = asked (goal.at.put_string-requires c).Start c.in-Text.is in
    (fit_words _ _ _ h.fits, (string-within _ _ _ h.fits).inside, omega (arith, h.short), h.room)

pub returns-in-Text-clause-written : goal.returns-in-Text-clause-written
returns-in-Text-clause-written c =
    let a = c.args in
    let s = (goal.at.returns-in-Text-clause-written c).Start in
    string-written a.lent.now a.words.now a.frame.now a.at _ (asked s c.in-Text.is).fits c.put_string.ensures.written ∙ ap (written s) (sym c.in-Text.is)

pub returns-in-Text-clause-behind : goal.returns-in-Text-clause-behind
unfolding words_size
returns-in-Text-clause-behind c = c.put_string.ensures.behind ∙ ap (behind (goal.at.returns-in-Text-clause-behind c).Start) (sym c.in-Text.is)
