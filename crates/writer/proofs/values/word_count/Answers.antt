-- `word_count` meets its contract: a string has two words and each number one.
use Prim.Native.Nat.{ℕ}
use mathlib.Core.Path.{◌≡◌, refl, sym, ap}
use Rattle.writer.specs.Table.{field_type}
use Rattle.writer.specs.Words.{word_count}
use Rattle.writer.specs.declared.table.Field.{Field}
use Rattle.writer.specs.declared.table.Field.TheVariants.{StaffNumber, Password, Picture, Visibility, Text}
use Rattle.writer.proofs.values.word_count.Goals as goal

abbrev count : Field → ℕ
count f = word_count (field_type f)

one_word : (f : Field) → ((limit : ℕ) → f ≡ Text limit → ⊥) → 1 ≡ count f
unfolding word_count
one_word StaffNumber n = refl
one_word Password n = refl
one_word Picture n = refl
one_word Visibility n = refl
one_word (Text limit) n = absurd (n limit refl)

pub returns-in-Text : goal.returns-in-Text
unfolding word_count
returns-in-Text c = ap count (sym c.in-Text.is)

pub returns-in_default : goal.returns-in_default
returns-in_default c = one_word _ c.in_default.not-Text
