-- `body_word_count` meets its contract. The loop's invariant (`Counting`): the words are what the first fields have been counted to, and what the others
-- will be.
use mathlib.Core.List.{map}
use Rattle.writer.specs.Table.{field_type}
use Rattle.writer.proofs.ReadLaws.{Counting}
use Rattle.writer.proofs.body.body_word_count.Given as goal

abbrev pub invariant-loop-field : goal.invariant-loop-field
invariant-loop-field l = Counting (map field_type l.fields) l.body l.place.at l.place.words l.field-index
