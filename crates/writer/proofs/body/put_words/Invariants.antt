-- `put_words` meets its contract. The loop's invariant (`Filling`): what is left to write makes the words whole.
use mathlib.Core.List.{map}
use Rattle.writer.specs.Table.{field_type}
use Rattle.writer.proofs.ReadLaws.{Filling}
use Rattle.writer.proofs.body.put_words.Given as goal

abbrev pub invariant-loop-field : goal.invariant-loop-field
invariant-loop-field l = Filling (map field_type l.fields) l.body l.initial.values l.values l.place.at l.place.words l.field-index
