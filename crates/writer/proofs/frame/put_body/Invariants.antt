-- `put_body` meets its contract. The loop's invariant (`Writing`): what is left to write makes the body whole.
use mathlib.Core.List.{map}
use Rattle.writer.specs.Table.{field_type}
use Rattle.writer.proofs.BodyLaws.{Writing}
use Rattle.writer.proofs.frame.put_body.Given as goal

abbrev pub invariant-loop-field : goal.invariant-loop-field
invariant-loop-field l = Writing l.lent (map field_type l.fields) l.values l.initial.frame l.frame l.at l.words l.field-index
