-- `frame_size` meets its contract. The loop's invariant (`Sizing`): the size of the frame is what the first fields have been counted to, and what the
-- others will be.
use mathlib.Core.List.{map}
use Rattle.writer.specs.Table.{field_type}
use Rattle.writer.proofs.BodyLaws.{Sizing}
use Rattle.writer.proofs.frame.frame_size.Given as goal

abbrev pub invariant-loop-field : goal.invariant-loop-field
invariant-loop-field l = Sizing l.lent (map field_type l.fields) l.values l.size l.words l.field-index
