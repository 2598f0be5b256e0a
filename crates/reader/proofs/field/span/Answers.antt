-- `span` meets its contract: where the string fits its length is there.
use native.Mathlib.Omega.{arith}
use Rattle.layout.proofs.BooleanLaws.{test_holds}
use Rattle.reader.proofs.FieldLaws.{string-length}
use Rattle.reader.proofs.field.span.Goals as goal

pub overflow_add-result : goal.overflow_add-result
overflow_add-result c = let h = string-length _ _ _ (test_holds c.string_fits.ensures c.if-not-string_fits.false) in omega arith

pub read_u16-requires : goal.read_u16-requires
read_u16-requires c = string-length _ _ _ (test_holds c.string_fits.ensures c.if-not-string_fits.false)
