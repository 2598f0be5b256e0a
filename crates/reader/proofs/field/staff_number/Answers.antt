-- `staff_number` meets its contract: where the field fits the bytes are there.
use Rattle.layout.proofs.BooleanLaws.{test_holds}
use Rattle.reader.proofs.FieldLaws.{number_width}
use Rattle.reader.proofs.field.staff_number.Goals as goal

pub read_u32-requires : goal.read_u32-requires
read_u32-requires c = number_width 4 1 0xffff_ffff _ _ (test_holds c.number_fits.ensures c.if-not-number_fits.false)
