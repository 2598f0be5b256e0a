-- `password` meets its contract: where the field fits the bytes are there.
use Rattle.layout.proofs.BooleanLaws.{test_holds}
use Rattle.reader.proofs.FieldLaws.{number_width}
use Rattle.reader.proofs.field.password.Goals as goal

pub read_u64-requires : goal.read_u64-requires
read_u64-requires c = number_width 8 0 0xffff_ffff_ffff_ffff _ _ (test_holds c.number_fits.ensures c.if-not-number_fits.false)
