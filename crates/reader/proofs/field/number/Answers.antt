-- `number` meets its contract: each arm reads the number of its width.
use Prim.Native.Nat.{◌<◌}
use native.Mathlib.Omega.{arith}
use mathlib.Core.Path.{sym, ap}
use lib.ListN.{length}
use Rattle.layout.proofs.NumberLaws.{from_one}
use Rattle.reader.specs.Fields.{width_bytes}
use Rattle.reader.proofs.field.number.Goals as goal

pub returns-in-One : goal.returns-in-One
returns-in-One c = rw c.in-One.is (sym (from_one _ _ (let h : c.args.at < length c.args.body.now = omega (arith, ap width_bytes c.in-One.is) in h)))
