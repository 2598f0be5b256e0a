-- `write_field` meets its contract: the field's bytes are written behind the head.
use native.Mathlib.Omega.{arith}
use mathlib.Core.Path.{refl}
use Rattle.layout.proofs.WrittenLaws.{bytes-put-within}
use Rattle.queries.specs.QueryResults.{head_size}
use Rattle.queries.proofs.answers.write_field.Goals as goal

pub returns : goal.returns
returns c =
    let a = c.args in
    bytes-put-within a.out.now head_size a.field.now refl (omega arith) c.write_bytes.ensures
