-- `copy_string` meets its contract: as many bytes are copied as the string has, with its length.
use Prim.Native.Nat.{ℕ, ◌+◌, ◌-◌}
use native.Mathlib.Omega.{arith}
use mathlib.Core.Path.{◌≡◌, sym, ap, ◌∙◌}
use mathlib.Core.List.{List}
use Rattle.layout.specs.Bytes.{bytes_at, write_at}
use Rattle.layout.proofs.ByteLaws.{length-bytes_at}
use Rattle.layout.proofs.WrittenLaws.{bytes-put-within}
use Rattle.reader.specs.Fields.{number_in}
use Rattle.queries.proofs.answers.copy_string.Goals as goal

pub returns : goal.returns
unfolding bytes_at
returns c =
    let a = c.args in
    let b : List ℕ = a.b.now in
    let stated : c.read_u16-n.result ≡ number_in b a.at 2 = c.read_u16-n.ensures in
    let size : a.at + 2 + c.read_u16-n.result - a.at ≡ 2 + number_in b a.at 2 = omega arith in
    bytes-put-within a.out.now a.to (bytes_at b a.at (2 + number_in b a.at 2))
    (ap (λ (n : ℕ). 2 + n) stated ∙ sym (length-bytes_at b a.at (2 + number_in b a.at 2) (omega arith))) (omega arith)
    (c.write_bytes.ensures ∙ ap (write_at a.out.now a.to) (ap (bytes_at b a.at) size))
