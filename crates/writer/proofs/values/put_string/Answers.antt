-- `put_string` meets its contract: the length, and behind it the bytes.
use native.Mathlib.Omega.{arith}
use Prim.Native.Nat.{ℕ, ◌+◌, ◌-◌}
use mathlib.Core.Path.{◌≡◌, sym, ap, ◌∙◌}
use mathlib.Core.List.{List}
use lib.ListN.{length, get_or}
use Rattle.layout.specs.Bytes.{bytes_at, patch, write_at}
use Rattle.layout.specs.Numbers.{to_le_bytes}
use Rattle.layout.specs.StringFields.{string_bytes}
use Rattle.layout.proofs.ByteLaws.{length-bytes_at}
use Rattle.layout.proofs.StringFieldLaws.{bytes-written}
use Rattle.writer.proofs.values.put_string.Goals as goal

pub returns-clause-written : goal.returns-clause-written
unfolding bytes_at
returns-clause-written c =
    let a = c.args in
    let start = get_or a.words.now 0 0 in
    let len = get_or a.words.now 1 0 in
    let part : ℕ → List ℕ = bytes_at a.lent.now start in
    let size : start + len - start ≡ len = omega arith in
    let long : length (part (start + len - start)) ≡ len = length-bytes_at a.lent.now start (start + len - start) (omega arith) ∙ size in
    bytes-written a.frame.now a.at (part (start + len - start)) (omega (arith, c.requires.3))
    (c.write_number.ensures ∙ ap (λ (n : ℕ). write_at a.frame.now a.at (to_le_bytes 2 n)) (sym long)) c.write_bytes.ensures
    ∙ ap (λ (n : ℕ). patch a.frame.now a.at (string_bytes (part n))) size
