-- `put_number` meets its contract: a number is written where there is room for it.
use Prim.Native.Nat.{ℕ, ◌+◌}
use native.Mathlib.Omega.{arith}
use mathlib.Core.Path.{ap, ◌∙◌}
use lib.ListN.{get_or}
use Rattle.layout.specs.Bytes.{write_at}
use Rattle.layout.specs.Numbers.{to_le_bytes}
use Rattle.layout.proofs.ByteLaws.{write_patches}
use Rattle.layout.proofs.NumberLaws.{length_to}
use Rattle.reader.specs.Fields.{width_bytes}
use Rattle.writer.proofs.values.put_number.Goals as goal

pub returns-clause-written : goal.returns-clause-written
returns-clause-written c =
    let a = c.args in
    let number : ℕ = get_or a.words.now 0 0 in
    let h = c.requires.1 in
    write_patches a.frame.now a.at (to_le_bytes (width_bytes a.width) number) (omega (arith, length_to (width_bytes a.width) number))
    (c.write_number.ensures ∙ ap (λ (w : ℕ). write_at a.frame.now a.at (to_le_bytes w number)) c.bytes-width.ensures)

pub returns-clause-behind : goal.returns-clause-behind
returns-clause-behind c = ap (λ (w : ℕ). c.args.at + w) c.bytes-width.ensures
