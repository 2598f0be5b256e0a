-- `remove_request` meets its contract: the bit of the request row, then the note, at the places of the two slots.
use Prim.Native.Nat.{ℕ, ◌+◌, ◌*◌}
use native.Mathlib.Omega.{arith}
use mathlib.Core.Path.{refl}
use Rattle.layout.specs.Bits.{clear_bit}
use Rattle.model.specs.State.{user_limit}
use Rattle.changes.proofs.BoardWrites.{bit-changed, then_zeros, then_bit}
use Rattle.changes.proofs.rows.remove_request.Goals as goal

pub returns : goal.returns
returns c =
    let i : ℕ = c.args.i in
    let j : ℕ = c.args.j in
    let first = then_bit refl (16 + i * 104 + 16) c.field_at-row_at.ensures clear_bit j (bit-changed clear_bit _ _ _ c.change_bit.ensures) in
    then_zeros first (23824 + (user_limit * i + j) * 26) c.note_at.ensures 26 (omega arith) c.zero_fill.ensures
