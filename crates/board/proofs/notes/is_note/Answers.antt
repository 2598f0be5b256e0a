-- `is_note` meets its contract: within the allowed length, the three words say whether the bytes behind the string are zero.
use Prim.Native.Nat.{ℕ, ◌-◌, ◌^◌}
use native.Mathlib.Omega.{arith}
use mathlib.Core.Path.{◌≡◌, ap, ap₂, ◌∙◌}
use mathlib.Core.Bool.{true}
use mathlib.Core.List.{List}
use lib.Dec.{ltb}
use lib.ListN.{length}
use lib.Bits.{bit_or}
use lib.Pow.{are_bytes}
use Rattle.layout.proofs.ByteLaws.{bytes_at_all}
use Rattle.layout.proofs.NumberLaws.{bytes_of}
use Rattle.layout.proofs.WordLaws.{width_shifts}
use Rattle.board.specs.BoardTests.{note_within}
use Rattle.board.proofs.NoteClauses.{note-over, words_tail, note-rest}
use Rattle.board.proofs.notes.is_note.Goals as goal

pub returns-then-most-n : goal.returns-then-most-n
returns-then-most-n c =
    let a = c.args in
    let n = c.read_u16-n in
    let size : length a.field.now ≡ 26 = c.told-field in
    note-over a.field.now 0 a.most n.result (omega arith) n.ensures c.if-most-n.true ∙ ap (note_within a.most) (bytes_at_all a.field.now 26 size)

pub returns : goal.returns
returns c =
    let first = c.min-first in
    let a = c.args in
    let f : List ℕ = a.field.now in
    let n = c.read_u16-n in
    let size : length f ≡ 26 = c.told-field in
    let y : are_bytes f ≡ true = bytes_of f (λ i h. omega (arith, c.fits-field i)) in
    width_shifts _ (n.result - first.result)
    ∙ ap (λ (w : ℕ). ltb w (256 ^ (n.result - first.result)))
    (ap₂ bit_or (ap₂ bit_or c.read_u64.ensures c.read_u64-2.ensures) c.read_u64-3.ensures)
    ∙ words_tail f 0 n.result y (omega arith) first.ensures
    ∙ note-rest f 0 a.most n.result (omega arith) n.ensures (omega arith) (omega arith)
    ∙ ap (note_within a.most) (bytes_at_all f 26 size)
