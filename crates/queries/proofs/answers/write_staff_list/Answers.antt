-- The goals of `write_staff_list` that need a hand.
use Prim.Native.Nat.{ℕ, ◌+◌, ◌*◌}
use native.Mathlib.Omega.{arith}
use mathlib.Core.Path.{◌≡◌, sym, ap, ◌∙◌}
use mathlib.Core.List.{List}
use Rattle.layout.specs.Bytes.{put_bytes}
use Rattle.layout.proofs.BitLaws.{places_le}
use Rattle.reader.specs.Fields.{number_in}
use Rattle.model.specs.Answers.{staff_list}
use Rattle.access.specs.Tables.{table_start, record_size}
use Rattle.queries.specs.QueryResults.{head_size}
use Rattle.queries.proofs.ListAnswers.{listed-below, listed-within, listed}
use Rattle.queries.proofs.ListWrites.{numbers_none, below_le, number_set, number_unset, numbers_all}
use Rattle.queries.proofs.answers.write_staff_list.Goals as goal
use Rattle.queries.proofs.answers.write_staff_list.Goals.{then-has_bit, else-has_bit}

-- a row has at most as many set places as there are users
pub overflow_cast-count_bits : goal.overflow_cast-count_bits
overflow_cast-count_bits c = omega (arith, places_le, c.count_bits.ensures)

pub loop-j-init : goal.loop-j-init
loop-j-init c =
    let a = c.args in
    numbers_none a.board.now.bytes.now (table_start a.table) (record_size a.table) a.row _

pub field_at-requires : goal.field_at-requires
field_at-requires c = (listed-below c.args.board.now.sound c.args.table c.requires.0 _ (sym c.has_bit.ensures ∙ c.if-has_bit.true), omega arith)

pub read_u32-requires : goal.read_u32-requires
read_u32-requires c = rw c.field_at.ensures (listed-within c.args.board.now.sound c.args.table c.requires.0 _ (sym c.has_bit.ensures ∙ c.if-has_bit.true))

pub overflow_add-at-then-has_bit : goal.overflow_add-at-then-has_bit
overflow_add-at-then-has_bit c =
    let a = c.args in
    omega (arith, below_le a.board.now.bytes.now (table_start a.table) (record_size a.table) a.row c.loop-j.j)

pub loop-j-preserved : goal.loop-j-preserved
loop-j-preserved c =
    let w = c.loop-j.invariant in
    let t = c.args.table in
    elim c.if-has_bit.branch [
      | then-has_bit m ↦
          let at : m.field_at.result ≡ table_start t + c.loop-j.j * record_size t = omega arith in
          number_set w (omega arith) (omega arith) (sym c.has_bit.ensures ∙ m.if-has_bit.true)
          (m.read_u32.ensures ∙ ap (λ (k : ℕ). number_in c.args.board.now.bytes.now k 4) at) (m.out-is ∙ m.write_number-then-has_bit.ensures) m.at-is
      | else-has_bit m ↦ number_unset w (sym c.has_bit.ensures ∙ m.if-has_bit.false) m.out-is m.at-is
    ]

pub returns : goal.returns
returns c =
    numbers_all c.args.out.now c.requires.1 c.count_bits.ensures c.write_number.ensures (omega arith) c.loop-j.invariant
    ∙ ap (λ (xs : List ℕ). put_bytes c.args.out.now head_size (staff_list xs)) (listed c.args.board.now.sound c.args.table c.requires.0)
