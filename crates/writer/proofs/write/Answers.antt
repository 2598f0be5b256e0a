-- `write` meets its contract: the fields and the size decide about 5 and 13, and the frame is its head with the body behind it.
use native.Mathlib.Omega.{arith}
use mathlib.Core.Path.{◌≡◌, sym, ap, ◌∙◌}
use mathlib.Core.List.{map}
use mathlib.Core.Option.{some}
use lib.ListN.{length}
use Rattle.std.specs.Prelude.{Some}
use Rattle.std.proofs.lemmas.Option.{MatchOption-at_none, MatchOption-at_some}
use Rattle.layout.proofs.ByteLaws.{length-write}
use Rattle.reader.specs.Frames.{found}
use Rattle.reader.specs.Kinds.{kind_fields}
use Rattle.writer.specs.Table.{field_type, frame_size}
use Rattle.writer.proofs.EncodingLaws.{refused-outcome, error_given}
use Rattle.writer.proofs.WriteLaws.{unknown_kind, not_carried, carried-fit, carried-size, buffer-short, frame-put}
use Rattle.writer.proofs.write.Goals as goal
use Rattle.writer.proofs.write.Goals.{In_ok-fields, In_ok-size}

pub returns-in_err-fields-clause-outcome : goal.returns-in_err-fields-clause-outcome
returns-in_err-fields-clause-outcome c =
    let a = c.args in
    refused-outcome _ _ _ _ c.from_residual.ensures.1 (error_given _ c.in_err-fields.ensures.value c.in_err-fields.ensures.ok_part)
    ∙ unknown_kind a.lent.now a.kind a.values.now a.frame.now (MatchOption-at_none _ _ c.in_err-fields.ensures.ok_part c.fields_of.ensures)

-- from here on the kind is known, and from here on a frame carries the message
known : (c : In_ok-fields) → kind_fields c.args.kind ≡ some (map field_type c.in_ok-fields.fields.now)
known c = MatchOption-at_some _ _ _ c.in_ok-fields.ensures.ok_part c.fields_of.ensures

pub frame_size-requires : goal.frame_size-requires
frame_size-requires c = (c.args.kind, known c)

pub returns-in_err-size-clause-outcome : goal.returns-in_err-size-clause-outcome
returns-in_err-size-clause-outcome c =
    let a = c.args in
    refused-outcome _ _ _ _ c.from_residual-in_err-size.ensures.1 (error_given _ c.in_err-size.ensures.value c.in_err-size.ensures.ok_part)
    ∙ not_carried a.lent.now a.kind a.values.now a.frame.now _ (known (goal.at.returns-in_err-size-clause-outcome c).In_ok-fields)
    (sym c.in_err-size.ensures.ok_part ∙ c.frame_size.ensures)

-- the size that was found
sized : (c : In_ok-size) → Some c.in_ok-size.size ≡ found (frame_size c.args.lent.now (some (map field_type c.in_ok-fields.fields.now)) c.args.values.now)
sized c = sym c.in_ok-size.ensures.ok_part ∙ c.frame_size.ensures

pub returns-then-frame-size-clause-outcome : goal.returns-then-frame-size-clause-outcome
returns-then-frame-size-clause-outcome c =
    let a = c.args in
    let s = (goal.at.returns-then-frame-size-clause-outcome c).In_ok-size in
    buffer-short a.lent.now a.kind a.values.now a.frame.now _ (known (goal.at.In_ok-size s).In_ok-fields) (sized s) c.if-frame-size.true

pub overflow_sub-size : goal.overflow_sub-size
overflow_sub-size c =
    let a = c.args in
    let s = (goal.at.overflow_sub-size c).In_ok-size in
    omega (arith, carried-size a.lent.now a.kind a.values.now a.frame.now _ (known (goal.at.In_ok-size s).In_ok-fields) (sized s))

pub put_body-requires : goal.put_body-requires
put_body-requires c =
    let a = c.args in
    let s = (goal.at.put_body-requires c).In_ok-size in
    let k = known (goal.at.In_ok-size s).In_ok-fields in (
      (a.kind, k),
      carried-fit a.lent.now a.kind a.values.now a.frame.now _ k (sized s),
      omega (
        arith,
        carried-size a.lent.now a.kind a.values.now a.frame.now _ k (sized s),
        c.if-frame-size.false,
        ap length c.write_number-2.ensures ∙ length-write _ _ _,
        ap length c.write_number.ensures ∙ length-write _ _ _,
      ),
    )

pub returns-clause-outcome : goal.returns-clause-outcome
returns-clause-outcome c =
    let a = c.args in
    let s = (goal.at.returns-clause-outcome c).In_ok-size in
    frame-put a.lent.now a.kind a.values.now a.frame.now _ (known (goal.at.In_ok-size s).In_ok-fields) (sized s) c.if-frame-size.false
    c.write_number.ensures c.write_number-2.ensures c.put_body.ensures
