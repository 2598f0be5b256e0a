-- `read` meets its contract: each test decides as the content of the message does, and the words are those of its values.
use native.Mathlib.Omega.{arith}
use mathlib.Core.Path.{◌≡◌, refl, sym, ap, ◌∙◌}
use mathlib.Core.List.{map}
use mathlib.Core.Option.{some}
use Rattle.std.specs.Prelude.{Some}
use Rattle.std.proofs.lemmas.Option.{MatchOption-at_none, MatchOption-at_some}
use Rattle.layout.proofs.BooleanLaws.{test_fails, test_holds}
use Rattle.reader.specs.Frames.{found, body_of}
use Rattle.reader.specs.Kinds.{kind_fields}
use Rattle.reader.specs.Messages.{body_content, message_content}
use Rattle.reader.specs.declared.Refusal.TheVariants.{Frame, Kind, Body}
use Rattle.reader.proofs.MessageLaws.{bad_frame, frame-content, unknown_content}
use Rattle.writer.specs.Table.{field_type, body_word_count}
use Rattle.writer.specs.declared.Refusal.TheVariants.{NotRead}
use Rattle.writer.proofs.EncodingLaws.{refused-outcome, error_given}
use Rattle.writer.proofs.ReadLaws.{refused-read, uncounted, counted-fit, counted_words, short-read, words-read}
use Rattle.writer.proofs.read.Goals as goal
use Rattle.writer.proofs.read.Goals.{After-body-body, In_ok-fields, In_ok-count}

pub returns-then-not-is_frame-clause-outcome : goal.returns-then-not-is_frame-clause-outcome
returns-then-not-is_frame-clause-outcome c =
    let a = c.args in
    refused-read a.message.now a.values.now Frame (bad_frame a.message.now (test_fails c.is_frame.ensures c.if-not-is_frame.true))

-- from here on the kind is known
known : (c : In_ok-fields) → kind_fields c.kind.result ≡ some (map field_type c.in_ok-fields.fields.now)
known c = MatchOption-at_some _ _ _ c.in_ok-fields.ensures.ok_part c.fields_of.ensures

-- a whole frame
whole : (c : After-body-body) → body_content c.kind.result (kind_fields c.kind.result) c.body-body.result.now ≡ message_content c.args.message.now
whole c = frame-content c.args.message.now (test_holds c.is_frame.ensures c.if-not-is_frame.false) _ _ c.kind.ensures c.body-body.ensures

pub returns-in_err-fields-clause-outcome : goal.returns-in_err-fields-clause-outcome
returns-in_err-fields-clause-outcome c =
    let a = c.args in
    refused-outcome _ _ _ _ c.from_residual.ensures.1 (ap NotRead (error_given _ c.in_err-fields.ensures.value c.in_err-fields.ensures.ok_part))
    ∙ refused-read a.message.now a.values.now Kind
    (unknown_content c.kind.result (body_of a.message.now) (MatchOption-at_none _ _ c.in_err-fields.ensures.ok_part c.fields_of.ensures)
    ∙ frame-content a.message.now (test_holds c.is_frame.ensures c.if-not-is_frame.false) _ _ c.kind.ensures refl)

pub body_word_count-requires : goal.body_word_count-requires
body_word_count-requires c = (c.kind.result, known (goal.at.body_word_count-requires c).In_ok-fields)

pub returns-in_err-count-clause-outcome : goal.returns-in_err-count-clause-outcome
returns-in_err-count-clause-outcome c =
    let a = c.args in
    refused-outcome _ _ _ _ c.from_residual-in_err-count.ensures.1 (ap NotRead (error_given _ c.in_err-count.ensures.value c.in_err-count.ensures.ok_part))
    ∙ refused-read a.message.now a.values.now Body
    (uncounted _ _ _ (known (goal.at.returns-in_err-count-clause-outcome c).In_ok-fields) (sym c.in_err-count.ensures.ok_part ∙ c.body_word_count.ensures)
    ∙ whole (goal.at.returns-in_err-count-clause-outcome c).After-body-body)

-- the count that was found
counted : (c : In_ok-count) → Some c.in_ok-count.count ≡ found (body_word_count (some (map field_type c.in_ok-fields.fields.now)) c.body-body.result.now)
counted c = sym c.in_ok-count.ensures.ok_part ∙ c.body_word_count.ensures

pub returns-then-values-count-clause-outcome : goal.returns-then-values-count-clause-outcome
returns-then-values-count-clause-outcome c =
    let a = c.args in
    let n = (goal.at.returns-then-values-count-clause-outcome c).In_ok-count in
    short-read _ _ _ (known (goal.at.In_ok-count n).In_ok-fields) (counted n) a.message.now a.values.now (whole (goal.at.In_ok-count n).After-body-body) c.if-values-count.true

pub put_words-requires : goal.put_words-requires
put_words-requires c =
    let n = (goal.at.put_words-requires c).In_ok-count in
    let k = known (goal.at.In_ok-count n).In_ok-fields in (
      counted-fit _ _ _ k (counted n),
      omega (arith, counted_words _ _ _ k (counted n), c.if-values-count.false),
    )

pub returns-clause-outcome : goal.returns-clause-outcome
returns-clause-outcome c =
    let a = c.args in
    let n = (goal.at.returns-clause-outcome c).In_ok-count in
    words-read _ _ _ (known (goal.at.In_ok-count n).In_ok-fields) (counted n) a.message.now a.values.now (whole (goal.at.In_ok-count n).After-body-body)
    c.if-values-count.false c.put_words.ensures
