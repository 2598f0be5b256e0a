-- `number_size` meets its contract: the word must be there, and lie between the bounds.
use native.Mathlib.Omega.{arith}
use lib.ListN.{length}
use borrow.Author.Tests.{eqb-true, eqb-false}
use Rattle.layout.proofs.BooleanLaws.{test_fails, test_holds}
use Rattle.reader.specs.Fields.{width_bytes}
use Rattle.reader.proofs.FieldLaws.{is_there, is_none}
use Rattle.writer.proofs.ValueLaws.{number_unfit, number_held}
use Rattle.writer.proofs.values.number_size.Goals as goal

pub returns-then-is_empty : goal.returns-then-is_empty
returns-then-is_empty c lent =
    let a = c.args in
    let none = eqb-true (length a.words.now) 0 (test_holds c.is_empty.ensures c.if-is_empty.true) in
    is_none _ (number_unfit lent (width_bytes a.width) a.least a.greatest a.words.now (λ h l g. omega arith))

pub returns-then-number-least : goal.returns-then-number-least
returns-then-number-least c lent =
    let a = c.args in
    is_none _ (number_unfit lent (width_bytes a.width) a.least a.greatest a.words.now (λ h l g. omega arith))

pub returns-then-greatest-number : goal.returns-then-greatest-number
returns-then-greatest-number c lent =
    let a = c.args in
    is_none _ (number_unfit lent (width_bytes a.width) a.least a.greatest a.words.now (λ h l g. omega arith))

pub returns : goal.returns
returns c lent =
    let a = c.args in
    let some = eqb-false (length a.words.now) 0 (test_fails c.is_empty.ensures c.if-is_empty.false) in
    is_there (number_held lent (width_bytes a.width) a.least a.greatest a.words.now (omega arith) (omega arith) (omega arith)) c.bytes.ensures
