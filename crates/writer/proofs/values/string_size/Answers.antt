-- `string_size` meets its contract: the words must be there, and the string is tested by itself.
use native.Mathlib.Omega.{arith}
use Rattle.layout.proofs.BooleanLaws.{test_fails, test_holds}
use Rattle.writer.specs.Table.{words_size}
use Rattle.writer.proofs.ValueLaws.{unfit-size, fit-size, string-missing, string-unfit, string-held, string-within}
use Rattle.writer.proofs.values.string_size.Goals as goal

pub returns-then-words-lt2 : goal.returns-then-words-lt2
returns-then-words-lt2 c = unfit-size _ _ _ (string-missing c.args.lent.now c.args.limit c.args.words.now (omega arith))

pub returns-then-not-string_fits : goal.returns-then-not-string_fits
returns-then-not-string_fits c =
    let a = c.args in
    unfit-size _ _ _ (string-unfit a.lent.now a.limit a.words.now (test_fails c.string_fits.ensures c.if-not-string_fits.true))

pub overflow_add-result : goal.overflow_add-result
overflow_add-result c =
    let a = c.args in
    omega (arith, (string-within a.lent.now a.limit a.words.now (string-held _ _ _ (omega arith) (test_holds c.string_fits.ensures c.if-not-string_fits.false))).inside)

pub returns : goal.returns
unfolding words_size
returns c =
    let a = c.args in
    fit-size _ _ _ (string-held a.lent.now a.limit a.words.now (omega arith) (test_holds c.string_fits.ensures c.if-not-string_fits.false))
