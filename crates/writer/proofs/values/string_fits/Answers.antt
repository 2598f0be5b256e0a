-- `string_fits` meets its contract: within the lent bytes the length decides.
use Rattle.writer.proofs.ValueLaws.{span, span-outside, span_tested}
use Rattle.writer.proofs.values.string_fits.Goals as goal

pub returns-then-not-within : goal.returns-then-not-within
returns-then-not-within c = let a = c.args in span-outside a.limit a.lent.now (span a.start a.len) c.within.ensures c.if-not-within.true

pub returns : goal.returns
returns c = let a = c.args in span_tested a.limit a.lent.now (span a.start a.len) c.within.ensures c.if-not-within.false
