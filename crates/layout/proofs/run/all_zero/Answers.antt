-- `all_zero` meets its contract: the bytes that are there are those of the run, since past the end there are no more.
use mathlib.Core.Path.{ap, ◌∙◌}
use mathlib.Core.List.{List}
use Prim.Native.Nat.{ℕ, ◌-◌}
use lib.ListN.{length, take, drop}
use Rattle.std.proofs.lemmas.List.{take_rest, take_min, drop_min}
use Rattle.layout.specs.Bytes.{bytes_at, all_zero}
use Rattle.layout.proofs.run.all_zero.Goals as goal

pub returns : goal.returns
unfolding bytes_at
returns c =
    let b : List ℕ = c.args.b.now in
    let from : ℕ = c.min.result in
    let there : List ℕ = take (length b - from) (drop from b) in
    let rest = take_rest b from ∙ ap (λ (k : ℕ). drop k b) c.min.ensures ∙ drop_min c.args.at b in
    c.is_zero.ensures
    ∙ ap all_zero (ap (λ (k : ℕ). take k there) c.min-2.ensures ∙ take_min c.args.n there ∙ ap (take c.args.n) rest)
