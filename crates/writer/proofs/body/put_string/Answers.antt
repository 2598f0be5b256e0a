-- `put_string` meets its contract: two stores are a patch of two words.
use Prim.Native.Nat.{ℕ, ◌+◌}
use native.Mathlib.Omega.{arith}
use mathlib.Core.Path.{ap, ◌∙◌}
use mathlib.Core.List.{[], ◌∷◌}
use lib.ListN.{length-set}
use Rattle.layout.specs.Bytes.{patch}
use Rattle.writer.specs.declared.body.Place.{Place}
use Rattle.writer.proofs.ReadLaws.{two_stored}
use Rattle.writer.proofs.body.put_string.Goals as goal

pub bounds-values-word-2 : goal.bounds-values-word-2
bounds-values-word-2 c = let p = c.args.place in omega (arith, length-set c.args.values.now p.words (p.at + 2))

pub overflow_add-result : goal.overflow_add-result
overflow_add-result c = omega (arith, c.read_u16-len.ensures)

pub returns-clause-written : goal.returns-clause-written
returns-clause-written c =
    let p = c.args.place in
    two_stored c.args.values.now p.words (p.at + 2) c.read_u16-len.result c.requires.1
    ∙ ap (λ (n : ℕ). patch c.args.values.now p.words ((p.at + 2) ∷ n ∷ [])) c.read_u16-len.ensures

pub returns-clause-behind : goal.returns-clause-behind
returns-clause-behind c =
    let p = c.args.place in
    ap (λ (n : ℕ). let q : Place = record { at = p.at + 2 + n; words = p.words + 2 } in q) c.read_u16-len.ensures
