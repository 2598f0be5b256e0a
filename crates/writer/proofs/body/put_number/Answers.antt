-- `put_number` meets its contract: a store is a patch of one word.
use Prim.Native.Nat.{ℕ, ◌+◌}
use mathlib.Core.Path.{ap, ◌∙◌}
use mathlib.Core.List.{[], ◌∷◌}
use Rattle.layout.specs.Bytes.{patch}
use Rattle.layout.proofs.ByteLaws.{patch_store}
use Rattle.writer.specs.declared.body.Place.{Place}
use Rattle.writer.proofs.body.put_number.Goals as goal

pub returns-clause-written : goal.returns-clause-written
returns-clause-written c =
    patch_store _ _ _ c.requires.1 ∙ ap (λ (x : ℕ). patch c.args.values.now c.args.place.words (x ∷ [])) c.number.ensures

pub returns-clause-behind : goal.returns-clause-behind
returns-clause-behind c =
    let p = c.args.place in
    ap (λ (n : ℕ). let q : Place = record { at = p.at + n; words = p.words + 1 } in q) c.bytes.ensures
