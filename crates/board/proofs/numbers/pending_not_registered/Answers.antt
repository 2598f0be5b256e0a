-- `pending_not_registered` meets its contract: each pending number is searched among those of the users.
use mathlib.Core.Bool.{not}
use mathlib.Core.List.{List, map}
use mathlib.Core.Path.{sym, ◌∙◌}
use Rattle.std.proofs.Common.{ℕ, rules}
use Rattle.std.proofs.lemmas.Iterator.{YieldsList-from_slice}
use Rattle.std.proofs.lemmas.Iterator.Search.{all_from_yields_List}
use Rattle.layout.specs.Tables.{record_number}
use Rattle.model.specs.Lists.{contains}
use Rattle.board.proofs.NumberClauses.{unregistered}
use Rattle.board.proofs.numbers.pending_not_registered.Goals as goal

pub returns : goal.returns
returns c =
    let board = c.args.board.now in
    all_from_yields_List (λ (r : List ℕ). not (contains (record_number r) (map record_number board.users.now))) _ _ _ c.all.ensures.ran
    (YieldsList-from_slice board.pending.now cc) (λ x b q k. search rules)
    ∙ sym (unregistered board)
