-- `owners_registered` meets its contract: the owner's slot of each post is below the number of users.
use mathlib.Core.Path.{sym, ◌∙◌}
use Rattle.board.proofs.TableClauses.{owner-fields}
use Rattle.board.proofs.posts.owners_registered.Goals as goal

pub returns : goal.returns
returns c =
    c.numbers_below.ensures ∙ sym (owner-fields c.args.board.now)
