-- `visibility_valid` meets its contract: the visibility of each post is below 2.
use mathlib.Core.Path.{sym, ◌∙◌}
use Rattle.board.proofs.TableClauses.{visibility-fields}
use Rattle.board.proofs.posts.visibility_valid.Goals as goal

pub returns : goal.returns
returns c =
    c.numbers_below.ensures ∙ sym (visibility-fields c.args.board.now)
