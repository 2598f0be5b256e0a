-- `change_bit` meets its contract: the row is read, changed and written back.
use mathlib.Core.Path.{sym, ◌∙◌}
use Rattle.layout.proofs.NumberLaws.{length_to}
use Rattle.layout.proofs.ByteLaws.{write-within}
use Rattle.changes.proofs.rows.change_bit.Goals as goal

pub returns : goal.returns
returns g c = (
  c.change.result,
  rw (sym c.read_u32-row.ensures) c.change.ensures,
  c.write_number.ensures ∙ write-within _ _ _ (length_to 4 _) c.requires.within,
)
