-- `count` meets its contract: the header of a sound board holds the count.
use native.Mathlib.Omega.{arith}
use Prim.Native.Nat.{ℕ}
use mathlib.Core.Path.{ap, ◌∙◌}
use Rattle.reader.specs.Fields.{number_in}
use Rattle.access.proofs.TableReads.{count-within, read_count}
use Rattle.access.proofs.sound_board.SoundBoard.count.Goals as goal

pub read_u16-requires : goal.read_u16-requires
read_u16-requires c = omega (arith, count-within c.args.self.now.sound c.args.table, c.count_at.ensures)

pub returns : goal.returns
returns c = c.read_u16.ensures ∙ ap (λ (at : ℕ). number_in c.args.self.now.bytes.now at 2) c.count_at.ensures ∙ read_count c.args.self.now.sound c.args.table
