-- `decode` meets its contract: the refusal is one of the cases of the enum.
use Rattle.reader.specs.Messages.{enum_content}
use Rattle.reader.proofs.decode.Goals as goal

pub returns-in-Err : goal.returns-in-Err
unfolding enum_content
returns-in-Err c = c.in-Err.ensures
