-- `lacks` meets its contract: the bits of a number, shifted to be the lowest, are looked at together.
use Prim.Native.Nat.{◌/◌, ◌^◌}
use Rattle.layout.specs.Bits.{bit_at, has_bit}
use Rattle.board.specs.BoardTests.{first_place, second_place}
use Rattle.board.proofs.NumberClauses.{lacks_either}
use Rattle.board.proofs.numbers.Filters.lacks.Goals as goal

pub returns : goal.returns
unfolding has_bit bit_at
returns c =
    let filters = c.args.self.now in
    lacks_either (filters.first / 2 ^ first_place c.args.x) (filters.second / 2 ^ second_place c.args.x)
