-- `write_post_list` meets its contract. The loop's invariant: the entries of the first i posts stand behind the count.
use Prim.Native.Nat.{◌+◌, ◌≤◌}
use mathlib.Core.Path.{◌≡◌}
use mathlib.Core.List.{map, flatten}
use lib.ListN.{take}
use Rattle.layout.specs.Bytes.{patch}
use Rattle.model.specs.State.{post_limit}
use Rattle.model.specs.Board.{decode}
use Rattle.model.specs.Answers.{post_entry}
use Rattle.queries.specs.QueryResults.{head_size}
use Rattle.queries.proofs.answers.write_post_list.Given as goal

abbrev pub invariant-loop-i : goal.invariant-loop-i
invariant-loop-i l = record {
  few : l.m ≤ post_limit;
  written : l.out ≡ patch l.initial.out (head_size + 2) (flatten (map (post_entry (decode l.board.bytes.now)) (take l.i (decode l.board.bytes.now).posts)));
}
