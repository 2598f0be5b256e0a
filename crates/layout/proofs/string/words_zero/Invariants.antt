-- `words_zero` meets its contract. The loop's invariant: the bytes left are those behind the words so far, and what is gathered is zero and they
-- are, just when all of them are.
use Prim.Native.Nat.{ℕ, ◌+◌, ◌-◌, ◌*◌, ◌≤◌}
use mathlib.Core.Bool.{◌&&◌}
use mathlib.Core.Path.{◌≡◌}
use lib.ListN.{length}
use lib.Dec.{eqb}
use Rattle.layout.specs.Bytes.{bytes_at, all_zero}
use Rattle.layout.proofs.string.words_zero.Given as goal

abbrev pub invariant-loop-word : goal.invariant-loop-word
invariant-loop-word l =
    let p : ℕ = l.at + 8 * length l.yielded in
    record {
      size : l.word-iterator.size ≡ 8;
      in_run : p ≤ l.end;
      left : l.word-iterator.rest.now ≡ bytes_at l.b p (l.end - p);
      gathered : (eqb l.gathered 0 && all_zero (bytes_at l.b p (l.end - p))) ≡ all_zero (bytes_at l.b l.at (l.end - l.at));
    }
