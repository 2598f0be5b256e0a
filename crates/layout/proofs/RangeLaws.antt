-- What the test `within` of a range says, where its negation was taken or left.
use Prim.Native.Nat.{ℕ, ◌+◌, ◌≤◌, ◌<◌}
use mathlib.Core.Bool.{Bool, true, false}
use mathlib.Core.Path.{◌≡◌}
use lib.Dec.{leb}
use borrow.Author.Tests.{leb-true, leb-false}
use Rattle.layout.proofs.BooleanLaws.{test_fails, test_holds}

pub range_fails : {r : Bool} (at n len : ℕ) → r ≡ leb (at + n) len → r ≡ false → len < at + n
range_fails at n len e t = leb-false (at + n) len (test_fails e t)

pub range_holds : {r : Bool} (at n len : ℕ) → r ≡ leb (at + n) len → r ≡ true → at + n ≤ len
range_holds at n len e t = leb-true (at + n) len (test_holds e t)
