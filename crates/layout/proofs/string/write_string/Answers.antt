-- `write_string` meets its contract: length, bytes and zeros, written one behind the other, are the field (`string-written`).
use Prim.Native.Nat.{◌+◌, ◌-◌, ◌≤◌}
use native.Mathlib.Omega.{arith}
use mathlib.Core.Bool.{true}
use mathlib.Core.Path.{◌≡◌, sym, ◌∙◌}
use borrow.Author.Tests.{le-leb, lt-leb}
use Rattle.layout.specs.StringFields.{is_string}
use lib.ListN.{length}
use Rattle.layout.proofs.RangeLaws.{range_fails, range_holds}
use Rattle.layout.proofs.StringFieldLaws.{string_by, string-refused, string_beyond, string-written}
use Rattle.layout.proofs.string.write_string.Goals as goal
use Rattle.layout.proofs.string.write_string.Goals.{Else-limit-n, Else-not-within}

-- s is a string of this limit
allowed : (c : Else-limit-n) → let a = c.args in is_string a.limit a.s.now ≡ true
allowed c = let a = c.args in string_by a.limit a.s.now ∙ le-leb (length a.s.now) a.limit c.if-limit-n.false

-- the field lies within b
inside : (c : Else-not-within) → let a = c.args in a.at + (2 + a.limit) ≤ length a.b.now
inside c =
    let a = c.args in
    let h = range_holds a.at a.limit (length a.b.now - 2) c.within.ensures c.if-not-within.false in
    omega arith

pub returns-then-limit-n : goal.returns-then-limit-n
returns-then-limit-n c =
    let a = c.args in
    sym (string-refused a.b.now a.at a.limit a.s.now (string_by a.limit a.s.now ∙ lt-leb (length a.s.now) a.limit c.if-limit-n.true))

pub returns-then-b-lt2 : goal.returns-then-b-lt2
returns-then-b-lt2 c =
    let a = c.args in
    sym (string_beyond a.b.now a.at a.limit a.s.now (allowed (goal.at.returns-then-b-lt2 c).Else-limit-n) (omega arith))

pub returns-then-not-within : goal.returns-then-not-within
returns-then-not-within c =
    let a = c.args in
    let f = range_fails a.at a.limit (length a.b.now - 2) c.within.ensures c.if-not-within.true in
    sym (string_beyond a.b.now a.at a.limit a.s.now (allowed (goal.at.returns-then-not-within c).Else-limit-n) (omega arith))

pub returns : goal.returns
returns c =
    let a = c.args in
    string-written a.b.now a.at a.limit a.s.now (allowed (goal.at.returns c).Else-limit-n) (inside (goal.at.returns c).Else-not-within)
    c.write_number.ensures c.write_bytes.ensures c.zero_fill.ensures
