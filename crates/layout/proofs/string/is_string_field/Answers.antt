-- `is_string_field` meets its contract: a field that is there holds a string when its length is within the limit and zeros follow.
use Prim.Native.Nat.{ℕ, ◌+◌, ◌-◌, ◌≤◌}
use native.Mathlib.Omega.{arith}
use mathlib.Core.Path.{◌≡◌, ap, ◌∙◌}
use lib.ListN.{length}
use Rattle.layout.specs.Bytes.{bytes_at, all_zero}
use Rattle.layout.specs.StringFields.{is_string_field}
use Rattle.layout.proofs.RangeLaws.{range_fails, range_holds}
use Rattle.layout.proofs.StringFieldLaws.{field_cut, field-over, field-rest}
use Rattle.layout.proofs.string.is_string_field.Goals as goal
use Rattle.layout.proofs.string.is_string_field.Goals.{Else-limit-n, Else-not-within}

-- the field lies within b
inside : (c : Else-not-within) →
    let a = c.args in a.at + (2 + a.limit) ≤ length a.b.now
inside c =
    let a = c.args in
    let h = range_holds a.at a.limit (length a.b.now - 2) c.within.ensures c.if-not-within.false in
    omega arith

pub returns-then-b-lt2 : goal.returns-then-b-lt2
returns-then-b-lt2 c = let a = c.args in field_cut a.b.now a.at a.limit (omega arith)

pub returns-then-not-within : goal.returns-then-not-within
returns-then-not-within c =
    let a = c.args in
    let f = range_fails a.at a.limit (length a.b.now - 2) c.within.ensures c.if-not-within.true in
    field_cut a.b.now a.at a.limit (omega arith)

pub returns-then-limit-n : goal.returns-then-limit-n
returns-then-limit-n c =
    let a = c.args in
    field-over a.b.now a.at a.limit c.read_u16-n.result (inside (goal.at.returns-then-limit-n c).Else-not-within) c.read_u16-n.ensures c.if-limit-n.true

-- the bytes behind the string decide
rest : (c : Else-limit-n) →
    let a = c.args in
    let n = c.read_u16-n.result in
    all_zero (bytes_at a.b.now (a.at + 2 + n) (a.limit - n)) ≡ is_string_field a.limit (bytes_at a.b.now a.at (2 + a.limit))
rest c =
    let a = c.args in
    let n = c.read_u16-n in
    field-rest a.b.now a.at a.limit n.result (inside (goal.at.Else-limit-n c).Else-not-within) n.ensures c.if-limit-n.false

pub returns-then-end-lt8 : goal.returns-then-end-lt8
returns-then-end-lt8 c = c.all_zero.ensures ∙ rest (goal.at.returns-then-end-lt8 c).Else-limit-n

-- the same up to the field's end
rest-to-end : (c : Else-limit-n) →
    let a = c.args in
    let n = c.read_u16-n.result in
    all_zero (bytes_at a.b.now (a.at + 2 + n) (a.at + 2 + a.limit - (a.at + 2 + n)))
    ≡ is_string_field a.limit (bytes_at a.b.now a.at (2 + a.limit))
rest-to-end c =
    let a = c.args in
    let n : ℕ = c.read_u16-n.result in
    let e : a.at + 2 + a.limit - (a.at + 2 + n) ≡ a.limit - n = omega arith in
    ap (λ (k : ℕ). all_zero (bytes_at a.b.now (a.at + 2 + n) k)) e ∙ rest c

pub returns-then-limit-le64 : goal.returns-then-limit-le64
returns-then-limit-le64 c = c.short_zero.ensures ∙ rest-to-end (goal.at.returns-then-limit-le64 c).Else-limit-n

pub returns : goal.returns
returns c = c.words_zero.ensures ∙ rest-to-end (goal.at.returns c).Else-limit-n
