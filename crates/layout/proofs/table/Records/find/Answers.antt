-- The goals of `find` that need a hand.
use Rattle.layout.proofs.TableLaws.{found_none, found_here, found_later, found_all, place_found, place_none}
use native.Mathlib.Omega.{arith}
use Prim.Native.Nat.{◌+◌, ◌*◌}
use Rattle.layout.proofs.table.Records.find.Goals as goal

pub loop-i-init : goal.loop-i-init
loop-i-init c = let a = c.args in found_none a.b.now (a.self.base + a.n * a.self.size) a.self.size a.x a.n

pub loop-i-preserved-then-read_u32-x : goal.loop-i-preserved-then-read_u32-x
loop-i-preserved-then-read_u32-x c =
    let a = c.args in
    found_here a.b.now a.self.base a.self.size a.x a.n c.loop-i.i (omega arith) (omega arith) c.read_u32.ensures c.if-read_u32-x.true

pub loop-i-preserved : goal.loop-i-preserved
loop-i-preserved c =
    let a = c.args in
    found_later a.b.now a.self.base a.self.size a.x a.n c.loop-i.i (omega arith) (omega arith) c.read_u32.ensures c.if-read_u32-x.false c.loop-i.invariant

pub returns-then-found-n : goal.returns-then-found-n
returns-then-found-n c =
    let a = c.args in
    place_found a.n (found_all a.b.now a.self.base a.self.size a.x a.n c.loop-i.invariant (omega arith)) c.if-found-n.true

pub returns-else-found-n : goal.returns-else-found-n
returns-else-found-n c =
    let a = c.args in
    place_none a.n (found_all a.b.now a.self.base a.self.size a.x a.n c.loop-i.invariant (omega arith)) c.if-found-n.false
