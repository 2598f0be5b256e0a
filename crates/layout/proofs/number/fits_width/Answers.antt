-- `fits_width` meets its contract: a number has room where two shifts leave nothing of it (`width_shifts`), and always in more than eight bytes.
use Prim.Native.Nat.{◌*◌, ◌^◌, ◌≤◌, ◌<◌}
use native.Mathlib.Nat.{lt_of_lt_of_le}
use native.Mathlib.Omega.{arith}
use mathlib.Core.Path.{sym}
use lib.Pow.{pow_mono}
use borrow.Author.Tests.{lt-ltb}
use Rattle.layout.proofs.WordLaws.{byte_power, width_shifts}
use Rattle.layout.proofs.number.fits_width.Goals as goal

pub returns-then-width-gt8 : goal.returns-then-width-gt8
returns-then-width-gt8 c =
    let a = c.args in
    let word : a.x < 2 ^ 64 = omega arith in
    let wide : 2 ^ 64 ≤ 2 ^ (8 * a.width) = pow_mono {i = 64} (omega arith) in
    sym (lt-ltb a.x (256 ^ a.width) (rw (byte_power a.width) (lt_of_lt_of_le word wide)))

pub returns : goal.returns
returns c = width_shifts c.args.x c.args.width
