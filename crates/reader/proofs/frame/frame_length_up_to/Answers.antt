-- `frame_length_up_to` meets its contract: a test that stops leaves one of the four conditions unmet (`frame_none`), and behind them all hold
-- (`frame-length`).
use Prim.Native.Nat.{ℕ, ◌+◌}
use native.Mathlib.Omega.{arith}
use mathlib.Core.Path.{sym, ap, ◌∙◌}
use Rattle.std.specs.Prelude.{Some}
use Rattle.reader.specs.Frames.{length_field}
use Rattle.reader.proofs.FrameLaws.{frame-length, frame_none, none_found, some_found}
use Rattle.reader.proofs.frame.frame_length_up_to.Goals as goal

pub returns-then-bytes-lt4 : goal.returns-then-bytes-lt4
returns-then-bytes-lt4 c = none_found (frame_none _ (λ h l g w. omega arith))

pub returns-then-l-lt2 : goal.returns-then-l-lt2
unfolding length_field
returns-then-l-lt2 c = none_found (frame_none _ (λ h l g w. omega arith))

pub returns-then-most-l : goal.returns-then-most-l
unfolding length_field
returns-then-most-l c = none_found (frame_none _ (λ h l g w. omega arith))

pub returns-then-bytes-l : goal.returns-then-bytes-l
unfolding length_field
returns-then-bytes-l c = none_found (frame_none _ (λ h l g w. omega arith))

pub returns : goal.returns
unfolding length_field
returns c =
    let size = frame-length {most = c.args.most} c.args.bytes.now (omega arith) (omega arith) (omega arith) (omega arith) in
    ap Some (ap (λ (l : ℕ). l + 2) c.read_u16-l.ensures ∙ sym size) ∙ some_found (λ z. omega arith)
