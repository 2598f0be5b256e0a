-- `is_frame` meets its contract: a length that was found is compared, and none is no frame.
use Prim.Native.Nat.{ℕ}
use mathlib.Core.Path.{◌≡◌, refl, ap, ◌∙◌}
use mathlib.Core.Bool.{Bool, true, false, ◌&&◌, not, cond}
use lib.ListN.{length}
use lib.Dec.{eqb}
use Rattle.std.specs.Prelude.{Option, None, Some}
use Rattle.std.specs.Option.{option_eq}
use Rattle.reader.specs.Frames.{found, frame_length, is_frame}
use Rattle.reader.proofs.frame.is_frame.Goals as goal

compared : (t : Bool) (n l : ℕ) → option_eq eqb (cond t None (Some n)) (Some l) ≡ (not t && eqb n l)
compared true n l = refl
compared false n l = refl

pub returns : goal.returns
unfolding found is_frame
returns c =
    let l = length c.args.msg.now in
    let n = frame_length c.args.msg.now in
    c.eq.ensures ∙ ap (λ (o : Option ℕ). option_eq eqb o (Some l)) c.frame_length.ensures ∙ compared (eqb n 0) n l
