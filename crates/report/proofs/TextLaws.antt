-- What is written into a buffer part by part is written as a whole.
use Prim.Native.Nat.{ℕ, ◌+◌, ◌-◌, ◌≤◌}
use native.Mathlib.Omega.{arith}
use mathlib.Core.Path.{◌≡◌, refl, sym, ap, ap₂, ◌∙◌}
use mathlib.Core.List.{List, [], ◌++◌}
use borrow.Rule.Slice.PartMut.{put_mid}
use lib.ListN.{length, length-append}
use Rattle.layout.specs.Bytes.{patch, bytes_written, put_bytes}
use Rattle.layout.proofs.ByteLaws.{patch_nil, patch-behind, write-within}
use Rattle.layout.proofs.RunLaws.{copied}
use Rattle.layout.proofs.WrittenLaws.{bytes-put}
use Rattle.report.specs.Texts.{HasRoom, Writes}
use Rattle.report.specs.declared.text.TextWriter.{TextWriter}

pub Writes-nothing : (w : TextWriter) → Writes w [] w
Writes-nothing w = record { same_buffer = refl; kept = refl; size = omega arith; text = sym (patch_nil w.text.now w.size) }

-- x, and then y
pub Writes-append : {w : TextWriter} {x y : List ℕ} {w₁ w₂ : TextWriter} → Writes w x w₁ → Writes w₁ y w₂ → HasRoom w (length x + length y)
    → Writes w (x ++ y) w₂
Writes-append {w} {x} {y} first later room = record {
  same_buffer = later.same_buffer ∙ first.same_buffer;
  kept = later.kept ∙ first.kept;
  size = omega (arith, first.size, later.size, length-append x y);
  text = patch-behind w.text.now w.size x y first.text first.size room later.text;
}

-- from the beginning of a buffer on
pub Writes-whole : {w : TextWriter} {x : List ℕ} {w₁ : TextWriter} (t : List ℕ) → w.size ≡ 0 → w.text.now ≡ t → Writes w x w₁
    → bytes_written w₁.size w₁.text.now ≡ put_bytes t 0 x
Writes-whole {x = x} t empty same written =
    bytes-put t 0 x (omega (arith, empty, written.size)) (written.text ∙ ap₂ (λ (b : List ℕ) (at : ℕ). patch b at x) same empty)

-- what is copied into the part of k bytes behind what is written
pub part_written : (w : TextWriter) (x : List ℕ) {k : ℕ} {y : List ℕ} → k ≡ length x → HasRoom w k → y ≡ x
    → put_mid w.size (w.size + k - w.size) w.text.now y ≡ patch w.text.now w.size x
part_written w x {y = y} size room same =
    let within : w.size + length x ≤ length w.text.now = omega (arith, size, room) in
    ap (λ (k : ℕ). put_mid w.size (w.size + k - w.size) w.text.now y) size
    ∙ copied w.text.now w.size x refl within same ∙ write-within w.text.now w.size x refl within
