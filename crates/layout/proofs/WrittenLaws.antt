-- Bytes written to a place of a buffer, and counted: what the functions that write answers and lines return.
use Prim.Native.Nat.{ℕ, ◌+◌, ◌≤◌}
use mathlib.Core.Path.{◌≡◌, sym, ap, ap₂, ◌∙◌}
use mathlib.Core.List.{List, [], ◌++◌}
use lib.ListN.{length, length-append}
use Rattle.layout.specs.Bytes.{patch, write_at, BytesWritten, bytes_written, put_bytes}
use Rattle.layout.proofs.ByteLaws.{length-patch, patch_nil, patch-behind, write-within}

module _ (b : List ℕ) (at : ℕ) (x : List ℕ) {n : ℕ} {b' : List ℕ} where
  -- x written, and its length counted
  pub bytes-put : n ≡ length x → b' ≡ patch b at x → bytes_written n b' ≡ put_bytes b at x
  unfolding put_bytes
  bytes-put e f = ap₂ bytes_written e f

  -- by one of the functions that test the range
  pub bytes-put-within : n ≡ length x → at + n ≤ length b → b' ≡ write_at b at x → bytes_written n b' ≡ put_bytes b at x
  bytes-put-within e h f = bytes-put e (f ∙ write-within b at x (sym e) h)

  -- the parts of what a function has written
  pub put_count : bytes_written n b' ≡ put_bytes b at x → n ≡ length x
  unfolding put_bytes
  put_count e = ap (λ (w : BytesWritten). w.count) e

  pub put-buffer : bytes_written n b' ≡ put_bytes b at x → b' ≡ patch b at x
  unfolding put_bytes
  put-buffer e = ap (λ (w : BytesWritten). w.buffer) e

  pub put-length : at + length x ≤ length b → bytes_written n b' ≡ put_bytes b at x → length b' ≡ length b
  put-length h e = ap length (put-buffer e) ∙ length-patch b at x h

pub put_nothing : (b : List ℕ) (at : ℕ) → put_bytes b at [] ≡ bytes_written 0 b
unfolding put_bytes
put_nothing b at = ap (bytes_written 0) (patch_nil b at)

-- x at a place and y right behind it are x ++ y
pub put-behind : (b : List ℕ) (at : ℕ) (x y : List ℕ) {m n k : ℕ} {b₁ b₂ : List ℕ} → at + (length x + length y) ≤ length b
    → bytes_written m b₁ ≡ put_bytes b at x → k ≡ at + m → bytes_written n b₂ ≡ put_bytes b₁ k y → bytes_written (m + n) b₂ ≡ put_bytes b at (x ++ y)
put-behind b at x y {m} {n} {k} {b₁} {b₂} h e q f =
    let c = put_count b at x e in
    bytes-put b at (x ++ y)
    (ap₂ (λ (i j : ℕ). i + j) c (put_count b₁ k y f) ∙ sym (length-append x y))
    (patch-behind b at x y (put-buffer b at x e) (q ∙ ap (λ (i : ℕ). at + i) c) h (put-buffer b₁ k y f))
