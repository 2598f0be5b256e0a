-- A text that is written into a buffer, one part behind the other.
use Rattle.std.specs.Prelude.{ℕ, ◌≡◌, ◌+◌, ◌≤◌, List, length}
use Rattle.layout.specs.Bytes.{patch}
use Rattle.report.specs.declared.text.TextWriter.{TextWriter}

-- room for n bytes more
abbrev pub HasRoom : TextWriter → ℕ → Type 0
HasRoom w n = w.size + n ≤ length w.text.now

-- from w to w₁ x was written behind what was there, in the same buffer
pub record Writes (w : TextWriter) (x : List ℕ) (w₁ : TextWriter) : Type 0 where
  pub same_buffer : w₁.text.ghost_name ≡ w.text.ghost_name
  pub kept : length w₁.text.now ≡ length w.text.now
  pub size : w₁.size ≡ w.size + length x
  pub text : w₁.text.now ≡ patch w.text.now w.size x
