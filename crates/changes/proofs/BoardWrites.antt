-- Writes one behind the other, each within the board: what the code has written last is the patch of what it had before.
use Prim.Native.Nat.{ℕ, ◌+◌, ◌*◌, ◌≤◌}
use mathlib.Core.Path.{◌≡◌, ap, ap₂, ◌∙◌}
use mathlib.Core.List.{List}
use mathlib.Core.Bool.{true}
use lib.ListN.{length, replicate, length-replicate}
use Rattle.layout.specs.Bytes.{patch, write_at}
use Rattle.layout.specs.Numbers.{to_le_bytes}
use Rattle.layout.specs.StringFields.{is_string, string_field, write_string}
use Rattle.layout.proofs.NumberLaws.{length_to}
use Rattle.layout.proofs.ByteLaws.{write-within}
use Rattle.layout.proofs.StringFieldLaws.{string-within}
use Rattle.model.proofs.ChangeWrites.{bit_written, friends_written}
use Rattle.changes.specs.Rows.{BitChanged, FriendsChanged}

-- x is the board before the write, b that board as the code has it, and the code writes at the place `at`
module _ {x b after : List ℕ} (e : b ≡ x) (place : ℕ) {at : ℕ} (p : at ≡ place) where
  -- y written by a function that tests the range
  then_bytes : (y : List ℕ) {n : ℕ} → length y ≡ n → at + n ≤ length b → after ≡ write_at b at y → after ≡ patch x place y
  then_bytes y l h w = w ∙ write-within b at y l h ∙ ap₂ (λ (c : List ℕ) (i : ℕ). patch c i y) e p

  pub then_number : (width v : ℕ) → at + width ≤ length b → after ≡ write_at b at (to_le_bytes width v) → after ≡ patch x place (to_le_bytes width v)
  then_number width v = then_bytes (to_le_bytes width v) (length_to width v)

  pub then_zeros : (n : ℕ) → at + n ≤ length b → after ≡ write_at b at (replicate n 0) → after ≡ patch x place (replicate n 0)
  then_zeros n = then_bytes (replicate n 0) (length-replicate n 0)

  pub then_string : (limit : ℕ) (s : List ℕ) → is_string limit s ≡ true → at + (2 + limit) ≤ length b → after ≡ write_string b at limit s
      → after ≡ patch x place (string_field limit s)
  then_string limit s t h w = w ∙ string-within b at limit s t h ∙ ap₂ (λ (c : List ℕ) (i : ℕ). patch c i (string_field limit s)) e p

  -- bit j of a row changed by f
  pub then_bit : (f : ℕ → ℕ → ℕ) (j : ℕ) → after ≡ bit_written f b at j → after ≡ bit_written f x place j
  then_bit f j w = w ∙ ap₂ (λ (c : List ℕ) (i : ℕ). bit_written f c i j) e p

-- the row and the friend rows that a function has changed that computes f
module _ (f : ℕ → ℕ → ℕ) where
  pub bit-changed : (old : List ℕ) (at j : ℕ) {new : List ℕ} → BitChanged (λ row k x. x ≡ f row k) old at j new → new ≡ bit_written f old at j
  bit-changed old at j (x, e, w) = w ∙ ap (λ (y : ℕ). patch old at (to_le_bytes 4 y)) e

  pub friends-changed : (old : List ℕ) (i j : ℕ) {new : List ℕ} → FriendsChanged (λ row k x. x ≡ f row k) old i j new → new ≡ friends_written f old i j
  friends-changed old i j (one, first, second) =
      bit-changed _ _ _ second ∙ ap (λ (b : List ℕ). bit_written f b (16 + j * 104 + 12) i) (bit-changed _ _ _ first)
