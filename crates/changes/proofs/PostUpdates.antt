-- The kinds 0402 to 0405: a field written at the place where the post was found.
use Prim.Native.Nat.{ℕ, ◌+◌, ◌*◌, ◌≤◌, ◌<◌}
use native.Mathlib.Omega.{arith}
use mathlib.Core.Path.{◌≡◌, refl, ap, ◌∙◌}
use mathlib.Core.List.{List}
use mathlib.Core.Bool.{true}
use lib.ListN.{length}
use Rattle.layout.specs.Bytes.{patch, write_at}
use Rattle.layout.specs.Numbers.{to_le_bytes}
use Rattle.layout.specs.StringFields.{is_string, string_field, write_string}
use Rattle.model.specs.State.{post_limit}
use Rattle.model.specs.Board.{decode}
use Rattle.model.specs.Lookups.{post_place}
use Rattle.model.specs.Actions.{Change}
use Rattle.model.specs.Refusals.{first_number, change_refusals}
use Rattle.model.specs.Changes.{apply_change}
use Rattle.model.proofs.BoardTheorems.{Encodes}
use Rattle.model.proofs.SoundnessTheorems.{SoundState}
use Rattle.changes.specs.ChangeResults.{returned, change_result}
use Rattle.access.proofs.AcceptedPlaces.{PlaceWithin}
use Rattle.changes.proofs.BoardWrites.{then_number, then_string}
use Rattle.changes.proofs.ChangeLaws.{change-accepted}
use Rattle.model.proofs.SoundBoards.{sound-length}

-- post n was found at a place, no row refuses the change, and the code writes where a field of that post stands
module _ {b : List ℕ} (w : SoundState b) (n : ℕ) {place : ℕ} (found : place ≡ post_place (decode b) n)
    (inside : PlaceWithin place (length (decode b).posts) post_limit)
    (c : Change) (e : 0 ≡ first_number (change_refusals (decode b) c)) (field : ℕ) {at : ℕ} (q : at ≡ 3344 + place * 312 + field) where
  -- x written to the field
  field-updated : (x : List ℕ) {after : List ℕ} → after ≡ patch b (3344 + place * 312 + field) x
      → (post_place (decode b) n < length (decode b).posts
      → Encodes (patch b (3344 + post_place (decode b) n * 312 + field) x) (apply_change (decode b) c))
      → returned 0 after ≡ change_result b c
  field-updated x f g = change-accepted b c e (f ∙ ap (λ (i : ℕ). patch b (3344 + i * 312 + field) x) found) (g (omega arith))

  -- the field lies within the board
  field-inside : (size : ℕ) → field + size ≤ 312 → at + size ≤ length b
  field-inside size h = omega (arith, sound-length w, q)

  pub number_updated : (width x : ℕ) {after : List ℕ} → field + width ≤ 312 → after ≡ write_at b at (to_le_bytes width x)
      → (post_place (decode b) n < length (decode b).posts
      → Encodes (patch b (3344 + post_place (decode b) n * 312 + field) (to_le_bytes width x)) (apply_change (decode b) c))
      → returned 0 after ≡ change_result b c
  number_updated width x h f =
      field-updated (to_le_bytes width x) (then_number refl (3344 + place * 312 + field) q width x (field-inside width h) f)

  pub string-updated : (limit : ℕ) (s : List ℕ) {after : List ℕ} → field + (2 + limit) ≤ 312 → is_string limit s ≡ true
      → after ≡ write_string b at limit s
      → (post_place (decode b) n < length (decode b).posts
      → Encodes (patch b (3344 + post_place (decode b) n * 312 + field) (string_field limit s)) (apply_change (decode b) c))
      → returned 0 after ≡ change_result b c
  string-updated limit s h t f =
      field-updated (string_field limit s) (then_string refl (3344 + place * 312 + field) q limit s t (field-inside (2 + limit) h) f)
