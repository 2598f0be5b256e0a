-- The strings on a sound board: each stands in its field, as a function that copies it asks, and is the string of the state.
use Prim.Native.Nat.{ℕ, ◌+◌, ◌*◌, ◌≤◌, ◌<◌}
use native.Mathlib.Omega.{arith}
use mathlib.Core.Path.{◌≡◌, refl, ap, ◌∙◌}
use mathlib.Core.List.{List}
use mathlib.Core.Bool.{true}
use lib.ListN.{length, get_or}
use lib.Dec.{lit<}
use borrow.Author.Tests.{le-leb}
use Rattle.layout.specs.Bytes.{bytes_at, bytes_written, put_bytes}
use Rattle.layout.specs.StringFields.{is_string, string_bytes, string_field}
use Rattle.layout.proofs.ByteLaws.{length-bytes_at}
use Rattle.layout.proofs.StringFieldLaws.{held-inside, held-length, held-string}
use Rattle.layout.proofs.WrittenLaws.{put_count}
use Rattle.reader.specs.Fields.{number_in, name_limit, info_limit, title_limit, text_limit, note_limit}
use Rattle.model.specs.Lists.{for_all}
use Rattle.model.specs.State.{user_limit, user_at, post_at, pending_at, note_at}
use Rattle.model.specs.Board.{StoredField, string, filler, user_fields, post_fields, pending_fields, note_fields, decode}
use Rattle.model.proofs.StateRules.{stored_fits}
use Rattle.model.proofs.StoredValues.{string-short, user-fits, post-fits, pending-fits, note-fits}
use Rattle.model.proofs.ReadingLaws.{read-user-name-field, read-user-info-field, read-post-title-field, read-post_text_field, read-pending-note-field, read-note_to}
use Rattle.model.proofs.SoundnessTheorems.{SoundState}
use Rattle.access.specs.Tables.{field_place}
use Rattle.access.specs.declared.tables.Table.TheVariants.{Users, Posts, Pending}

-- the string at a place of b is x: with its length it lies within b, and it is within its limit
pub record StringHeld (b : List ℕ) (at limit : ℕ) (x : List ℕ) : Type 0 where
  pub inside : at + (2 + number_in b at 2) ≤ length b
  pub content : bytes_at b at (2 + number_in b at 2) ≡ string_bytes x
  pub short : number_in b at 2 ≤ limit

-- so it has room in its field, and so many bytes are written by who copies it
module _ {b x : List ℕ} {at limit : ℕ} (held : StringHeld b at limit x) where
  pub held-room : length (bytes_at b at (2 + number_in b at 2)) ≤ 2 + limit
  held-room = let l = held.short in omega (arith, length-bytes_at b at (2 + number_in b at 2) held.inside)

  pub copied-count : (o : List ℕ) (to : ℕ) {n : ℕ} {o' : List ℕ} → bytes_written n o' ≡ put_bytes o to (bytes_at b at (2 + number_in b at 2))
      → n ≤ 2 + limit
  copied-count o to e = omega (arith, held-room, put_count o to (bytes_at b at (2 + number_in b at 2)) e)

-- it is x where x is the string in field k of a record that fits, which stands there
string-held : (b : List ℕ) (at : ℕ) {place : ℕ} (fields : List StoredField) (k limit : ℕ) (x : List ℕ) → at ≡ place
    → for_all stored_fits fields ≡ true → k < length fields → get_or fields k (filler 0) ≡ string limit x → limit < 65536
    → bytes_at b place (2 + limit) ≡ string_field limit x → StringHeld b at limit x
unfolding is_string
string-held b at fields k limit x p f h q l stands =
    let e = ap (λ (i : ℕ). bytes_at b i (2 + limit)) p ∙ stands in
    let short : length x ≤ limit = string-short fields k limit x f h q in
    let allowed : is_string limit x ≡ true = le-leb (length x) limit short in
    let stated = held-length b at limit x allowed (omega arith) e in
    let inside = held-inside b at limit x allowed (omega arith) e in
    record { inside = omega arith; content = held-string b at limit x allowed (omega arith) e; short = omega arith }

module _ {b : List ℕ} (w : SoundState b) where
  pub name-held : {i at : ℕ} → i < length (decode b).users → at ≡ field_place Users i 20 → StringHeld b at name_limit (user_at (decode b) i).name
  unfolding user_fields
  name-held {i} {at} h p =
      string-held b at (user_fields (user_at (decode b) i)) 4 name_limit (user_at (decode b) i).name p
      (user-fits (decode b) w.encoded.fits i) (lit< tt) refl (lit< tt) (read-user-name-field w.encoded i h)

  pub info-held : {i at : ℕ} → i < length (decode b).users → at ≡ field_place Users i 46 → StringHeld b at info_limit (user_at (decode b) i).info
  unfolding user_fields
  info-held {i} {at} h p =
      string-held b at (user_fields (user_at (decode b) i)) 5 info_limit (user_at (decode b) i).info p
      (user-fits (decode b) w.encoded.fits i) (lit< tt) refl (lit< tt) (read-user-info-field w.encoded i h)

  pub title-held : {i at : ℕ} → i < length (decode b).posts → at ≡ field_place Posts i 12 → StringHeld b at title_limit (post_at (decode b) i).title
  unfolding post_fields
  title-held {i} {at} h p =
      string-held b at (post_fields (post_at (decode b) i)) 4 title_limit (post_at (decode b) i).title p
      (post-fits (decode b) w.encoded.fits i) (lit< tt) refl (lit< tt) (read-post-title-field w.encoded i h)

  pub text_held : {i at : ℕ} → i < length (decode b).posts → at ≡ field_place Posts i 54 → StringHeld b at text_limit (post_at (decode b) i).text
  unfolding post_fields
  text_held {i} {at} h p =
      string-held b at (post_fields (post_at (decode b) i)) 5 text_limit (post_at (decode b) i).text p
      (post-fits (decode b) w.encoded.fits i) (lit< tt) refl (lit< tt) (read-post_text_field w.encoded i h)

  pub pending-note-held : {i at : ℕ} → i < length (decode b).pending → at ≡ field_place Pending i 4 → StringHeld b at note_limit (pending_at (decode b) i).note
  unfolding pending_fields
  pending-note-held {i} {at} h p =
      string-held b at (pending_fields (pending_at (decode b) i)) 1 note_limit (pending_at (decode b) i).note p
      (pending-fits (decode b) w.encoded.fits i) (lit< tt) refl (lit< tt) (read-pending-note-field w.encoded i h)

  -- the note to slot i from slot j, at its place
  pub note-held : {i j at : ℕ} → i < user_limit → j < user_limit → at ≡ 23824 + (user_limit * i + j) * 26
      → StringHeld b at note_limit (note_at (decode b) i j)
  unfolding note_fields
  note-held {i} {j} {at} h l p =
      string-held b at (note_fields (note_at (decode b) i j)) 0 note_limit (note_at (decode b) i j) p
      (note-fits (decode b) w.encoded.fits i j) (lit< tt) refl (lit< tt) (read-note_to w.encoded i j h l)
