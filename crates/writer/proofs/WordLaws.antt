-- Words and values: the values of an accepted message are found again from their words (`words_say`), of which there are as many as its fields have.
use Prim.Native.Nat.{ℕ, ◌+◌, ◌≤◌}
use native.Mathlib.Omega.{arith}
use mathlib.Core.Path.{◌≡◌, refl, ap, ap₂, ◌∙◌}
use mathlib.Core.List.{List, [], ◌∷◌, ◌++◌}
use mathlib.Core.Bool.{true, false}
use lib.ListN.{length, length-append}
use lib.Seq.{drop_at}
use borrow.Author.Tests.{le-leb}
use Rattle.layout.proofs.ByteLaws.{length-bytes_at}
use Rattle.reader.specs.Frames.{kind_of, body_of}
use Rattle.reader.specs.Fields.{FieldType, uint, string, FieldValue, number_in, field_fits, field_end, fields_fit, field_value, field_values}
use Rattle.reader.specs.Messages.{content, message_content, is_accepted, span_value}
use Rattle.reader.proofs.FieldLaws.{first_fits, rest-fits, string_end}
use Rattle.reader.proofs.MessageTheorems.{AcceptedFrame, accepted-frame, span_names}
use Rattle.writer.specs.Encoding.{result, put_whole}
use Rattle.writer.specs.Words.{word_count, word_value, word_values, listed_fields, word_content, value_words, values_words, read_of}
use Rattle.writer.proofs.SizeLaws.{total}

-- ---- the words of fields that fit, taken over the bytes that the fields stand in, are their values again

module _ (s : List ℕ) where
  pub count-words : (f : FieldType) (at : ℕ) → length (value_words (field_value f s at)) ≡ word_count f
  unfolding value_words field_value word_count
  count-words (uint w least greatest) at = refl
  count-words (string limit) at = refl

  pub words-counted : (fs : List FieldType) (at : ℕ) → length (values_words (field_values fs s at)) ≡ total word_count fs
  unfolding values_words field_values
  words-counted [] at = refl
  words-counted (f ∷ fs) at =
      let l = length-append (value_words (field_value f s at)) (values_words (field_values fs s (field_end f s at))) in
      omega (arith, count-words f at, words-counted fs (field_end f s at))

  value_of_words : (f : FieldType) (at : ℕ) (ws : List ℕ) → field_fits f s at ≡ true
      → word_value s f (value_words (field_value f s at) ++ ws) ≡ field_value f s at
  unfolding word_value value_words field_value
  value_of_words (uint w least greatest) at ws fit = refl
  value_of_words (string limit) at ws fit =
      let n : ℕ = number_in s at 2 in
      let here : at + 2 + n ≤ length s = string_end limit s at fit in
      ap (λ (k : ℕ). span_value s (record { start = at + 2; len = k })) (length-bytes_at s (at + 2) n here)
      ∙ span_names s n (record { start = at + 2; len = n }) (record { inside = here; short = omega arith })

  values_of_words : (fs : List FieldType) (at : ℕ) → fields_fit fs s at ≡ true → word_values s fs (values_words (field_values fs s at)) ≡ field_values fs s at
  unfolding word_values values_words field_values
  values_of_words [] at fit = refl
  values_of_words (f ∷ fs) at fit =
      let x : List ℕ = value_words (field_value f s at) in
      let rest : List ℕ = values_words (field_values fs s (field_end f s at)) in
      let n : length x ≡ word_count f = count-words f at in
      let l = length-append x rest in
      rw (le-leb (word_count f) (length (x ++ rest)) (omega arith))
      (ap₂ (λ (v : FieldValue) (vs : List FieldValue). v ∷ vs) (value_of_words f at rest (first_fits f fs s at fit))
      (ap (word_values s fs) (drop_at x rest (word_count f) n) ∙ values_of_words fs (field_end f s at) (rest-fits f fs s at fit)))

pub words_say : (frame : List ℕ) → is_accepted frame ≡ true
    → word_content (body_of frame) (kind_of frame) (values_words (message_content frame).values) ≡ message_content frame
unfolding word_content listed_fields
words_say frame t =
    let a : AcceptedFrame frame = accepted-frame frame t in
    rw (a.read, a.known) (ap (content (kind_of frame)) (values_of_words (body_of frame) a.fields 0 a.fit))

-- ---- the way back: a message, or a refusal

module _ (msg b : List ℕ) where
  pub read-accepted : is_accepted msg ≡ true → read_of (message_content msg) b ≡ put_whole (values_words (message_content msg).values) b
  unfolding read_of is_accepted
  read-accepted t = rw t

  pub read_not_accepted : is_accepted msg ≡ false → read_of (message_content msg) b ≡ result (message_content msg).code 0 b
  unfolding read_of is_accepted
  read_not_accepted t = rw t
