-- Laws of the way back, field by field, as its two loops go over a body: a field is taken off, and the others are still to be tested and counted
-- (`Counting`) or written (`Filling`). And the results of `read`.
use Prim.Native.Nat.{ℕ, ◌+◌, ◌≤◌, ◌<◌}
use native.Mathlib.Omega.{arith}
use mathlib.Core.Path.{◌≡◌, refl, sym, ap, ap₂, ◌∙◌}
use mathlib.Core.List.{List, [], ◌∷◌, ◌++◌}
use mathlib.Core.Bool.{Bool, true, false, ◌&&◌, cond}
use mathlib.Core.Option.{some}
use lib.ListN.{length, drop, set, length-set}
use Rattle.std.specs.Prelude.{Some, None}
use borrow.Author.Tests.{eq-eqb, ne_eqb}
use Rattle.layout.specs.Bytes.{patch}
use Rattle.layout.proofs.BooleanLaws.{and_left, and_right}
use Rattle.layout.proofs.ByteLaws.{length-bytes_at, length-patch, patch_nil, patch_join, patch-behind, patch_store}
use Rattle.reader.specs.Frames.{found}
use Rattle.reader.specs.Kinds.{kind_fields, is_kind}
use Rattle.reader.specs.Messages.{Content, content, body_content, message_content, refusal_number}
use Rattle.reader.specs.declared.Refusal.{Refusal}
use Rattle.reader.specs.Fields.{FieldType, uint, string, number_in, field_fits, field_end, field_value, fields_fit, field_values}
use Rattle.reader.proofs.FieldLaws.{string_end}
use Rattle.reader.proofs.FrameLaws.{found_none, found_is, found_some, none_found, some_found}
use Rattle.reader.proofs.MessageTheorems.{refusal_no_kind}
use Rattle.writer.specs.Encoding.{result, put_whole}
use Rattle.writer.specs.Table.{AreOfKind, body_word_count}
use Rattle.writer.specs.Words.{word_count, value_words, values_words, read_of}
use Rattle.writer.proofs.BodyLaws.{of_kind}
use Rattle.writer.proofs.EncodingLaws.{put-done, put-short}
use Rattle.writer.proofs.SizeLaws.{total, few_words, kind_has_fields}
use Rattle.writer.proofs.WordLaws.{count-words, words-counted}

-- ---- fields have words

some_words : (fs : List FieldType) → 0 < length fs → 0 < total word_count fs
unfolding word_count
some_words [] h = h
some_words (uint w least greatest ∷ fs) h = omega arith
some_words (string limit ∷ fs) h = omega arith

-- ---- a body tested and its words counted

-- what is still to be tested and counted, behind n words
unfoldable pub count_behind : ℕ → List FieldType → List ℕ → ℕ → ℕ
count_behind n fs body at = cond (fields_fit fs body at) (n + total word_count fs) 0

count_turn : (n : ℕ) (f : FieldType) (fs : List FieldType) (body : List ℕ) (at : ℕ) → field_fits f body at ≡ true
    → count_behind n (f ∷ fs) body at ≡ count_behind (n + word_count f) fs body (field_end f body at)
unfolding count_behind fields_fit
count_turn n f fs body at fit =
    let size : n + (word_count f + total word_count fs) ≡ n + word_count f + total word_count fs = omega arith in
    ap₂ (λ (t : Bool) (m : ℕ). cond (t && fields_fit fs body (field_end f body at)) m 0) fit size

has_words : (f : FieldType) → 1 ≤ word_count f
unfolding word_count
has_words (uint w least greatest) = omega arith
has_words (string limit) = omega arith

-- a turn of the loop: the fields before an index fit and end at a place, and their words are counted
pub record Counting (fs : List FieldType) (body : List ℕ) (at words index : ℕ) : Type 0 where
  pub counted : body_word_count (some fs) body ≡ count_behind words (drop index fs) body at
  pub few : words + total word_count (drop index fs) ≤ 7
  pub there : 0 < words + total word_count (drop index fs)

module _ (fs : List FieldType) (body : List ℕ) where
  pub counting_starts : AreOfKind fs → Counting fs body 0 0 0
  unfolding body_word_count count_behind
  counting_starts k =
      let few : total word_count fs ≤ 7 = of_kind k (λ (gs : List FieldType). total word_count gs ≤ 7) (few_words k.0) in
      let there : 0 < total word_count fs = some_words fs (kind_has_fields k.0 fs k.1) in
      record {
        counted = ap (λ (n : ℕ). cond (fields_fit fs body 0) n 0) (words-counted body fs 0 ∙ omega arith);
        few = omega arith;
        there = omega arith;
      }

  module _ {at words index : ℕ} (s : Counting fs body at words index) where
    module _ (f : FieldType) (n : drop index fs ≡ f ∷ drop (index + 1) fs) where
      abbrev later : List FieldType
      later = drop (index + 1) fs

      next : body_word_count (some fs) body ≡ count_behind words (f ∷ later) body at
      next = s.counted ∙ ap (λ (gs : List FieldType). count_behind words gs body at) n

      pub count_unfit : field_fits f body at ≡ false → None ≡ found (body_word_count (some fs) body)
      unfolding count_behind fields_fit
      count_unfit u =
          none_found (next ∙ ap (λ (t : Bool). cond (t && fields_fit later body (field_end f body at)) (words + total word_count (f ∷ later)) 0) u)

      pub word-left : words < 7
      word-left = omega (arith, s.few, ap (total word_count) n, has_words f)

      pub count_goes_on : {end k : ℕ} → field_fits f body at ≡ true → end ≡ field_end f body at → k ≡ words + word_count f
          → Counting fs body end k (index + 1)
      count_goes_on {end} {k} fit q c =
          let same = ap (total word_count) n in
          record {
            counted = next ∙ count_turn words f later body at fit ∙ ap₂ (λ (i j : ℕ). count_behind i later body j) (sym c) (sym q);
            few = omega (arith, s.few);
            there = omega (arith, s.there);
          }

    module _ (z : drop index fs ≡ []) where
      ended : body_word_count (some fs) body ≡ count_behind words [] body at
      ended = s.counted ∙ ap (λ (gs : List FieldType). count_behind words gs body at) z

      pub count-done : length body ≡ at → Some words ≡ found (body_word_count (some fs) body)
      unfolding count_behind fields_fit
      count-done q =
          let sum : words ≡ words + 0 = omega arith in
          let e : words ≡ body_word_count (some fs) body = sum ∙ sym (ended ∙ ap (λ (t : Bool). cond t (words + 0) 0) (eq-eqb (length body) at q)) in
          ap Some e ∙ some_found (λ y. omega (arith, s.there, ap (total word_count) z))

      pub bytes_left : (length body ≡ at → ⊥) → None ≡ found (body_word_count (some fs) body)
      unfolding count_behind fields_fit
      bytes_left q = none_found (ended ∙ ap (λ (t : Bool). cond t (words + 0) 0) (ne_eqb (length body) at q))

-- ---- the words of a field

-- two words stored one behind the other
pub two_stored : (v : List ℕ) (word x y : ℕ) → word + 2 ≤ length v → set (set v word x) (word + 1) y ≡ patch v word (x ∷ y ∷ [])
two_stored v word x y h =
    let kept = length-set v word x in
    patch-behind v word (x ∷ []) (y ∷ []) (patch_store v word x (omega arith)) refl (omega arith) (patch_store (set v word x) (word + 1) y (omega arith))

-- the words of a string that fits
pub string-words : (limit : ℕ) (body : List ℕ) (at : ℕ) → field_fits (string limit) body at ≡ true
    → (at + 2) ∷ number_in body at 2 ∷ [] ≡ value_words (field_value (string limit) body at)
unfolding value_words field_value
string-words limit body at fit =
    ap (λ (x : ℕ). (at + 2) ∷ x ∷ []) (sym (length-bytes_at body (at + 2) (number_in body at 2) (string_end limit body at fit)))

-- ---- the words of a body, written field by field

-- a turn of the loop: what is left to write, at a place of the slice v that was v₀, makes it whole
pub record Filling (fs : List FieldType) (body v₀ v : List ℕ) (at word index : ℕ) : Type 0 where
  pub fits : fields_fit (drop index fs) body at ≡ true
  pub same : length v ≡ length v₀
  pub room : word + total word_count (drop index fs) ≤ length v
  pub whole : patch v word (values_words (field_values (drop index fs) body at)) ≡ patch v₀ 0 (values_words (field_values fs body 0))

module _ (fs : List FieldType) (body v₀ : List ℕ) where
  pub filling_starts : fields_fit fs body 0 ≡ true → length (values_words (field_values fs body 0)) ≤ length v₀ → Filling fs body v₀ v₀ 0 0 0
  filling_starts f h = record { fits = f; same = refl; room = omega (arith, words-counted body fs 0); whole = refl }

  module _ {v : List ℕ} {at word index : ℕ} (s : Filling fs body v₀ v at word index) where
    module _ (f : FieldType) (n : drop index fs ≡ f ∷ drop (index + 1) fs) where
      abbrev others : List FieldType
      others = drop (index + 1) fs

      split : (field_fits f body at && fields_fit others body (field_end f body at)) ≡ true
      unfolding fields_fit
      split = ap (λ (gs : List FieldType). fields_fit gs body at) (sym n) ∙ s.fits

      pub first_fits : field_fits f body at ≡ true
      first_fits = and_left (field_fits f body at) (fields_fit others body (field_end f body at)) split

      pub field_room : word + word_count f + total word_count others ≤ length v
      field_room = omega (arith, s.room, ap (total word_count) n)

      pub filling_goes_on : {v' : List ℕ} {end k : ℕ} → v' ≡ patch v word (value_words (field_value f body at)) → end ≡ field_end f body at → k ≡ word + word_count f
          → Filling fs body v₀ v' end k (index + 1)
      unfolding values_words field_values
      filling_goes_on {v'} {end} {k} g q c =
          let w : List ℕ = value_words (field_value f body at) in
          let rest : List ℕ = values_words (field_values others body (field_end f body at)) in
          let lw : length w ≡ word_count f = count-words body f at in
          let lr : length rest ≡ total word_count others = words-counted body others (field_end f body at) in
          let words : values_words (field_values (drop index fs) body at) ≡ w ++ rest =
          ap (λ (gs : List FieldType). values_words (field_values gs body at)) n
          in
          let same : length v' ≡ length v = ap length g ∙ length-patch v word w (omega (arith, field_room)) in
          record {
            fits = ap (fields_fit others body) q ∙ and_right (field_fits f body at) (fields_fit others body (field_end f body at)) split;
            same = same ∙ s.same;
            room = omega (arith, field_room);
            whole = ap (λ (j : ℕ). patch v' k (values_words (field_values others body j))) q
                ∙ ap₂ (λ (x : List ℕ) (i : ℕ). patch x i rest) g (c ∙ ap (λ (i : ℕ). word + i) (sym lw))
                ∙ patch_join v word w rest (omega (arith, field_room)) ∙ ap (patch v word) (sym words) ∙ s.whole;
          }

    pub filling_ends : drop index fs ≡ [] → v ≡ patch v₀ 0 (values_words (field_values fs body 0))
    unfolding values_words field_values
    filling_ends z = sym (patch_nil v word) ∙ ap (λ (gs : List FieldType). patch v word (values_words (field_values gs body at))) (sym z) ∙ s.whole

-- ---- the results of `read`

module _ (msg v : List ℕ) where
  pub refused-read : (r : Refusal) → content (refusal_number r) [] ≡ message_content msg → result (refusal_number r) 0 v ≡ read_of (message_content msg) v
  unfolding read_of
  refused-read r e = sym (ap (λ (c : Content). read_of c v) (sym e) ∙ rw (refusal_no_kind r) refl)

module _ (k : ℕ) (fs : List FieldType) (body : List ℕ) (known : kind_fields k ≡ some fs) where
  -- no words in the body of a known kind: it does not fit, since every field has a word
  pub uncounted : None ≡ found (body_word_count (some fs) body) → content 5 [] ≡ body_content k (kind_fields k) body
  unfolding body_word_count body_content
  uncounted e = rw known (by_fit (fields_fit fs body 0) (found_none e))
    where
      by_fit : (t : Bool) → cond t (length (values_words (field_values fs body 0))) 0 ≡ 0 → content 5 [] ≡ cond t (content k (field_values fs body 0)) (content 5 [])
      by_fit true q = absurd (omega (arith, words-counted body fs 0, some_words fs (kind_has_fields k fs known)))
      by_fit false q = refl

  -- words: it fits, and they are those of its values
  module _ {n : ℕ} (e : Some n ≡ found (body_word_count (some fs) body)) where
    counted : (fields_fit fs body 0 ≡ true) × (n ≡ length (values_words (field_values fs body 0)))
    unfolding body_word_count
    counted = by_fit (fields_fit fs body 0) refl (found_is e) (found_some (body_word_count (some fs) body) e)
      where
        by_fit : (t : Bool) → fields_fit fs body 0 ≡ t → n ≡ cond t (length (values_words (field_values fs body 0))) 0 → (n ≡ 0 → ⊥)
            → (fields_fit fs body 0 ≡ true) × (n ≡ length (values_words (field_values fs body 0)))
        by_fit true t q z = (t, q)
        by_fit false t q z = absurd (z q)

    pub counted-fit : fields_fit fs body 0 ≡ true
    counted-fit = counted.0

    pub counted_words : n ≡ length (values_words (field_values fs body 0))
    counted_words = counted.1

    module _ (msg v : List ℕ) (whole : body_content k (kind_fields k) body ≡ message_content msg) where
      abbrev words : List ℕ
      words = values_words (field_values fs body 0)

      read-put : put_whole words v ≡ read_of (message_content msg) v
      unfolding read_of is_kind body_content
      read-put =
          let body_read : body_content k (kind_fields k) body ≡ content k (field_values fs body 0) = rw (known, counted-fit) refl in
          sym (ap (λ (x : Content). read_of x v) (sym whole ∙ body_read) ∙ rw known refl)

      pub short-read : length v < n → result 13 0 v ≡ read_of (message_content msg) v
      short-read h = sym (put-short words v (omega (arith, counted_words))) ∙ read-put

      pub words-read : {v' : List ℕ} → n ≤ length v → v' ≡ patch v 0 words → result 0 n v' ≡ read_of (message_content msg) v
      words-read h q = ap₂ (result 0) counted_words q ∙ sym (put-done words v (omega (arith, counted_words))) ∙ read-put
