-- Laws of the words of a message, field by field, as the two loops go over them: a field and its words are taken off, and the others are still to be
-- counted (`Sizing`) or written (`Writing`).
use Prim.Native.Nat.{ℕ, suc, ◌+◌, ◌≤◌, ◌<◌}
use native.Mathlib.Omega.{arith}
use mathlib.Core.Path.{◌≡◌, refl, sym, ap, ap₂, ◌∙◌}
use mathlib.Core.List.{List, [], ◌∷◌, ◌++◌, map}
use mathlib.Core.Bool.{Bool, true, false, ◌&&◌, cond}
use mathlib.Core.Option.{some}
use lib.ListN.{length, drop, get_or, length-append, drop_of_length-le}
use lib.Seq.{drop-cons}
use Rattle.std.specs.Prelude.{Some, None}
use Rattle.std.proofs.lemmas.List.{drop-map}
use lib.Dec.{leb}
use borrow.Author.Tests.{le-leb}
use Rattle.layout.specs.Bytes.{patch}
use Rattle.layout.proofs.BooleanLaws.{and_left, and_right}
use Rattle.layout.proofs.ByteLaws.{length-patch, patch_nil, patch_join}
use Rattle.reader.specs.Frames.{found}
use Rattle.reader.specs.Fields.{FieldType, value_fits, values_fit, value_bytes, values_bytes}
use Rattle.reader.specs.Kinds.{kind_fields}
use Rattle.reader.proofs.FrameLaws.{none_found, some_found}
use Rattle.writer.specs.Table.{AreOfKind, field_type, words_fit, words_size, fields_hold, body_bytes, frame_size}
use Rattle.writer.specs.Words.{word_count, word_value, word_values, listed_fields}
use Rattle.writer.specs.declared.table.Field.{Field}
use Rattle.writer.proofs.SizeLaws.{total, most_bytes, small-fields}
use Rattle.writer.proofs.ValueLaws.{fit_words, value-length, value-short}

-- ---- a field and its words taken off

module _ (lent : List ℕ) (f : FieldType) (fs : List FieldType) (ws : List ℕ) where
  abbrev rest : List ℕ
  rest = drop (word_count f) ws

  fits-split : fields_hold lent (f ∷ fs) ws ≡ (words_fit lent f ws && fields_hold lent fs rest)
  unfolding fields_hold word_values words_fit values_fit
  fits-split = by_test (leb (word_count f) (length ws))
    where
      by_test : (t : Bool) → values_fit (f ∷ fs) (cond t (word_value lent f ws ∷ word_values lent fs rest) [])
          ≡ (t && value_fits f (word_value lent f ws) && values_fit fs (word_values lent fs rest))
      by_test true = refl
      by_test false = refl

  module _ (fit : words_fit lent f ws ≡ true) where
    bytes-split : body_bytes lent (f ∷ fs) ws ≡ value_bytes f (word_value lent f ws) ++ body_bytes lent fs rest
    unfolding body_bytes word_values values_bytes
    bytes-split = rw (le-leb (word_count f) (length ws) (fit_words lent f ws fit)) refl

    size-split : length (body_bytes lent (f ∷ fs) ws) ≡ words_size f ws + length (body_bytes lent fs rest)
    size-split =
        ap length bytes-split ∙ length-append (value_bytes f (word_value lent f ws)) (body_bytes lent fs rest)
        ∙ ap (λ (n : ℕ). n + length (body_bytes lent fs rest)) (value-length lent f ws fit)

-- ---- the fields that the code goes over, as the definitions have them

-- the field at an index, and those behind it
pub field_next : (fields : List Field) (index : ℕ) (d : Field) → index < length fields
    → drop index (map field_type fields) ≡ field_type (get_or fields index d) ∷ drop (index + 1) (map field_type fields)
field_next fields index d h =
    let one : suc index ≡ index + 1 = omega arith in
    drop-map field_type index fields ∙ ap (map field_type) (drop-cons fields index d h)
    ∙ ap (λ (gs : List FieldType). field_type (get_or fields index d) ∷ gs)
    (sym (drop-map field_type (suc index) fields) ∙ ap (λ (k : ℕ). drop k (map field_type fields)) one)

-- behind the last one there is none
pub no_field : (fields : List Field) (index : ℕ) → length fields ≤ index → drop index (map field_type fields) ≡ []
no_field fields index h = drop-map field_type index fields ∙ ap (map field_type) (drop_of_length-le fields {i = index} h)

-- ---- what is known of the fields of a kind

module _ {fs : List FieldType} (k : AreOfKind fs) where
  pub of_kind : (P : List FieldType → Type 0) → P (listed_fields (kind_fields k.0)) → P fs
  unfolding listed_fields
  of_kind P h = rw k.1 at h

-- ---- the size of a frame, counted field by field

-- what is still to be counted, behind n bytes
unfoldable pub size_behind : List ℕ → ℕ → List FieldType → List ℕ → ℕ
size_behind lent n fs ws = cond (fields_hold lent fs ws) (n + length (body_bytes lent fs ws)) 0

size_turn : (lent : List ℕ) (n : ℕ) (f : FieldType) (fs : List FieldType) (ws : List ℕ) → words_fit lent f ws ≡ true
    → size_behind lent n (f ∷ fs) ws ≡ size_behind lent (n + words_size f ws) fs (drop (word_count f) ws)
unfolding size_behind
size_turn lent n f fs ws fit =
    let rest : List ℕ = drop (word_count f) ws in
    let size : n + length (body_bytes lent (f ∷ fs) ws) ≡ n + words_size f ws + length (body_bytes lent fs rest) = omega (arith, size-split lent f fs ws fit) in
    ap₂ (λ (t : Bool) (m : ℕ). cond t m 0) (fits-split lent f fs ws ∙ ap (λ (t : Bool). t && fields_hold lent fs rest) fit) size

size-ends : (lent : List ℕ) (n : ℕ) (ws : List ℕ) → length ws ≡ 0 → n ≡ size_behind lent n [] ws
unfolding size_behind fields_hold body_bytes word_values values_fit values_bytes
size-ends lent n [] h = omega arith
size-ends lent n (w ∷ ws) h = absurd (omega arith)

size-left : (lent : List ℕ) (n : ℕ) (ws : List ℕ) → 0 < length ws → 0 ≡ size_behind lent n [] ws
unfolding size_behind fields_hold word_values values_fit
size-left lent n [] h = absurd (omega arith)
size-left lent n (w ∷ ws) h = refl

-- a turn of the loop: the fields before an index are counted, and their words are used
pub record Sizing (lent : List ℕ) (fs : List FieldType) (ws : List ℕ) (size : ℕ) (left : List ℕ) (index : ℕ) : Type 0 where
  pub counted : frame_size lent (some fs) ws ≡ size_behind lent size (drop index fs) left
  pub small : size + total most_bytes (drop index fs) ≤ 278
  pub head : 4 ≤ size

module _ (lent : List ℕ) (fs : List FieldType) (ws : List ℕ) where
  pub sizing_starts : AreOfKind fs → Sizing lent fs ws 4 ws 0
  unfolding frame_size size_behind
  sizing_starts k =
      let few : total most_bytes fs ≤ 274 = of_kind k (λ (gs : List FieldType). total most_bytes gs ≤ 274) (small-fields k.0) in
      record { counted = refl; small = omega arith; head = omega arith }

  module _ {size index : ℕ} {left : List ℕ} (s : Sizing lent fs ws size left index) where
    module _ (f : FieldType) (n : drop index fs ≡ f ∷ drop (index + 1) fs) where
      next : frame_size lent (some fs) ws ≡ size_behind lent size (f ∷ drop (index + 1) fs) left
      next = s.counted ∙ ap (λ (gs : List FieldType). size_behind lent size gs left) n

      pub size_unfit : words_fit lent f left ≡ false → frame_size lent (some fs) ws ≡ 0
      unfolding size_behind
      size_unfit u = next ∙ rw (fits-split lent f (drop (index + 1) fs) left, u) refl

      module _ (fit : words_fit lent f left ≡ true) where
        pub size_small : size + words_size f left + total most_bytes (drop (index + 1) fs) ≤ 278
        size_small = omega (arith, s.small, ap (total most_bytes) n, value-short lent f left fit)

        pub size_goes_on : {k : ℕ} {left' : List ℕ} → k ≡ words_size f left → left' ≡ drop (word_count f) left
            → Sizing lent fs ws (size + k) left' (index + 1)
        size_goes_on {k} {left'} q l =
            record {
              counted = next ∙ size_turn lent size f (drop (index + 1) fs) left fit
                  ∙ ap₂ (λ (i : ℕ) (x : List ℕ). size_behind lent (size + i) (drop (index + 1) fs) x) (sym q) (sym l);
              small = omega (arith, size_small);
              head = omega (arith, s.head);
            }

    module _ (z : drop index fs ≡ []) where
      ended : frame_size lent (some fs) ws ≡ size_behind lent size [] left
      ended = s.counted ∙ ap (λ (gs : List FieldType). size_behind lent size gs left) z

      pub size-done : length left ≡ 0 → Some size ≡ found (frame_size lent (some fs) ws)
      size-done q =
          let e : size ≡ frame_size lent (some fs) ws = size-ends lent size left q ∙ sym ended in
          ap Some e ∙ some_found (λ z. omega (arith, s.head))

      pub words_left : (length left ≡ 0 → ⊥) → None ≡ found (frame_size lent (some fs) ws)
      words_left q = none_found (ended ∙ sym (size-left lent size left (omega (arith, q))))

-- ---- the body, written field by field

-- a turn of the loop: what is left to write, at a place of the buffer b that was b₀, makes it whole
pub record Writing (lent : List ℕ) (fs : List FieldType) (ws b₀ b : List ℕ) (at : ℕ) (left : List ℕ) (index : ℕ) : Type 0 where
  pub fits : fields_hold lent (drop index fs) left ≡ true
  pub small : total most_bytes (drop index fs) ≤ 274
  pub same : length b ≡ length b₀
  pub room : at + length (body_bytes lent (drop index fs) left) ≤ length b
  pub whole : patch b at (body_bytes lent (drop index fs) left) ≡ patch b₀ 4 (body_bytes lent fs ws)

module _ (lent : List ℕ) (fs : List FieldType) (ws b₀ : List ℕ) where
  pub writing_starts : AreOfKind fs → fields_hold lent fs ws ≡ true → 4 + length (body_bytes lent fs ws) ≤ length b₀ → Writing lent fs ws b₀ b₀ 4 ws 0
  writing_starts k f h =
      let few = of_kind k (λ (gs : List FieldType). total most_bytes gs ≤ 274) (small-fields k.0) in
      record { fits = f; small = few; same = refl; room = h; whole = refl }

  module _ {b : List ℕ} {at index : ℕ} {left : List ℕ} (s : Writing lent fs ws b₀ b at left index) where
    module _ (f : FieldType) (n : drop index fs ≡ f ∷ drop (index + 1) fs) where
      abbrev later : List FieldType
      later = drop (index + 1) fs

      abbrev behind : List ℕ
      behind = drop (word_count f) left

      split : (words_fit lent f left && fields_hold lent later behind) ≡ true
      split = sym (ap (λ (gs : List FieldType). fields_hold lent gs left) n ∙ fits-split lent f later left) ∙ s.fits

      pub first_fits : words_fit lent f left ≡ true
      first_fits = and_left (words_fit lent f left) (fields_hold lent later behind) split

      bytes : body_bytes lent (drop index fs) left ≡ value_bytes f (word_value lent f left) ++ body_bytes lent later behind
      bytes = rw (n, bytes-split lent f later left first_fits) refl

      sizes : length (body_bytes lent (drop index fs) left) ≡ words_size f left + length (body_bytes lent later behind)
      sizes = rw (n, size-split lent f later left first_fits) refl

      pub value_room : at + words_size f left ≤ length b
      value_room = omega (arith, s.room, sizes)

      pub value-small : words_size f left + total most_bytes later ≤ 274
      value-small = omega (arith, s.small, ap (total most_bytes) n, value-short lent f left first_fits)

      pub writing_goes_on : {b' left' : List ℕ} {end : ℕ} → b' ≡ patch b at (value_bytes f (word_value lent f left)) → end ≡ at + words_size f left → left' ≡ behind
          → Writing lent fs ws b₀ b' end left' (index + 1)
      writing_goes_on {b'} {left'} {end} q e l =
          let v : List ℕ = value_bytes f (word_value lent f left) in
          let rest : List ℕ = body_bytes lent later behind in
          let lv : length v ≡ words_size f left = value-length lent f left first_fits in
          let room : at + (length v + length rest) ≤ length b = omega (arith, s.room, sizes) in
          let same : length b' ≡ length b = ap length q ∙ length-patch b at v (omega arith) in
          let lr : length (body_bytes lent later left') ≡ length rest = ap (λ (x : List ℕ). length (body_bytes lent later x)) l in
          record {
            fits = ap (fields_hold lent later) l ∙ and_right (words_fit lent f left) (fields_hold lent later behind) split;
            small = omega (arith, value-small);
            same = same ∙ s.same;
            room = omega arith;
            whole = ap₂ (λ (k : ℕ) (x : List ℕ). patch b' k (body_bytes lent later x)) e l
                ∙ ap₂ (λ (x : List ℕ) (k : ℕ). patch x (at + k) rest) q (sym lv)
                ∙ patch_join b at v rest room ∙ ap (patch b at) (sym bytes) ∙ s.whole;
          }

    pub writing_ends : drop index fs ≡ [] → b ≡ patch b₀ 4 (body_bytes lent fs ws)
    unfolding body_bytes values_bytes
    writing_ends z = sym (patch_nil b at) ∙ ap (λ (gs : List FieldType). patch b at (body_bytes lent gs left)) (sym z) ∙ s.whole
