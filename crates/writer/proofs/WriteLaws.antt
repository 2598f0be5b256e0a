-- The results of `write`: an unknown kind, and by the size that `frame_size` found no frame, no room for the frame, and the frame, head and body.
use Prim.Native.Nat.{ℕ, ◌+◌, ◌-◌, ◌≤◌, ◌<◌}
use native.Mathlib.Omega.{arith}
use mathlib.Core.Path.{◌≡◌, refl, sym, ap, ap₂, ◌∙◌}
use mathlib.Core.List.{List, ◌++◌, append_assoc}
use mathlib.Core.Bool.{Bool, true, false, cond}
use mathlib.Core.Option.{some, none}
use lib.ListN.{length, length-append}
use Rattle.std.specs.Prelude.{Some, None}
use Rattle.layout.specs.Bytes.{patch, write_at}
use Rattle.layout.specs.Numbers.{to_le_bytes}
use Rattle.layout.proofs.ByteLaws.{write_patches, write-behind, patch-behind}
use Rattle.layout.proofs.NumberLaws.{length_to}
use Rattle.reader.specs.Frames.{found, frame_bytes}
use Rattle.reader.specs.Fields.{FieldType, values_bytes}
use Rattle.reader.specs.Kinds.{kind_fields}
use Rattle.reader.proofs.FrameLaws.{found_none, found_is, found_some, length-frame}
use Rattle.writer.specs.Encoding.{result, put_whole, encode_fields, encode_of}
use Rattle.writer.specs.Table.{fields_hold, body_bytes, frame_size}
use Rattle.writer.specs.Words.{word_values, listed_fields, word_content}
use Rattle.writer.proofs.EncodingLaws.{put-done, put-short}

-- ---- whether a frame carries the words

module _ (lent : List ℕ) (kind : ℕ) (ws b : List ℕ) where
  pub unknown_kind : kind_fields kind ≡ none → result 5 0 b ≡ encode_of (word_content lent kind ws) b
  unfolding encode_of word_content encode_fields
  unknown_kind u = rw u refl

  module _ (fs : List FieldType) (known : kind_fields kind ≡ some fs) where
    abbrev body : List ℕ
    body = body_bytes lent fs ws

    pub not_carried : None ≡ found (frame_size lent (some fs) ws) → result 5 0 b ≡ encode_of (word_content lent kind ws) b
    unfolding encode_of word_content frame_size encode_fields listed_fields fields_hold
    not_carried e = rw known (by_fit (fields_hold lent fs ws) (found_none e))
      where
        by_fit : (t : Bool) → cond t (4 + length (body_bytes lent fs ws)) 0 ≡ 0
            → result 5 0 b ≡ cond t (put_whole (frame_bytes kind (values_bytes fs (word_values lent fs ws))) b) (result 5 0 b)
        by_fit true q = absurd (omega arith)
        by_fit false q = refl

    -- a frame of so many bytes carries them
    module _ {size : ℕ} (e : Some size ≡ found (frame_size lent (some fs) ws)) where
      carried : (fields_hold lent fs ws ≡ true) × (size ≡ 4 + length body)
      unfolding frame_size
      carried = by_fit (fields_hold lent fs ws) refl (found_is e) (found_some (frame_size lent (some fs) ws) e)
        where
          by_fit : (t : Bool) → fields_hold lent fs ws ≡ t → size ≡ cond t (4 + length body) 0 → (size ≡ 0 → ⊥) → (fields_hold lent fs ws ≡ true) × (size ≡ 4 + length body)
          by_fit true t q z = (t, q)
          by_fit false t q z = absurd (z q)

      pub carried-fit : fields_hold lent fs ws ≡ true
      carried-fit = carried.0

      pub carried-size : size ≡ 4 + length body
      carried-size = carried.1

      put-encoded : put_whole (frame_bytes kind body) b ≡ encode_of (word_content lent kind ws) b
      unfolding encode_of word_content encode_fields listed_fields fields_hold body_bytes
      put-encoded = rw (known, carried-fit) refl

      pub buffer-short : length b < size → result 13 0 b ≡ encode_of (word_content lent kind ws) b
      buffer-short h =
          let l = length-frame kind body in
          sym (put-short (frame_bytes kind body) b (omega (arith, carried-size))) ∙ put-encoded

      pub frame-put : {b₁ b₂ b₃ : List ℕ} → size ≤ length b → b₁ ≡ write_at b 0 (to_le_bytes 2 (size - 2)) → b₂ ≡ write_at b₁ 2 (to_le_bytes 2 kind)
          → b₃ ≡ patch b₂ 4 body → result 0 size b₃ ≡ encode_of (word_content lent kind ws) b
      unfolding frame_bytes
      frame-put h e₁ e₂ e₃ =
          let s = carried-size in
          let l : List ℕ = to_le_bytes 2 (size - 2) in
          let k : List ℕ = to_le_bytes 2 kind in
          let ll = length_to 2 (size - 2) in
          let lk = length_to 2 kind in
          let lh = length-append l k in
          let stated : size - 2 ≡ 2 + length body = omega arith in
          let head = write-behind b 0 l k (write_patches b 0 l (omega arith) e₁) (omega arith) (omega arith) e₂ in
          let whole = patch-behind b 0 (l ++ k) body head (omega arith) (omega arith) e₃ in
          ap₂ (result 0) (s ∙ sym (length-frame kind body))
          (whole ∙ ap (patch b 0) (append_assoc l k body ∙ ap (λ (n : ℕ). to_le_bytes 2 n ++ (k ++ body)) stated))
          ∙ sym (put-done (frame_bytes kind body) b (omega (arith, length-frame kind body))) ∙ put-encoded
