-- Laws of frames: a frame's length is from 4 to 278 and within the bytes; a message is a frame of its own length; the frame that stands
-- first is a message; a frame of a kind and a body.
use Prim.Native.Nat.{ℕ, ◌+◌, ◌-◌, ◌≤◌, ◌<◌}
use native.Mathlib.Nat.{zero-add}
use native.Mathlib.Omega.{arith}
use mathlib.Core.Path.{◌≡◌, refl, sym, ap, ap₂, ◌∙◌}
use mathlib.Core.List.{List, [], ◌++◌, append_assoc, append-nil}
use Rattle.std.specs.Prelude.{None, Some}
use mathlib.Core.Bool.{Bool, true, false, ◌&&◌, not, cond, and-false}
use lib.ListN.{length, take, drop, length-append, length-drop}
use lib.Seq.{length-take-le, take_at, take-append-le, drop_at, drop-drop, drop-append-le}
use lib.Dec.{eqb, leb, lit≤}
use lib.Pow.{are_bytes}
use borrow.Table.Steps.{cases}
use borrow.Author.Tests.{leb-true, eqb-true, eqb-false, eq-eqb, ne_eqb, le-leb, not-true}
use Rattle.layout.specs.Bytes.{bytes_at}
use Rattle.layout.specs.Numbers.{to_le_bytes, from_le_bytes}
use Rattle.layout.proofs.BooleanLaws.{and_left, and_right, and_both}
use Rattle.layout.proofs.ByteLaws.{length-bytes_at, bytes_at-bytes_at, drop-split}
use Rattle.layout.proofs.NumberLaws.{length_to, from_to, to_from, bytes-bytes_at}
use Rattle.reader.specs.Frames.{length_field, found, frame_length_up_to, frame_length, is_frame, kind_of, body_of, frame_bytes}

-- ---- a length that was looked for, and whether it was found

pub found_none : {n : ℕ} → None ≡ found n → n ≡ 0
unfolding found
found_none {n} e = by_test (eqb n 0) refl e
  where
    by_test : (t : Bool) → eqb n 0 ≡ t → None ≡ cond t None (Some n) → n ≡ 0
    by_test true z e = eqb-true n 0 z
    by_test false z e = absurd (cc)

pub found_is : {n k : ℕ} → Some k ≡ found n → k ≡ n
unfolding found
found_is {n} {k} e = by_test (eqb n 0) e
  where
    by_test : (t : Bool) → Some k ≡ cond t None (Some n) → k ≡ n
    by_test true e = absurd (cc)
    by_test false e = cc

pub found_some : (n : ℕ) {k : ℕ} → Some k ≡ found n → k ≡ 0 → ⊥
unfolding found
found_some n {k} e z = let n_none = sym (found_is e) ∙ z in let q = rw n_none at e in cc

pub none_found : {n : ℕ} → n ≡ 0 → None ≡ found n
unfolding found
none_found {n} z = rw z refl

pub some_found : {n : ℕ} → (n ≡ 0 → ⊥) → Some n ≡ found n
unfolding found
some_found {n} h = rw (ne_eqb n 0 h) refl

-- ---- the four conditions of a frame's length, read one by one

pub frame-length : {most : ℕ} (s : List ℕ) → 4 ≤ length s → 2 ≤ length_field s → length_field s ≤ most → length_field s + 2 ≤ length s
    → frame_length_up_to most s ≡ length_field s + 2
unfolding frame_length_up_to
frame-length {most} s h l g w =
    simp (le-leb 4 (length s) h, le-leb 2 (length_field s) l, le-leb (length_field s) most g, le-leb (length_field s + 2) (length s) w)

-- what a frame's length says
pub record FrameAt (most : ℕ) (s : List ℕ) : Type 0 where
  pub stated : frame_length_up_to most s ≡ length_field s + 2
  pub least : 2 ≤ length_field s
  pub greatest : length_field s ≤ most
  pub inside : length_field s + 2 ≤ length s

pub frame_at : {most : ℕ} (s : List ℕ) → (frame_length_up_to most s ≡ 0 → ⊥) → FrameAt most s
unfolding frame_length_up_to
frame_at {most} s n = by_test (head && (low && (high && whole))) refl n
  where
    head : Bool
    head = leb 4 (length s)

    low : Bool
    low = leb 2 (length_field s)

    high : Bool
    high = leb (length_field s) most

    whole : Bool
    whole = leb (length_field s + 2) (length s)

    by_test : (t : Bool) → (head && (low && (high && whole))) ≡ t → (cond t (length_field s + 2) 0 ≡ 0 → ⊥) → FrameAt most s
    by_test false e n = absurd (n refl)
    by_test true e n =
        let r₁ = and_right head (low && (high && whole)) e in
        let r₂ = and_right low (high && whole) r₁ in
        record {
          stated = ap (λ (t : Bool). cond t (length_field s + 2) 0) e;
          least = leb-true 2 (length_field s) (and_left low (high && whole) r₁);
          greatest = leb-true (length_field s) most (and_left high whole r₂);
          inside = leb-true (length_field s + 2) (length s) (and_right high whole r₂);
        }

-- a frame lies within s
pub inside_up_to : (most : ℕ) (s : List ℕ) → frame_length_up_to most s ≤ length s
inside_up_to most s =
    let n : ℕ = frame_length_up_to most s in
    cases (eqb n 0) (λ e. omega (arith, eqb-true n 0 e))
    (λ e. let f = frame_at s (eqb-false n 0 e) in omega (arith, f.stated, f.inside))

pub frame-inside : (s : List ℕ) → frame_length s ≤ length s
frame-inside = inside_up_to 276

-- the same of the length that a call has found
pub found-inside : (s : List ℕ) {n : ℕ} → n ≡ frame_length s → n ≤ length s
found-inside s e = omega (arith, frame-inside s)

-- a message has 4 to 278 bytes
pub frame-least : (s : List ℕ) → (frame_length s ≡ 0 → ⊥) → 4 ≤ frame_length s
frame-least s n = let f = frame_at s n in omega (arith, f.stated, f.least)

pub frame-greatest : (s : List ℕ) → frame_length s ≤ 278
frame-greatest s =
    cases (eqb (frame_length s) 0) (λ e. omega (arith, eqb-true (frame_length s) 0 e))
    (λ e. let f = frame_at s (eqb-false (frame_length s) 0 e) in omega (arith, f.stated, f.greatest))

-- a message that is a frame
pub is_frame_lem : (s : List ℕ) → (frame_length s ≡ 0 → ⊥) → frame_length s ≡ length s → is_frame s ≡ true
unfolding is_frame
is_frame_lem s n e = and_both (ap not (ne_eqb (frame_length s) 0 n)) (eq-eqb (frame_length s) (length s) e)

pub no_frame_lem : (s : List ℕ) → frame_length s ≡ 0 → is_frame s ≡ false
unfolding is_frame
no_frame_lem s e = ap (λ (t : Bool). not t && eqb (frame_length s) (length s)) (eq-eqb (frame_length s) 0 e)

pub other_length : (s : List ℕ) → (frame_length s ≡ length s → ⊥) → is_frame s ≡ false
unfolding is_frame
other_length s n = ap (λ (t : Bool). not (eqb (frame_length s) 0) && t) (ne_eqb (frame_length s) (length s) n) ∙ and-false (not (eqb (frame_length s) 0))

-- without one of the conditions there is no frame
pub frame_none : {most : ℕ} (s : List ℕ) → (4 ≤ length s → 2 ≤ length_field s → length_field s ≤ most → length_field s + 2 ≤ length s → ⊥)
    → frame_length_up_to most s ≡ 0
frame_none {most} s n =
    let l : ℕ = frame_length_up_to most s in
    cases (eqb l 0) (eqb-true l 0)
    (λ e. let f = frame_at s (eqb-false l 0 e) in absurd (n (omega (arith, f.least, f.inside)) f.least f.greatest f.inside))

-- ---- the frame that stands first in s is a message

module _ (s : List ℕ) (n : frame_length s ≡ 0 → ⊥) where
  first_length : length (take (frame_length s) s) ≡ frame_length s
  first_length = length-take-le (frame_length s) s (frame-inside s)

  first_bytes : (at k : ℕ) → at + k ≤ 4 → bytes_at (take (frame_length s) s) at k ≡ bytes_at s at k
  unfolding bytes_at
  first_bytes at k h =
      let l = frame-least s n in
      bytes_at-bytes_at s 0 (frame_length s) at k (omega arith) ∙ ap (λ (o : ℕ). bytes_at s o k) (zero-add at)

  pub first_frame : frame_length (take (frame_length s) s) ≡ frame_length s
  unfolding length_field
  first_frame =
      let f = frame_at s n in
      let l = first_length in
      let e : length_field (take (frame_length s) s) ≡ length_field s = ap from_le_bytes (first_bytes 0 2 (lit≤ tt)) in
      frame-length (take (frame_length s) s) (omega (arith, f.stated, f.least)) (omega (arith, f.least)) (omega (arith, f.greatest)) (omega (arith, f.stated))
      ∙ ap (λ (k : ℕ). k + 2) e ∙ sym f.stated

  pub first_is_frame : is_frame (take (frame_length s) s) ≡ true
  first_is_frame = is_frame_lem (take (frame_length s) s) (λ z. n (sym first_frame ∙ z)) (first_frame ∙ sym first_length)

  pub first_kind : kind_of (take (frame_length s) s) ≡ kind_of s
  unfolding kind_of
  first_kind =
      let f = frame_at s n in
      let l = first_length in
      let g = frame-inside s in
      simp (le-leb 4 (length (take (frame_length s) s)) (omega (arith, f.stated, f.least)), le-leb 4 (length s) (omega (arith, f.least, f.inside)))
      (ap from_le_bytes (first_bytes 2 2 (lit≤ tt)))

-- ---- a frame of a kind and a body

module _ (kind : ℕ) (body : List ℕ) where
  pub length-frame : length (frame_bytes kind body) ≡ 4 + length body
  unfolding frame_bytes
  length-frame = simp (length-append, length_to) (omega arith)

  -- what stands behind L
  frame-behind : drop 2 (frame_bytes kind body) ≡ to_le_bytes 2 kind ++ body
  unfolding frame_bytes
  frame-behind = drop_at (to_le_bytes 2 (2 + length body)) (to_le_bytes 2 kind ++ body) 2 (length_to 2 (2 + length body))

  pub frame-body : body_of (frame_bytes kind body) ≡ body
  unfolding body_of
  frame-body =
      sym (drop-drop 2 2 (frame_bytes kind body)) ∙ ap (drop 2) frame-behind ∙ drop_at (to_le_bytes 2 kind) body 2 (length_to 2 kind)

  pub frame-kind : kind < 65536 → kind_of (frame_bytes kind body) ≡ kind
  unfolding kind_of bytes_at
  frame-kind h =
      let l = length-frame in
      simp (le-leb 4 (length (frame_bytes kind body)) (omega arith))
      (ap (λ (x : List ℕ). from_le_bytes (take 2 x)) frame-behind ∙ ap from_le_bytes (take_at (to_le_bytes 2 kind) body 2 (length_to 2 kind)) ∙ from_to 2 kind h)

  -- the length that it states, with bytes behind it
  pub frame-stated : (rest : List ℕ) → 2 + length body < 65536 → length_field (frame_bytes kind body ++ rest) ≡ 2 + length body
  unfolding length_field frame_bytes bytes_at
  frame-stated rest h =
      let l : List ℕ = to_le_bytes 2 (2 + length body) in
      ap (λ (x : List ℕ). from_le_bytes (take 2 x)) (append_assoc l (to_le_bytes 2 kind ++ body) rest)
      ∙ ap from_le_bytes (take_at l (to_le_bytes 2 kind ++ body ++ rest) 2 (length_to 2 (2 + length body)))
      ∙ from_to 2 (2 + length body) h

  pub frame_is_frame : length body ≤ 274 → is_frame (frame_bytes kind body) ≡ true
  frame_is_frame h =
      let l = length-frame in
      let e = ap length_field (sym (append-nil (frame_bytes kind body))) ∙ frame-stated [] (omega arith) in
      let f = frame-length {most = 276} (frame_bytes kind body) (omega arith) (omega arith) (omega arith) (omega arith) in
      is_frame_lem (frame_bytes kind body) (λ z. omega arith) (omega arith)

-- a message that is a frame is that of its kind and body
pub frame_again : (msg : List ℕ) → are_bytes msg ≡ true → is_frame msg ≡ true → frame_bytes (kind_of msg) (body_of msg) ≡ msg
unfolding frame_bytes kind_of body_of length_field is_frame
frame_again msg y t =
    let whole : frame_length msg ≡ length msg = eqb-true (frame_length msg) (length msg) (and_right (not (eqb (frame_length msg) 0)) (eqb (frame_length msg) (length msg)) t) in
    let some : not (eqb (frame_length msg) 0) ≡ true = and_left (not (eqb (frame_length msg) 0)) (eqb (frame_length msg) (length msg)) t in
    let f = frame_at msg (eqb-false (frame_length msg) 0 (not-true (eqb (frame_length msg) 0) some)) in
    let ld : length (drop 4 msg) ≡ length msg - 4 = length-drop 4 msg in
    let l : 2 + length (drop 4 msg) ≡ from_le_bytes (bytes_at msg 0 2) = omega (arith, f.stated, f.least) in
    let long : 4 ≤ length msg = omega (arith, f.stated, f.least) in
    ap₂ (λ (a k : ℕ). to_le_bytes 2 a ++ (to_le_bytes 2 k ++ drop 4 msg)) l (ap (λ (b : Bool). cond b (from_le_bytes (bytes_at msg 2 2)) 0) (le-leb 4 (length msg) long))
    ∙ ap₂ (λ (a k : List ℕ). a ++ (k ++ drop 4 msg))
    (to_from 2 (bytes_at msg 0 2) (bytes-bytes_at msg 0 2 y) (length-bytes_at msg 0 2 (omega arith)))
    (to_from 2 (bytes_at msg 2 2) (bytes-bytes_at msg 2 2 y) (length-bytes_at msg 2 2 (omega arith)))
    ∙ ap (λ (x : List ℕ). bytes_at msg 0 2 ++ x) (sym (drop-split msg 2 2)) ∙ sym (drop-split msg 0 2)

-- ---- a message that is one whole frame

module _ (m : List ℕ) (e : is_frame m ≡ true) where
  pub frame-whole : frame_length m ≡ length m
  unfolding is_frame
  frame-whole = eqb-true (frame_length m) (length m) (and_right (not (eqb (frame_length m) 0)) (eqb (frame_length m) (length m)) e)

  pub frame-there : frame_length m ≡ 0 → ⊥
  unfolding is_frame
  frame-there =
      eqb-false (frame_length m) 0
      (not-true (eqb (frame_length m) 0) (and_left (not (eqb (frame_length m) 0)) (eqb (frame_length m) (length m)) e))

  -- a frame keeps its length with bytes behind it
  pub frame_in_front : (rest : List ℕ) → frame_length (m ++ rest) ≡ length m
  unfolding length_field bytes_at
  frame_in_front rest =
      let at = frame_at m frame-there in
      let four = frame-least m frame-there in
      let inside = frame-inside m in
      let l = length-append m rest in
      let field : length_field (m ++ rest) ≡ length_field m = ap from_le_bytes (take-append-le 2 m rest (omega arith)) in
      frame-length (m ++ rest) (omega arith) (omega (arith, field, at.least)) (omega (arith, field, at.greatest))
      (omega (arith, field, at.inside))
      ∙ ap (λ (k : ℕ). k + 2) field ∙ sym at.stated ∙ frame-whole

-- bytes behind the head do not change the kind
pub kind_in_front : (s rest : List ℕ) → 4 ≤ length s → kind_of (s ++ rest) ≡ kind_of s
unfolding kind_of bytes_at
kind_in_front s rest h =
    let l = length-append s rest in
    let same : take 2 (drop 2 (s ++ rest)) ≡ take 2 (drop 2 s) =
    ap (take 2) (drop-append-le 2 s rest (omega arith)) ∙ take-append-le 2 (drop 2 s) rest (rw length-drop (omega arith))
    in
    simp (le-leb 4 (length (s ++ rest)) (omega arith), le-leb 4 (length s) h) (ap from_le_bytes same)
