-- Laws of string fields, over the limit: lengths, both round trips, and what the functions that test and write a field ask.
use Prim.Native.Nat.{ℕ, ◌+◌, ◌-◌, ◌≤◌, ◌<◌}
use native.Mathlib.Nat.{add_assoc, sub-zero}
use native.Mathlib.Omega.{arith}
use mathlib.Core.Path.{◌≡◌, refl, sym, ap, ap₂, ◌∙◌}
use mathlib.Core.List.{[], List, ◌++◌, append_assoc}
use mathlib.Core.Bool.{Bool, true, false, ◌&&◌, cond}
use lib.ListN.{length, take, drop, replicate, length-append, length-take, length-drop, length-replicate, replicate-append-replicate, take-append-drop}
use lib.Seq.{length-take-le, take-append_seam, take_at, drop_at, drop-drop}
use lib.Dec.{eqb, leb}
use lib.Pow.{are_bytes}
use borrow.Author.Tests.{eq-eqb, ne_eqb, eqb-true, le-leb, lt-leb, leb-true}
use Rattle.layout.specs.Bytes.{bytes_at, patch, write_at, all_zero}
use Rattle.layout.specs.Numbers.{to_le_bytes, from_le_bytes}
use Rattle.layout.specs.StringFields.{is_string, string_bytes, string_field, stated_length, field_string, is_string_field, write_string}
use Rattle.layout.proofs.BooleanLaws.{and_left, and_right, and_both, chain_stops, chain_goes_on}
use Rattle.layout.proofs.ByteLaws.{length-bytes_at, length-write, take-bytes_at, drop-bytes_at, write-within, write_beyond, write_patches, write-behind, zero-replicate, replicate-zero}
use Rattle.layout.proofs.NumberLaws.{length_to, from_to, to_from, to_zero, bytes_take}

-- ---- what a string is

pub string_le : (limit : ℕ) (s : List ℕ) → is_string limit s ≡ true → length s ≤ limit
unfolding is_string
string_le limit s e = leb-true (length s) limit e

-- how the functions decide it
pub string_by : (limit : ℕ) (s : List ℕ) → is_string limit s ≡ leb (length s) limit
unfolding is_string
string_by limit s = refl

-- ---- a string's bytes and its field

pub length-string_bytes : (s : List ℕ) → length (string_bytes s) ≡ 2 + length s
unfolding string_bytes
length-string_bytes s = simp (length-append, length_to)

module _ (limit : ℕ) (s : List ℕ) (h : is_string limit s ≡ true) where
  pub length-field : length (string_field limit s) ≡ 2 + limit
  unfolding string_field
  length-field = let l = string_le limit s h in simp (length-append, length-string_bytes, length-replicate) (omega arith)

  -- the length stands first, the bytes behind it, then zeros
  field_parts : string_field limit s ≡ to_le_bytes 2 (length s) ++ (s ++ replicate (limit - length s) 0)
  unfolding string_field string_bytes
  field_parts = append_assoc (to_le_bytes 2 (length s)) s (replicate (limit - length s) 0)

  field-behind : drop 2 (string_field limit s) ≡ s ++ replicate (limit - length s) 0
  field-behind = ap (drop 2) field_parts ∙ drop_at (to_le_bytes 2 (length s)) (s ++ replicate (limit - length s) 0) 2 (length_to 2 (length s))

  module _ (l : length s < 65536) where
    pub stated-field : stated_length (string_field limit s) ≡ length s
    unfolding stated_length
    stated-field =
        ap (λ (f : List ℕ). from_le_bytes (take 2 f)) field_parts
        ∙ ap from_le_bytes (take_at (to_le_bytes 2 (length s)) (s ++ replicate (limit - length s) 0) 2 (length_to 2 (length s)))
        ∙ from_to 2 (length s) l

    pub string_of_field : field_string (string_field limit s) ≡ s
    unfolding field_string bytes_at
    string_of_field = ap₂ (λ (k : ℕ) (x : List ℕ). take k x) stated-field field-behind ∙ take-append_seam s (replicate (limit - length s) 0)

    field-tail : drop (2 + length s) (string_field limit s) ≡ replicate (limit - length s) 0
    field-tail =
        sym (drop-drop (length s) 2 (string_field limit s)) ∙ ap (drop (length s)) field-behind
        ∙ drop_at s (replicate (limit - length s) 0) (length s) refl

    pub field-holds : is_string_field limit (string_field limit s) ≡ true
    unfolding is_string_field
    field-holds =
        let n = stated-field in
        let k = length-field in
        let m = string_le limit s h in
        and_both (eq-eqb (length (string_field limit s)) (2 + limit) k)
        (and_both (le-leb (2 + stated_length (string_field limit s)) (length (string_field limit s)) (omega arith))
        (and_both (ap (is_string limit) string_of_field ∙ h)
        (ap (λ (j : ℕ). all_zero (drop (2 + j) (string_field limit s))) n ∙ ap all_zero field-tail ∙ replicate-zero (limit - length s))))

-- the field of the empty string is zero
pub empty-field : (limit : ℕ) → string_field limit [] ≡ replicate (2 + limit) 0
unfolding string_field string_bytes
empty-field limit = ap (λ (x : List ℕ). x ++ [] ++ replicate (limit - 0) 0) (to_zero 2) ∙ ap (λ (k : ℕ). replicate 2 0 ++ replicate k 0) (sub-zero limit) ∙ replicate-append-replicate 2 limit 0

-- the length that a field states, as bytes, and the string that has it
stated-bytes : (f : List ℕ) → are_bytes f ≡ true → 2 ≤ length f → to_le_bytes 2 (stated_length f) ≡ take 2 f
unfolding stated_length
stated-bytes f y h = to_from 2 (take 2 f) (bytes_take 2 f y) (length-take-le 2 f h)

pub length-string : (f : List ℕ) → 2 + stated_length f ≤ length f → length (field_string f) ≡ stated_length f
unfolding field_string
length-string f h = length-bytes_at f 2 (stated_length f) h

-- what a field that holds a string says
pub record HoldsString (limit : ℕ) (f : List ℕ) : Type 0 where
  pub full_size : length f ≡ 2 + limit
  pub there : 2 + stated_length f ≤ length f
  pub allowed : is_string limit (field_string f) ≡ true
  pub tail : all_zero (drop (2 + stated_length f) f) ≡ true

pub holds-string : (limit : ℕ) (f : List ℕ) → is_string_field limit f ≡ true → HoldsString limit f
unfolding is_string_field
holds-string limit f t =
    let a : Bool = eqb (length f) (2 + limit) in
    let b : Bool = leb (2 + stated_length f) (length f) in
    let c : Bool = is_string limit (field_string f) in
    let d : Bool = all_zero (drop (2 + stated_length f) f) in
    let bcd = and_right a (b && (c && d)) t in
    let cd = and_right b (c && d) bcd in
    record {
      full_size = eqb-true (length f) (2 + limit) (and_left a (b && (c && d)) t);
      there = leb-true (2 + stated_length f) (length f) (and_left b (c && d) bcd);
      allowed = and_left c d cd;
      tail = and_right c d cd;
    }

-- a field that holds a string is that string's field
pub field_of_string : (limit : ℕ) (f : List ℕ) → are_bytes f ≡ true → is_string_field limit f ≡ true → string_field limit (field_string f) ≡ f
unfolding field_string string_field string_bytes bytes_at
field_of_string limit f y t =
    let n : ℕ = stated_length f in
    let h = holds-string limit f t in
    let hn : 2 + n ≤ length f = h.there in
    let e : length f ≡ 2 + limit = h.full_size in
    let lt : length (take n (drop 2 f)) ≡ n = length-take-le n (drop 2 f) (rw length-drop (omega arith)) in
    let ld : length (drop (2 + n) f) ≡ limit - n = length-drop (2 + n) f ∙ omega arith in
    let rest : drop n (drop 2 f) ≡ replicate (limit - n) 0 =
    drop-drop n 2 f ∙ zero-replicate (drop (2 + n) f) h.tail ∙ ap (λ (k : ℕ). replicate k 0) ld
    in
    append_assoc (to_le_bytes 2 (length (take n (drop 2 f)))) (take n (drop 2 f)) (replicate (limit - length (take n (drop 2 f))) 0)
    ∙ ap (λ (k : ℕ). to_le_bytes 2 k ++ (take n (drop 2 f) ++ replicate (limit - k) 0)) lt
    ∙ ap₂ (λ (h q : List ℕ). h ++ (take n (drop 2 f) ++ q)) (stated-bytes f y (omega arith)) (sym rest)
    ∙ ap (λ (q : List ℕ). take 2 f ++ q) (take-append-drop n (drop 2 f))
    ∙ take-append-drop 2 f

-- the length, and behind it the bytes
pub bytes-written : (b : List ℕ) (at : ℕ) (s : List ℕ) {b₁ b₂ : List ℕ} → at + (2 + length s) ≤ length b
    → b₁ ≡ write_at b at (to_le_bytes 2 (length s)) → b₂ ≡ write_at b₁ (at + 2) s → b₂ ≡ patch b at (string_bytes s)
unfolding string_bytes
bytes-written b at s h e₁ e₂ =
    let n : List ℕ = to_le_bytes 2 (length s) in
    let ln = length_to 2 (length s) in
    write-behind b at n s (write_patches b at n (omega arith) e₁) (omega arith) (omega arith) e₂

-- ---- a field tested where it stands

pub field_cut : (b : List ℕ) (at limit : ℕ) → length b < at + (2 + limit) → false ≡ is_string_field limit (bytes_at b at (2 + limit))
unfolding is_string_field bytes_at
field_cut b at limit h =
    let k = length-take (2 + limit) (drop at b) in
    let d = length-drop at b in
    chain_stops (eqb (length (take (2 + limit) (drop at b))) (2 + limit)) _
    (ne_eqb (length (take (2 + limit) (drop at b))) (2 + limit) (λ e. omega arith))

-- one that is there, its stated length n
module _ (b : List ℕ) (at limit n : ℕ) (h : at + (2 + limit) ≤ length b) (e : n ≡ from_le_bytes (bytes_at b at 2)) where
  pub stated_at : stated_length (bytes_at b at (2 + limit)) ≡ n
  unfolding stated_length
  stated_at = ap from_le_bytes (take-bytes_at b at 2 (2 + limit) (omega arith)) ∙ sym e

  pub field-over : limit < n → false ≡ is_string_field limit (bytes_at b at (2 + limit))
  unfolding is_string_field
  field-over l =
      let f : List ℕ = bytes_at b at (2 + limit) in
      let s = stated_at in
      let k : length f ≡ 2 + limit = length-bytes_at b at (2 + limit) h in
      chain_goes_on (eqb (length f) (2 + limit)) _ (eq-eqb (length f) (2 + limit) k)
      (chain_stops (leb (2 + stated_length f) (length f)) _ (lt-leb (2 + stated_length f) (length f) (omega arith)))

  pub field-rest : n ≤ limit → all_zero (bytes_at b (at + 2 + n) (limit - n)) ≡ is_string_field limit (bytes_at b at (2 + limit))
  unfolding is_string_field
  field-rest l =
      let f : List ℕ = bytes_at b at (2 + limit) in
      let s = stated_at in
      let k : length f ≡ 2 + limit = length-bytes_at b at (2 + limit) h in
      let ls = length-string f (omega arith) in
      let d : 2 + limit - (2 + n) ≡ limit - n = omega arith in
      chain_goes_on (eqb (length f) (2 + limit)) _ (eq-eqb (length f) (2 + limit) k)
      (chain_goes_on (leb (2 + stated_length f) (length f)) _ (le-leb (2 + stated_length f) (length f) (omega arith))
      (chain_goes_on (is_string limit (field_string f)) (all_zero (drop (2 + stated_length f) f)) (string_by limit (field_string f) ∙ le-leb (length (field_string f)) limit (omega arith))
      (sym (ap (λ (m : ℕ). all_zero (drop (2 + m) f)) s
      ∙ ap all_zero (drop-bytes_at b at (2 + n) (2 + limit) ∙ ap₂ (bytes_at b) (sym (add_assoc at 2 n)) d)))))

-- a field that holds s, where it stands: it lies within the bytes, and the string with its length comes before the padding
module _ (b : List ℕ) (at limit : ℕ) (s : List ℕ) (h : is_string limit s ≡ true) (l : length s < 65536)
    (e : bytes_at b at (2 + limit) ≡ string_field limit s) where
  pub held-inside : at + (2 + limit) ≤ length b
  unfolding bytes_at
  held-inside =
      let f = ap length e ∙ length-field limit s h in
      let k = length-take (2 + limit) (drop at b) in
      let d = length-drop at b in
      omega arith

  pub held-length : from_le_bytes (bytes_at b at 2) ≡ length s
  unfolding stated_length
  held-length = ap from_le_bytes (sym (take-bytes_at b at 2 (2 + limit) (omega arith)) ∙ ap (take 2) e) ∙ stated-field limit s h l

  pub held-string : bytes_at b at (2 + from_le_bytes (bytes_at b at 2)) ≡ string_bytes s
  unfolding string_field
  held-string =
      let m = string_le limit s h in
      ap (λ (n : ℕ). bytes_at b at (2 + n)) held-length
      ∙ sym (take-bytes_at b at (2 + length s) (2 + limit) (omega arith)) ∙ ap (take (2 + length s)) e
      ∙ take_at (string_bytes s) (replicate (limit - length s) 0) (2 + length s) (length-string_bytes s)

-- ---- a field written

module _ (b : List ℕ) (at limit : ℕ) (s : List ℕ) where
  pub string-refused : is_string limit s ≡ false → write_string b at limit s ≡ b
  unfolding write_string
  string-refused h = ap (λ (t : Bool). cond t (write_at b at (string_field limit s)) b) h

  module _ (h : is_string limit s ≡ true) where
    string-write : write_string b at limit s ≡ write_at b at (string_field limit s)
    unfolding write_string
    string-write = ap (λ (t : Bool). cond t (write_at b at (string_field limit s)) b) h

    pub string_beyond : length b < at + (2 + limit) → write_string b at limit s ≡ b
    string_beyond l = string-write ∙ write_beyond b at (string_field limit s) (length-field limit s h) l

    pub string-within : at + (2 + limit) ≤ length b → write_string b at limit s ≡ patch b at (string_field limit s)
    string-within l = string-write ∙ write-within b at (string_field limit s) (length-field limit s h) l

    -- the three writes of the code, one behind the other
    pub string-written : {b₁ b₂ b₃ : List ℕ} → at + (2 + limit) ≤ length b
        → b₁ ≡ write_at b at (to_le_bytes 2 (length s)) → b₂ ≡ write_at b₁ (at + 2) s
        → b₃ ≡ write_at b₂ (at + 2 + length s) (replicate (limit - length s) 0) → b₃ ≡ write_string b at limit s
    unfolding string_field
    string-written l e₁ e₂ e₃ =
        let m = string_le limit s h in
        let z : List ℕ = replicate (limit - length s) 0 in
        let lz : length z ≡ limit - length s = length-replicate (limit - length s) 0 in
        let ls = length-string_bytes s in
        write-behind b at (string_bytes s) z
        (bytes-written b at s (omega arith) e₁ e₂) (omega arith) (omega arith) e₃
        ∙ sym (string-within l)

pub length-write-string : (b : List ℕ) (at limit : ℕ) (s : List ℕ) → length (write_string b at limit s) ≡ length b
unfolding write_string
length-write-string b at limit s = by_test (is_string limit s)
  where
    by_test : (t : Bool) → length (cond t (write_at b at (string_field limit s)) b) ≡ length b
    by_test true = length-write b at (string_field limit s)
    by_test false = refl
