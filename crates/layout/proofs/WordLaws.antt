-- Laws of words, numbers read from several bytes at a time: a word is zero when its bytes are, and has room in n bytes when its bytes from n
-- on are zero; and of loops that gather words.
use Prim.Native.Nat.{ℕ, zero, suc, ◌+◌, ◌-◌, ◌*◌, ◌/◌, ◌^◌, ◌≤◌, ◌<◌, min}
use native.Mathlib.Nat.{pow-suc, mul-suc, one-le-pow}
use native.Mathlib.Omega.{arith}
use mathlib.Core.Path.{◌≡◌, refl, sym, ap, ap₂, ◌∙◌}
use mathlib.Core.List.{List, [], ◌∷◌, ◌++◌}
use mathlib.Core.Bool.{Bool, true, ◌&&◌}
use lib.ListN.{length, take, drop, length-append}
use lib.Seq.{take_at, drop_at}
use lib.Dec.{eqb, ltb, lit<}
use lib.Bits.{bit_or, or_lt, or_add_and, and_le_l, and_le_r}
use lib.Pow.{are_bytes, pow-add, shr-shr}
use borrow.Author.Tests.{lt-ltb, le-ltb, ltb-true, ltb-false}
use borrow.Table.Steps.{cases}
use Rattle.layout.specs.Bytes.{bytes_at, all_zero}
use Rattle.layout.specs.Numbers.{from_le_bytes}
use Rattle.layout.proofs.BooleanLaws.{and_left, and_right, and_both, tests_agree, below_one}
use Rattle.layout.proofs.ByteLaws.{length-bytes_at, zero_cover, bytes_at_none, take-bytes_at, drop-bytes_at}
use Rattle.layout.proofs.NumberLaws.{bytes-bytes_at}
use Rattle.layout.proofs.BitLaws.{below_power}
use Rattle.layout.proofs.RunLaws.{zero-both}

-- ---- the bytes that a number needs

pub byte_power : (w : ℕ) → 256 ^ w ≡ 2 ^ (8 * w)
byte_power zero = refl
byte_power (suc w) =
    pow-suc 256 w ∙ ap (λ (x : ℕ). x * 256) (byte_power w) ∙ sym (pow-add 2 (8 * w) 8) ∙ ap (λ (k : ℕ). 2 ^ k) (let e = mul-suc 8 w in omega arith)

-- nothing is left of a number behind them, after two shifts by half of their bits
pub width_shifts : (x width : ℕ) → eqb (x / 2 ^ (4 * width) / 2 ^ (4 * width)) 0 ≡ ltb x (256 ^ width)
width_shifts x width =
    let bits : 4 * width + 4 * width ≡ 8 * width = omega arith in
    ap (λ (r : ℕ). eqb r 0) (shr-shr x (4 * width) (4 * width) ∙ ap (λ (k : ℕ). x / 2 ^ k) bits)
    ∙ sym (below_power x (8 * width)) ∙ ap (ltb x) (sym (byte_power width))

-- ---- a word and its bytes

-- a word is zero when its bytes are
pub word_zero : (xs : List ℕ) → eqb (from_le_bytes xs) 0 ≡ all_zero xs
unfolding from_le_bytes all_zero
word_zero [] = refl
word_zero (x ∷ xs) =
    zero-both (x + 256 * from_le_bytes xs) x (from_le_bytes xs) (λ p q. omega arith) (λ e. (omega arith, omega arith))
    ∙ ap (λ (t : Bool). eqb x 0 && t) (word_zero xs)

-- and has room in n bytes when its bytes from n on are zero
pub word_width : (xs : List ℕ) (n : ℕ) → are_bytes xs ≡ true → ltb (from_le_bytes xs) (256 ^ n) ≡ all_zero (drop n xs)
unfolding from_le_bytes all_zero
word_width xs zero y = below_one (from_le_bytes xs) ∙ word_zero xs
word_width [] (suc n) y = lt-ltb 0 (256 ^ suc n) (one-le-pow (suc n) 256 (lit< tt))
word_width (x ∷ xs) (suc n) y =
    let h : x < 256 = ltb-true x 256 (and_left (ltb x 256) (are_bytes xs) y) in
    let p = pow-suc 256 n in
    let next = word_width xs n (and_right (ltb x 256) (are_bytes xs) y) in
    cases (ltb (from_le_bytes xs) (256 ^ n))
    (λ e. let l = ltb-true (from_le_bytes xs) (256 ^ n) e in lt-ltb (x + 256 * from_le_bytes xs) (256 ^ suc n) (omega arith) ∙ sym e ∙ next)
    (λ e. let l = ltb-false (from_le_bytes xs) (256 ^ n) e in le-ltb (x + 256 * from_le_bytes xs) (256 ^ suc n) (omega arith) ∙ sym e ∙ next)

-- the last bytes of the word at a place: those behind the first n
pub word_rest : (b : List ℕ) (at width n : ℕ) → are_bytes b ≡ true
    → ltb (from_le_bytes (bytes_at b at width)) (256 ^ n) ≡ all_zero (bytes_at b (at + n) (width - n))
word_rest b at width n y = word_width (bytes_at b at width) n (bytes-bytes_at b at width y) ∙ ap all_zero (drop-bytes_at b at n width)

-- ---- gathering

-- the next chunk of the bytes left of a run from p on is the word there, and behind it the rest is left
module _ (b : List ℕ) (p end : ℕ) (word left rest : List ℕ) (h : p ≤ end) (f : end ≤ length b) (e : left ≡ bytes_at b p (end - p))
    (cut : left ≡ word ++ rest) (size : length word ≡ 8) where
  pub chunk-fits : p + 8 ≤ end
  chunk-fits =
      let l = ap length e ∙ length-bytes_at b p (end - p) (omega arith) in
      let m = ap length cut ∙ length-append word rest in
      omega arith

  pub chunk_word : word ≡ bytes_at b p 8
  chunk_word =
      let k = chunk-fits in
      sym (take_at word rest 8 size) ∙ ap (take 8) (sym cut ∙ e) ∙ take-bytes_at b p 8 (end - p) (omega arith)

  pub chunk-rest : rest ≡ bytes_at b (p + 8) (end - (p + 8))
  chunk-rest =
      let k = chunk-fits in
      let d : end - p - 8 ≡ end - (p + 8) = omega arith in
      sym (drop_at word rest 8 size) ∙ ap (drop 8) (sym cut ∙ e) ∙ drop-bytes_at b p 8 (end - p) ∙ ap (bytes_at b (p + 8)) d

-- fewer than eight bytes are left of a run: they are the last of the word that ends there
pub words_end : (b : List ℕ) (p end : ℕ) → are_bytes b ≡ true → p ≤ end → end - p < 8 → 8 ≤ end
    → ltb (from_le_bytes (bytes_at b (end - 8) 8)) (256 ^ (8 - (end - p))) ≡ all_zero (bytes_at b p (end - p))
words_end b p end y h l m =
    let o : end - 8 + (8 - (end - p)) ≡ p = omega arith in
    let d : 8 - (8 - (end - p)) ≡ end - p = omega arith in
    word_rest b (end - 8) 8 (8 - (end - p)) y ∙ ap₂ (λ (k n : ℕ). all_zero (bytes_at b k n)) o d

-- ---- gathering as many words however long the run is; they may overlap

-- an or has room in n bytes when both of its parts have
pub or_width : (x y n : ℕ) → ltb (bit_or x y) (256 ^ n) ≡ (ltb x (256 ^ n) && ltb y (256 ^ n))
or_width x y n =
    let most : ℕ = 256 ^ n in
    let p : most ≡ 2 ^ (8 * n) = byte_power n in
    let s = or_add_and x y in
    let l = and_le_l x y in
    let r = and_le_r x y in
    tests_agree (ltb (bit_or x y) most) (ltb x most && ltb y most)
    (λ e. let h = ltb-true (bit_or x y) most e in and_both (lt-ltb x most (omega arith)) (lt-ltb y most (omega arith)))
    (λ e.
    let hx = ltb-true x most (and_left (ltb x most) (ltb y most) e) in
    let hy = ltb-true y most (and_right (ltb x most) (ltb y most) e) in
    let h = or_lt (8 * n) x y (omega arith) (omega arith) in
    lt-ltb (bit_or x y) most (omega arith))

-- words are gathered from `first` on over k bytes, but none behind the word at `last`: what is gathered has room in n bytes when the bytes
-- behind the first n are zero
abbrev pub gathered_up : List ℕ → ℕ → ℕ → ℕ → ℕ → ℕ → Type 0
gathered_up b first n last gathered k = ltb gathered (256 ^ n) ≡ all_zero (bytes_at b (first + n) (min (first + k) (last + 8) - (first + n)))

-- the run starts at first + n: n is 0, or the first word is the last one
module _ (b : List ℕ) (first n last : ℕ) (s : first ≡ min (first + n) last) where
  pub gathered_none : gathered_up b first n last 0 0
  unfolding all_zero
  gathered_none =
      let d : min (first + 0) (last + 8) - (first + n) ≡ 0 = omega arith in
      lt-ltb 0 (256 ^ n) (one-le-pow n 256 (lit< tt)) ∙ sym (ap all_zero (ap (bytes_at b (first + n)) d ∙ bytes_at_none b (first + n)))

  -- the next word, or again the last one: its bytes behind the first n begin within those seen or right behind them
  pub gathered_next : are_bytes b ≡ true → n ≤ 8 → (gathered k : ℕ) {p w : ℕ} → p ≡ min (first + k) last → w ≡ from_le_bytes (bytes_at b p 8)
      → gathered_up b first n last gathered k → gathered_up b first n last (bit_or gathered w) (k + 8)
  gathered_next y h gathered k {p} {w} e r g =
      let seen : ℕ = min (first + k) (last + 8) - (first + n) in
      let cover = zero_cover b (first + n) seen (p - first) (8 - n) (omega arith) (omega arith) in
      let o : p + n ≡ first + n + (p - first) = omega arith in
      let d : p - first + (8 - n) ≡ min (first + (k + 8)) (last + 8) - (first + n) = omega arith in
      or_width gathered w n
      ∙ ap₂ (λ (t u : Bool). t && u) g
      (ap (λ (x : ℕ). ltb x (256 ^ n)) r ∙ word_rest b p 8 n y ∙ ap (λ (q : ℕ). all_zero (bytes_at b q (8 - n))) o)
      ∙ cover ∙ ap (λ (q : ℕ). all_zero (bytes_at b (first + n) q)) d
