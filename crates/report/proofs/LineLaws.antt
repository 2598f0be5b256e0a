-- Numbers as characters, also as the libraries write them, and lines written part by part.
use Prim.Native.Nat.{ℕ, ◌+◌, ◌/◌, ◌%◌, ◌≤◌, ◌<◌}
use native.Mathlib.Nat.{mod-eq_of_lt}
use native.Mathlib.Omega.{arith}
use mathlib.Core.Path.{◌≡◌, refl, sym, ap, ap₂, ◌∙◌}
use mathlib.Core.List.{List, [], ◌∷◌, ◌++◌}
use mathlib.Core.Bool.{Bool, true, false, cond}
use lib.ListN.{length, length-append, length-drop}
use lib.Dec.{eqb, ltb, lit≤}
use borrow.Author.Tests.{eqb-true, lt-ltb, le-ltb, ltb-true, ltb-false}
use borrow.Table.Steps.{cases}
use Rattle.std.specs.Prelude.{slice_index}
use Rattle.std.specs.Fmt.{decimal as decimal_text}
use Rattle.std.proofs.lemmas.Fmt.{decimal_by_steps}
use Rattle.hex.specs.Hex.{lower_digits, encode_with, encode_lower}
use Rattle.model.specs.Lists.{all_below}
use Rattle.model.proofs.ListLaws.{below_at}
use Rattle.report.specs.Report.{digit_character, hexadecimal, digit_count, decimal, cut_word, space, line_feed, cut_line}
use Rattle.report.specs.Texts.{HasRoom, Writes}
use Rattle.report.specs.declared.text.TextWriter.{TextWriter}
use Rattle.report.proofs.TextLaws.{Writes-append}

-- a number has one to five digits
pub count-within : (n : ℕ) → (1 ≤ digit_count n) × (digit_count n ≤ 5)
unfolding digit_count
count-within n = by_tests (ltb n 10) (ltb n 100) (ltb n 1000) (ltb n 10000)
  where
    by_tests : (p q r s : Bool) → (1 ≤ cond p 1 (cond q 2 (cond r 3 (cond s 4 5)))) × (cond p 1 (cond q 2 (cond r 3 (cond s 4 5))) ≤ 5)
    by_tests true q r s = (lit≤ tt, lit≤ tt)
    by_tests false true r s = (lit≤ tt, lit≤ tt)
    by_tests false false true s = (lit≤ tt, lit≤ tt)
    by_tests false false false true = (lit≤ tt, lit≤ tt)
    by_tests false false false false = (lit≤ tt, lit≤ tt)

pub length-hexadecimal : (n : ℕ) → length (hexadecimal n) ≡ 4
unfolding hexadecimal
length-hexadecimal n = refl

-- at most five characters
pub length-decimal : (n : ℕ) → length (decimal n) ≤ 5
unfolding decimal
length-decimal n = let l = count-within n in simp length-drop (omega arith)

-- a number and a line feed
pub length-ended : (n : ℕ) → length (decimal n ++ line_feed) ≤ 6
length-ended n = let d = length-decimal n in let l = length-append (decimal n) line_feed in omega arith

-- ---- lines, written part by part

module _ {w : TextWriter} where
  -- "cut ", a place and a line feed
  pub cut-written : (place : ℕ) {w₁ w₂ : TextWriter} → HasRoom w 10 → Writes w (cut_word ++ space) w₁ → Writes w₁ (decimal place ++ line_feed) w₂
      → Writes w (cut_line place) w₂
  unfolding cut_line
  cut-written place room word end = Writes-append word end (omega (arith, room, length-ended place))

  -- a word of three characters, a kind, a space, a number and a line feed
  pub line-written : (word : List ℕ) (kind n : ℕ) {w₁ w₂ w₃ w₄ : TextWriter} → HasRoom w 14 → length word ≡ 3 → Writes w word w₁
      → Writes w₁ (hexadecimal kind) w₂ → Writes w₂ space w₃ → Writes w₃ (decimal n ++ line_feed) w₄
      → Writes w (word ++ (hexadecimal kind ++ (space ++ (decimal n ++ line_feed)))) w₄
  line-written word kind n room three first second third fourth =
      let k = length-hexadecimal kind in
      let l = length-ended n in
      let end = Writes-append third fourth (omega (arith, l, room, three, first.size, first.kept, second.size, second.kept, k)) in
      let more = Writes-append second end (omega (arith, end.size, fourth.size, l, room, three, first.size, first.kept, k)) in
      Writes-append first more (omega (arith, more.size, end.size, fourth.size, second.size, third.size, first.size, l, room, three, k))

-- ---- the library's decimal text

character : (d : ℕ) → d < 10 → digit_character d ≡ 48 + d
unfolding digit_character
character d h = rw (lt-ltb d 10 h) refl

-- a single digit is a single character
one_digit : (n : ℕ) → n < 10 → decimal n ≡ digit_character n ∷ []
unfolding decimal digit_count
one_digit n h = rw (lt-ltb n 10 h) (ap (λ (d : ℕ). digit_character d ∷ []) (mod-eq_of_lt h))

-- the last digit stands behind those of the tenth
last_digit : (n : ℕ) → 10 ≤ n → n < 100000 → decimal n ≡ decimal (n / 10) ++ (digit_character (n % 10) ∷ [])
unfolding decimal digit_count
last_digit n least most =
    let a : n / 10 / 10 ≡ n / 100 = omega arith in
    let b : n / 10 / 100 ≡ n / 1000 = omega arith in
    let c : n / 10 / 1000 ≡ n / 10000 = omega arith in
    cases (ltb n 100) (λ q. let h = ltb-true n 100 q in rw (le-ltb n 10 least, lt-ltb n 100 h, lt-ltb (n / 10) 10 (omega arith)) refl)
    (λ q. let l = ltb-false n 100 q in
    cases (ltb n 1000) (λ q. let h = ltb-true n 1000 q in rw (le-ltb n 10 least, le-ltb n 100 l, lt-ltb n 1000 h, le-ltb (n / 10) 10 (omega arith), lt-ltb (n / 10) 100 (omega arith), a) refl)
    (λ q. let l₂ = ltb-false n 1000 q in
    cases (ltb n 10000) (λ q. let h = ltb-true n 10000 q in rw (le-ltb n 10 least, le-ltb n 100 l, le-ltb n 1000 l₂, lt-ltb n 10000 h, le-ltb (n / 10) 10 (omega arith), le-ltb (n / 10) 100 (omega arith), lt-ltb (n / 10) 1000 (omega arith), a, b) refl)
    (λ q. let l₃ = ltb-false n 10000 q in
    rw (le-ltb n 10 least, le-ltb n 100 l, le-ltb n 1000 l₂, le-ltb n 10000 l₃, le-ltb (n / 10) 10 (omega arith), le-ltb (n / 10) 100 (omega arith), le-ltb (n / 10) 1000 (omega arith), lt-ltb (n / 10) 10000 (omega arith), a, b, c) refl)))

pub decimal-written : (n : ℕ) → n < 100000 → decimal_text n ≡ decimal n
decimal-written n h =
    decimal_by_steps (λ (m : ℕ) (x : List ℕ). m < 100000 → x ≡ decimal m)
    (λ m l k. sym (one_digit m l ∙ ap (λ (d : ℕ). d ∷ []) (character m l)))
    (λ m x l same k.
    ap (λ (y : List ℕ). y ++ ((48 + m % 10) ∷ [])) (same (omega arith))
    ∙ ap (λ (d : ℕ). decimal (m / 10) ++ (d ∷ [])) (sym (character (m % 10) (omega arith)))
    ∙ sym (last_digit m l k))
    n (omega arith) h

-- ---- the library's hexadecimal text

-- a digit of its table
table_digit : (d : ℕ) → d < 16 → slice_index lower_digits d ≡ digit_character d
unfolding digit_character all_below
table_digit d h = eqb-true _ _ (below_at 16 (λ (i : ℕ). eqb (slice_index lower_digits i) (digit_character i)) refl d h)

pub digits-written : (b : ℕ) (rest : List ℕ) → b < 256
    → encode_lower (b ∷ rest) ≡ digit_character (b / 16) ∷ digit_character (b % 16) ∷ encode_lower rest
unfolding encode_with
digits-written b rest h =
    ap₂ (λ (x y : ℕ). x ∷ y ∷ encode_lower rest) (table_digit (b / 16) (omega arith)) (table_digit (b % 16) (omega arith))

-- two bytes, the higher first
pub hexadecimal-written : (n : ℕ) → n < 65536 → encode_lower (n / 256 % 256 ∷ n % 256 ∷ []) ≡ hexadecimal n
unfolding encode_with hexadecimal
hexadecimal-written n h =
    let a : n / 256 % 256 / 16 ≡ n / 4096 % 16 = omega arith in
    let b : n / 256 % 256 % 16 ≡ n / 256 % 16 = omega arith in
    let c : n % 256 / 16 ≡ n / 16 % 16 = omega arith in
    let d : n % 256 % 16 ≡ n % 16 = omega arith in
    digits-written (n / 256 % 256) (n % 256 ∷ []) (omega arith)
    ∙ ap (λ (x : List ℕ). digit_character (n / 256 % 256 / 16) ∷ digit_character (n / 256 % 256 % 16) ∷ x) (digits-written (n % 256) [] (omega arith))
    ∙ rw (a, b, c, d) refl
