-- The lines of answers: their lengths, and how they are written, answer by answer.
use Prim.Native.Nat.{ℕ, zero, suc, ◌+◌, ◌-◌, ◌*◌, ◌/◌, ◌%◌, ◌≤◌, ◌<◌}
use native.Mathlib.Omega.{arith}
use mathlib.Core.Path.{◌≡◌, refl, sym, ap, ap₂, ◌∙◌}
use mathlib.Core.List.{List, [], ◌∷◌, ◌++◌, map, flatten}
use lib.ListN.{length, take, drop, get_or, length-append, length-drop}
use lib.Seq.{length-take-le}
use lib.Dec.{eqb}
use borrow.Author.Tests.{eq-eqb, ne_eqb, eqb-true, eqb-false}
use borrow.Table.Steps.{cases}
use Rattle.reader.proofs.FrameLaws.{frame_at, inside_up_to}
use Rattle.report.specs.Report.{digit_character, line_feed}
use Rattle.report.specs.MessageLines.{answer_length}
use Rattle.report.specs.Results.{written_size, reported}
use Rattle.report.specs.declared.TooShort.{TooShort}
use Rattle.report.specs.declared.text.TextWriter.{TextWriter}
use Rattle.report.specs.Texts.{HasRoom, Writes}
use Rattle.report.proofs.TextLaws.{Writes-nothing, Writes-append}
use Rattle.report.proofs.LineLaws.{digits-written as byte_digits-written}
use Rattle.hex.specs.Hex.{encode_with, encode_lower}
use Rattle.std.specs.Prelude.{Result}
use Rattle.report.proofs.ReportLaws.{written-inside}
use Rattle.transcript.specs.AnswerLines.{byte_digits, answer_line, answer_lines_in, answers_result}

-- ---- bytes

-- the digits of the bytes of an answer
abbrev pub digits_of : List ℕ → List ℕ
digits_of xs = flatten (map byte_digits xs)

pub length_digits : (xs : List ℕ) → length (digits_of xs) ≡ 2 * length xs
unfolding byte_digits flatten
length_digits [] = refl
length_digits (x ∷ xs) = let l = length_digits xs in omega arith

-- they are the library's hexadecimal text
pub digits-written : (xs : List ℕ) → ((i : ℕ) → get_or xs i 0 < 256) → encode_lower xs ≡ digits_of xs
unfolding byte_digits flatten encode_with
digits-written [] h = refl
digits-written (x ∷ xs) h =
    byte_digits-written x xs (h 0)
    ∙ ap (λ (y : List ℕ). digit_character (x / 16) ∷ digit_character (x % 16) ∷ y) (digits-written xs (λ i. h (suc i)))

pub length-line : (xs : List ℕ) → length (answer_line xs) ≡ 2 * length xs + 1
unfolding answer_line
length-line xs = let l = length-append (digits_of xs) line_feed in let d = length_digits xs in omega arith

-- ---- answers

lines_none : (count : ℕ) (a : List ℕ) → count ≡ 0 → answer_lines_in count a ≡ []
unfolding answer_lines_in
lines_none zero a e = refl
lines_none (suc count) a e = absurd (omega arith)

lines_no_answer : (count : ℕ) (a : List ℕ) → answer_length a ≡ 0 → answer_lines_in count a ≡ []
unfolding answer_lines_in
lines_no_answer zero a e = refl
lines_no_answer (suc count) a e = rw (eq-eqb (answer_length a) 0 e) refl

lines_next : (count : ℕ) (a : List ℕ) → (count ≡ 0 → ⊥) → (answer_length a ≡ 0 → ⊥)
    → answer_lines_in count a ≡ answer_line (take (answer_length a) a) ++ answer_lines_in (count - 1) (drop (answer_length a) a)
unfolding answer_lines_in
lines_next zero a c n = absurd (c refl)
lines_next (suc count) a c n =
    let one : suc count - 1 ≡ count = omega arith in
    rw (ne_eqb (answer_length a) 0 n)
    (ap (λ (k : ℕ). answer_line (take (answer_length a) a) ++ answer_lines_in k (drop (answer_length a) a)) (sym one))

-- three bytes of text for each byte of an answer are enough
pub lines_short : (count : ℕ) (a : List ℕ) → length (answer_lines_in count a) ≤ 3 * length a
lines_short zero a = let e = ap length (lines_none 0 a refl) in omega arith
lines_short (suc count) a =
    cases (eqb (answer_length a) 0)
    (λ z. let e = ap length (lines_no_answer (suc count) a (eqb-true (answer_length a) 0 z)) in omega arith)
    (λ z.
    let n = eqb-false (answer_length a) 0 z in
    let size : ℕ = answer_length a in
    let line : List ℕ = answer_line (take size a) in
    let more : List ℕ = answer_lines_in (suc count - 1) (drop size a) in
    let w = frame_at a n in
    let s = w.stated in
    let inside = inside_up_to 516 a in
    let e : length (answer_lines_in (suc count) a) ≡ length (line ++ more) = ap length (lines_next (suc count) a (λ z. omega arith) n) in
    let l = length-append line more in
    let m = length-line (take size a) in
    let k = length-take-le size a inside in
    let d = length-drop size a in
    let one : suc count - 1 ≡ count = omega arith in
    let later : length more ≤ 3 * length (drop size a) = rw one (lines_short count (drop size a)) in
    omega arith)

-- ---- what `write_answers` has written

-- where the lines that are left are written next, the text is the whole one
pub record LinesLeft (start : TextWriter) (a : List ℕ) (count : ℕ) (w : TextWriter) (left : ℕ) (rest : List ℕ) : Type 0 where
  pub whole : (w₁ : TextWriter) → Writes w (answer_lines_in left rest) w₁ → Writes start (answer_lines_in count a) w₁
  pub room : HasRoom w (3 * length rest)

module _ {start : TextWriter} {a : List ℕ} {count : ℕ} {w : TextWriter} {left : ℕ} {rest : List ℕ} (lines : LinesLeft start a count w left rest) where
  pub none_left : left ≡ 0 → Writes start (answer_lines_in count a) w
  none_left e = lines.whole w (rw (lines_none left rest e) (Writes-nothing w))

  module _ {size : ℕ} (found : size ≡ answer_length rest) where
    pub no_answer : size ≡ 0 → Writes start (answer_lines_in count a) w
    no_answer e = lines.whole w (rw (lines_no_answer left rest (sym found ∙ e)) (Writes-nothing w))

    pub size-inside : size ≤ length rest
    size-inside = omega (arith, found, inside_up_to 516 rest)

    module _ (n : size ≡ 0 → ⊥) where
      -- there is room for the line of the answer that stands next
      pub room-next : HasRoom w (2 * length (take size rest) + 1)
      room-next =
          let f = frame_at rest (λ z. n (found ∙ z)) in
          omega (arith, found, f.stated, f.least, size-inside, length-take-le size rest size-inside, lines.room)

      pub next-written : {w₁ : TextWriter} {left₁ : ℕ} {rest₁ : List ℕ} → left ≡ left₁ + 1 → rest₁ ≡ drop size rest
          → Writes w (answer_line (take size rest)) w₁ → LinesLeft start a count w₁ left₁ rest₁
      next-written {w₁} {left₁} {rest₁} c r e =
          let f = frame_at rest (λ z. n (found ∙ z)) in
          let l = length-line (take size rest) in
          let k = length-take-le size rest size-inside in
          let d = ap length r ∙ length-drop size rest in
          let m = lines_short left₁ rest₁ in
          let next : answer_line (take size rest) ++ answer_lines_in left₁ rest₁ ≡ answer_lines_in left rest =
          ap₂ (λ (x y : List ℕ). answer_line x ++ y) (ap (λ (i : ℕ). take i rest) found)
          (ap₂ answer_lines_in (omega (arith, c)) (r ∙ ap (λ (i : ℕ). drop i rest) found))
          ∙ sym (lines_next left rest (λ z. omega (arith, c, z)) (λ z. n (found ∙ z)))
          in
          record {
            whole = λ w₂ later. lines.whole w₂ (rw (← next) (Writes-append e later (omega (arith, found, f.stated, f.least, l, k, d, m, lines.room))));
            room = omega (arith, found, f.stated, f.least, l, k, d, e.size, e.kept, lines.room);
          }

-- what `answer_lines` has written lies within the text buffer
pub lines_inside : (count : ℕ) (a t : List ℕ) (r : Result ℕ TooShort) {t' : List ℕ} → reported r t' ≡ answers_result count a t → written_size r ≤ length t'
unfolding answers_result
lines_inside count a t = written-inside (3 * length a) (answer_lines_in count a) t (lines_short count a)
