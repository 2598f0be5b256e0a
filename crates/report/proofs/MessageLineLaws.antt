-- The lines of a replay's messages, one behind the other.
use Prim.Native.Nat.{ℕ, zero, suc, ◌-◌, ◌*◌, ◌≤◌}
use native.Mathlib.Omega.{arith}
use mathlib.Core.Path.{◌≡◌, refl, sym, ap, ap₂, ◌∙◌}
use mathlib.Core.List.{List, [], ◌++◌}
use mathlib.Core.Bool.{Bool, true, false, cond}
use lib.ListN.{length, take, drop, length-append}
use lib.Dec.{eqb}
use borrow.Author.Tests.{eq-eqb, ne_eqb, eqb-true, eqb-false}
use borrow.Table.Steps.{cases}
use borrow.Author.Rules.{part_to_end}
use Rattle.reader.proofs.FrameLaws.{frame_at}
use Rattle.reader.specs.Frames.{length_field, frame_length, kind_of}
use Rattle.report.specs.Report.{hexadecimal, decimal, ok_word, no_word, space, line_feed, message_line}
use Rattle.report.specs.MessageLines.{answer_length, lines_in}
use Rattle.report.proofs.LineLaws.{length-hexadecimal, length-decimal}

-- ---- lines

pub line-short : (kind number size : ℕ) → length (message_line kind number size) ≤ 14
unfolding message_line
line-short kind number size = by_test (eqb number 0)
  where
    with_word : (word : List ℕ) (n : ℕ) → length word ≡ 2 → length (word ++ (space ++ (hexadecimal kind ++ (space ++ (decimal n ++ line_feed))))) ≤ 14
    with_word word n e = let h = length-hexadecimal kind in let d = length-decimal n in simp length-append (omega arith)

    by_test : (t : Bool) → length (cond t ok_word no_word ++ (space ++ (hexadecimal kind ++ (space ++ (decimal (cond t size number) ++ line_feed))))) ≤ 14
    by_test true = with_word ok_word size refl
    by_test false = with_word no_word number refl

-- the lines of no message, of no frame, of no answer
pub lines_none : (count : ℕ) (j a : List ℕ) → count ≡ 0 → lines_in count j a ≡ []
unfolding lines_in
lines_none zero j a e = refl
lines_none (suc count) j a e = absurd (omega arith)

pub lines_no_frame : (count : ℕ) (j a : List ℕ) → frame_length j ≡ 0 → lines_in count j a ≡ []
unfolding lines_in
lines_no_frame zero j a e = refl
lines_no_frame (suc count) j a e = rw (eq-eqb (frame_length j) 0 e) refl

pub lines_no_answer : (count : ℕ) (j a : List ℕ) → (frame_length j ≡ 0 → ⊥) → answer_length a ≡ 0 → lines_in count j a ≡ []
unfolding lines_in
lines_no_answer zero j a n e = refl
lines_no_answer (suc count) j a n e = rw (ne_eqb (frame_length j) 0 n) (rw (eq-eqb (answer_length a) 0 e) refl)

lines_next : (count : ℕ) (j a : List ℕ) → (count ≡ 0 → ⊥) → (frame_length j ≡ 0 → ⊥) → (answer_length a ≡ 0 → ⊥)
    → lines_in count j a ≡ message_line (kind_of j) (kind_of a) (answer_length a - 4) ++ lines_in (count - 1) (drop (frame_length j) j) (drop (answer_length a) a)
unfolding lines_in
lines_next zero j a c n m = absurd (c refl)
lines_next (suc count) j a c n m =
    let w = frame_at a m in
    let size : length_field a - 2 ≡ answer_length a - 4 = omega (arith, w.stated, w.least) in
    let one : suc count - 1 ≡ count = omega arith in
    rw (ne_eqb (frame_length j) 0 n) (rw (ne_eqb (answer_length a) 0 m)
    (ap₂ (λ (x k : ℕ). message_line (kind_of j) (kind_of a) x ++ lines_in k (drop (frame_length j) j) (drop (answer_length a) a)) size (sym one)))

-- no more than fourteen bytes a line
pub lines_short : (count : ℕ) (j a : List ℕ) → length (lines_in count j a) ≤ 14 * count
lines_short zero j a = let e = ap length (lines_none 0 j a refl) in omega arith
lines_short (suc count) j a =
    cases (eqb (frame_length j) 0)
    (λ z. let e = ap length (lines_no_frame (suc count) j a (eqb-true (frame_length j) 0 z)) in omega arith)
    (λ n. cases (eqb (answer_length a) 0)
    (λ z. let e = ap length (lines_no_answer (suc count) j a (eqb-false (frame_length j) 0 n) (eqb-true (answer_length a) 0 z)) in omega arith)
    (λ m.
    let line : List ℕ = message_line (kind_of j) (kind_of a) (answer_length a - 4) in
    let more : List ℕ = lines_in (suc count - 1) (drop (frame_length j) j) (drop (answer_length a) a) in
    let e : length (lines_in (suc count) j a) ≡ length (line ++ more) =
    ap length (lines_next (suc count) j a (λ z. omega arith) (eqb-false (frame_length j) 0 n) (eqb-false (answer_length a) 0 m))
    in
    let l = length-append line more in
    let s = line-short (kind_of j) (kind_of a) (answer_length a - 4) in
    let one : suc count - 1 ≡ count = omega arith in
    let later : length more ≤ 14 * count = rw one (lines_short count (drop (frame_length j) j) (drop (answer_length a) a)) in
    omega arith))

-- a line, and the lines of the rest, as `write_lines` finds the parts of journal and answers
pub line_in_front : (count : ℕ) (j a : List ℕ) {size answer kind number : ℕ} → size ≡ frame_length j → answer ≡ answer_length a → (count ≡ 0 → ⊥)
    → (size ≡ 0 → ⊥) → (answer ≡ 0 → ⊥) → kind ≡ kind_of j → number ≡ kind_of a
    → message_line kind number (answer - 4) ++ lines_in (count - 1) (take (length j - size) (drop size j)) (take (length a - answer) (drop answer a))
    ≡ lines_in count j a
line_in_front count j a {size} {answer} p q c s w k l =
    ap₂ (λ (x y : List ℕ). x ++ y)
    (ap₂ (λ (f : ℕ → List ℕ) (i : ℕ). f i) (ap₂ message_line k l) (ap (λ (i : ℕ). i - 4) q))
    (ap₂ (lines_in (count - 1)) (part_to_end j size ∙ ap (λ (i : ℕ). drop i j) p) (part_to_end a answer ∙ ap (λ (i : ℕ). drop i a) q))
    ∙ sym (lines_next count j a c (λ z. s (p ∙ z)) (λ z. w (q ∙ z)))
