-- The answers of the listing as text, computed, and lines of a buffer.
use Prim.Native.Nat.{ℕ}
use mathlib.Core.Path.{◌≡◌, refl}
use mathlib.Core.List.{List, [], ◌∷◌, ◌++◌}
use Rattle.reader.specs.Frames.{length_field, frame_length_up_to}
use Rattle.model.specs.State.{empty_state}
use Rattle.model.proofs.StepDefinitions.{step_definitions}
use Rattle.model.proofs.CaseTable.{listing}
use Rattle.report.specs.Report.{digit_character}
use Rattle.transcript.specs.AnswerLines.{byte_digits, answer_line, answers_text, answer_lines_in}

-- 02000000 twice, 040000000000, 02000600, 02000700, 0c00000001000900000007000000
abbrev listing_answers : List ℕ
listing_answers =
    (48 ∷ 50 ∷ 48 ∷ 48 ∷ 48 ∷ 48 ∷ 48 ∷ 48 ∷ 10 ∷ []) ++ (48 ∷ 50 ∷ 48 ∷ 48 ∷ 48 ∷ 48 ∷ 48 ∷ 48 ∷ 10 ∷ [])
    ++ (48 ∷ 52 ∷ 48 ∷ 48 ∷ 48 ∷ 48 ∷ 48 ∷ 48 ∷ 48 ∷ 48 ∷ 48 ∷ 48 ∷ 10 ∷ [])
    ++ (48 ∷ 50 ∷ 48 ∷ 48 ∷ 48 ∷ 54 ∷ 48 ∷ 48 ∷ 10 ∷ []) ++ (48 ∷ 50 ∷ 48 ∷ 48 ∷ 48 ∷ 55 ∷ 48 ∷ 48 ∷ 10 ∷ [])
    ++ (48 ∷ 99 ∷ 48 ∷ 48 ∷ 48 ∷ 48 ∷ 48 ∷ 48 ∷ 48 ∷ 49 ∷ 48 ∷ 48 ∷ 48 ∷ 57 ∷ 48 ∷ 48 ∷ 48 ∷ 48 ∷ 48 ∷ 48 ∷ 48 ∷ 55 ∷ 48 ∷ 48 ∷ 48 ∷ 48 ∷ 48 ∷ 48 ∷ 10 ∷ [])

pub listing-answers : answers_text empty_state listing ≡ listing_answers
unfolding listing step_definitions digit_character byte_digits answer_line answers_text
listing-answers = refl

-- an answer with the number 7 and one with the body 171, 205 (ab, cd); then bytes that are no answer
abbrev some_answers : List ℕ
some_answers = (2 ∷ 0 ∷ 7 ∷ 0 ∷ []) ++ (4 ∷ 0 ∷ 0 ∷ 0 ∷ 171 ∷ 205 ∷ []) ++ (0 ∷ 0 ∷ 0 ∷ 0 ∷ [])

abbrev first_line : List ℕ
first_line = 48 ∷ 50 ∷ 48 ∷ 48 ∷ 48 ∷ 55 ∷ 48 ∷ 48 ∷ 10 ∷ []

abbrev second_line : List ℕ
second_line = 48 ∷ 52 ∷ 48 ∷ 48 ∷ 48 ∷ 48 ∷ 48 ∷ 48 ∷ 97 ∷ 98 ∷ 99 ∷ 100 ∷ 10 ∷ []

-- none, one, both, and no third; and of the answer that is cut by a byte, none
pub buffer_lines : (answer_lines_in 0 some_answers ≡ []) × (answer_lines_in 1 some_answers ≡ first_line)
    × (answer_lines_in 2 some_answers ≡ first_line ++ second_line) × (answer_lines_in 9 some_answers ≡ first_line ++ second_line)
    × (answer_lines_in 1 (4 ∷ 0 ∷ 0 ∷ 0 ∷ 171 ∷ []) ≡ [])
unfolding step_definitions length_field frame_length_up_to digit_character byte_digits answer_line answer_lines_in
buffer_lines = (refl, refl, refl, refl, refl)
