-- The listing, computed, and numbers as characters.
use Prim.Native.Nat.{ℕ}
use mathlib.Core.Path.{◌≡◌, refl}
use mathlib.Core.List.{List, [], ◌∷◌, ◌++◌}
use Rattle.model.specs.Replay.{unread}
use Rattle.model.proofs.StepDefinitions.{step_definitions}
use Rattle.model.proofs.CaseTable.{listing}
use Rattle.report.specs.Report.{digit_character, hexadecimal, digit_count, decimal, message_line, exchange_line, cut_line, run_text, report_of}

-- ok 0101 0, ok 0203 0, ok 0505 2, no 0101 6, no 0403 7, ok 0603 10, cut 117
abbrev pub listing_text : List ℕ
listing_text =
    (111 ∷ 107 ∷ 32 ∷ 48 ∷ 49 ∷ 48 ∷ 49 ∷ 32 ∷ 48 ∷ 10 ∷ []) ++ (111 ∷ 107 ∷ 32 ∷ 48 ∷ 50 ∷ 48 ∷ 51 ∷ 32 ∷ 48 ∷ 10 ∷ [])
    ++ (111 ∷ 107 ∷ 32 ∷ 48 ∷ 53 ∷ 48 ∷ 53 ∷ 32 ∷ 50 ∷ 10 ∷ []) ++ (110 ∷ 111 ∷ 32 ∷ 48 ∷ 49 ∷ 48 ∷ 49 ∷ 32 ∷ 54 ∷ 10 ∷ [])
    ++ (110 ∷ 111 ∷ 32 ∷ 48 ∷ 52 ∷ 48 ∷ 51 ∷ 32 ∷ 55 ∷ 10 ∷ []) ++ (111 ∷ 107 ∷ 32 ∷ 48 ∷ 54 ∷ 48 ∷ 51 ∷ 32 ∷ 49 ∷ 48 ∷ 10 ∷ [])
    ++ (99 ∷ 117 ∷ 116 ∷ 32 ∷ 49 ∷ 49 ∷ 55 ∷ 10 ∷ [])

pub listing_text_lem : report_of listing ≡ listing_text
unfolding listing step_definitions unread digit_character hexadecimal digit_count decimal message_line exchange_line cut_line run_text report_of
listing_text_lem = refl

-- 050a, ffff; 0, 9, 10, 99, 100, 999, 1000, 9999, 10000 and 60000
pub numbers_text : (hexadecimal 1290 ≡ 48 ∷ 53 ∷ 48 ∷ 97 ∷ []) × (hexadecimal 65535 ≡ 102 ∷ 102 ∷ 102 ∷ 102 ∷ [])
    × (decimal 0 ≡ 48 ∷ []) × (decimal 9 ≡ 57 ∷ []) × (decimal 10 ≡ 49 ∷ 48 ∷ []) × (decimal 99 ≡ 57 ∷ 57 ∷ [])
    × (decimal 100 ≡ 49 ∷ 48 ∷ 48 ∷ []) × (decimal 999 ≡ 57 ∷ 57 ∷ 57 ∷ []) × (decimal 1000 ≡ 49 ∷ 48 ∷ 48 ∷ 48 ∷ [])
    × (decimal 9999 ≡ 57 ∷ 57 ∷ 57 ∷ 57 ∷ []) × (decimal 10000 ≡ 49 ∷ 48 ∷ 48 ∷ 48 ∷ 48 ∷ []) × (decimal 60000 ≡ 54 ∷ 48 ∷ 48 ∷ 48 ∷ 48 ∷ [])
unfolding digit_character hexadecimal digit_count decimal
numbers_text = (refl, refl, refl, refl, refl, refl, refl, refl, refl, refl, refl, refl)
