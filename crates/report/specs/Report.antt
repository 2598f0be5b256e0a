-- The text that the program prints for a journal, by the run of its messages from the empty board: no buffer has a part in it.
use Rattle.std.specs.Prelude.{ℕ, ◌+◌, ◌-◌, ◌/◌, ◌%◌, cond, length, drop, eqb, ltb}
use mathlib.Core.List.{List, [], ◌∷◌, ◌++◌, map, flatten}
use Rattle.reader.specs.Frames.{kind_of, body_of}
use Rattle.model.specs.State.{State, empty_state}
use Rattle.model.specs.Step.{step_state}
use Rattle.model.specs.Replay.{unread, Exchange, run_of}

-- "a journal of at most 60,000 bytes"
abbrev pub journal_limit : ℕ
journal_limit = 60000

-- ---- numbers, as characters

-- 48 is the character 0, 97 is a
unfoldable pub digit_character : ℕ → ℕ
digit_character d = cond (ltb d 10) (48 + d) (87 + d)

-- "four lowercase hexadecimal digits"
unfoldable pub hexadecimal : ℕ → List ℕ
hexadecimal n = map digit_character (n / 4096 % 16 ∷ n / 256 % 16 ∷ n / 16 % 16 ∷ n % 16 ∷ [])

-- how many digits a number below 100,000 has
unfoldable pub digit_count : ℕ → ℕ
digit_count n = cond (ltb n 10) 1 (cond (ltb n 100) 2 (cond (ltb n 1000) 3 (cond (ltb n 10000) 4 5)))

-- "decimal": five digits, without those in front of the number's first
unfoldable pub decimal : ℕ → List ℕ
decimal n = drop (5 - digit_count n) (map digit_character (n / 10000 % 10 ∷ n / 1000 % 10 ∷ n / 100 % 10 ∷ n / 10 % 10 ∷ n % 10 ∷ []))

-- ---- lines

-- `ok`, `no`, `cut` and `long`, a space, a line feed
abbrev pub ok_word : List ℕ
ok_word = 111 ∷ 107 ∷ []

abbrev pub no_word : List ℕ
no_word = 110 ∷ 111 ∷ []

abbrev pub cut_word : List ℕ
cut_word = 99 ∷ 117 ∷ 116 ∷ []

abbrev pub long_word : List ℕ
long_word = 108 ∷ 111 ∷ 110 ∷ 103 ∷ []

abbrev pub space : List ℕ
space = 32 ∷ []

abbrev pub line_feed : List ℕ
line_feed = 10 ∷ []

-- "Each line begins with `ok` or `no`, then the message's kind .., then the length of the answer's body or the refusal, decimal."
unfoldable pub message_line : ℕ → ℕ → ℕ → List ℕ
message_line kind number size =
    cond (eqb number 0) ok_word no_word ++ (space ++ (hexadecimal kind ++ (space ++ (decimal (cond (eqb number 0) size number) ++ line_feed))))

unfoldable pub exchange_line : Exchange State → List ℕ
exchange_line x = message_line (kind_of x.frame) x.response.number (length (body_of x.response.answer))

-- "A journal that stops with 3 ends with `cut` and the byte place, from 0."
unfoldable pub cut_line : ℕ → List ℕ
cut_line place = cut_word ++ (space ++ (decimal place ++ line_feed))

-- ---- the whole text

-- the lines of a journal from a state on; the journal begins at a place of the whole one
unfoldable pub run_text : State → ℕ → List ℕ → List ℕ
run_text s place j =
    flatten (map exchange_line (run_of step_state s j))
    ++ cond (eqb (length (unread j)) 0) [] (cut_line (place + (length j - length (unread j))))

-- "beyond that it prints only `long`"
unfoldable pub report_of : List ℕ → List ℕ
report_of j = cond (ltb journal_limit (length j)) (long_word ++ line_feed) (run_text empty_state 0 j)
