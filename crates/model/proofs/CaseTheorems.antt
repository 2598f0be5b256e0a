-- The tables of CaseTable and AnswerTable about bytes: what `step_of` gives after journals from the empty board.
--     lettered_cases_lem, regression_cases_lem, answer-cases   the rows of each table
--     posts-written                                64 posts make an answer of 518 bytes
--     own-friends                                  (i) on every state
--     listing-board                                the listing
use Prim.Native.Nat.{ℕ, ◌≤◌}
use native.Mathlib.Omega.{arith}
use mathlib.Core.Path.{◌≡◌, refl, sym, ap, subst, ◌∙◌}
use mathlib.Core.List.{List, [], ◌∷◌, map, map-map}
use mathlib.Core.Bool.{Bool, true, false, not, cond, ◌||◌}
use mathlib.Core.Option.{Option, some, none}
use lib.Dec.{eqb}
use borrow.Author.Tests.{eq-eqb}
use Rattle.layout.specs.Search.{index_of}
use lib.ListN.{length, take, replicate, length-replicate}
use Rattle.reader.specs.Frames.{kind_of, body_of}
use Rattle.model.specs.State.{State, empty_state}
use Rattle.model.specs.Board.{encode, empty_board}
use Rattle.model.specs.Lists.{contains}
use Rattle.model.specs.Lookups.{is_registered, user_numbered, are_friends}
use Rattle.model.specs.Actions.{Cause, unknown_sender, wrong_password, user_missing, not_entitled, l_friends, l_friends_of, query}
use Rattle.model.specs.Refusals.{right_of, lacks_right, after_login, user_rows, query_refusals, first_cause}
use Rattle.model.specs.Answers.{staff_list, users_in, answer_body}
use Rattle.model.specs.Step.{answer_limit, Response, respond, StepResult, step_action, step_state, step_of}
use Rattle.model.specs.Replay.{Exchange, frames_of, run_frames, run_of}
use Rattle.model.proofs.EmptyBoard.{empty-encoded}
use Rattle.model.proofs.RuleLaws.{ValidState}
use Rattle.model.proofs.Invariant.{empty-valid, step_valid}
use Rattle.model.proofs.StepTheorems.{step_valid-board}
use Rattle.model.proofs.BufferLaws.{take-start}
use Rattle.model.proofs.JournalLaws.{exchange_answers, last_state, run-keeps}
use Rattle.model.proofs.AnswerTable.{answer_cases, answers-computed}
use Rattle.model.proofs.CaseTable.{Expectation, answer_is, answers_agree, answers_are, boards_agree, Outcome, answer_given, answers_given, board_left, state_after, outcome_of, observed, expected, lettered_cases, lettered_computed, regression_cases, regression_computed, login, full_posts, posts-computed, listing, line_of, listing_lines, listing_lines_lem}

-- ---- the step on boards alone

-- the number, the bytes written at the front of the buffer, and the board
abbrev pub response_of : StepResult → Response (List ℕ)
response_of r = record { number = r.number; answer = take r.written r.buffer; state = r.board }

-- a buffer of the least length that is not refused
abbrev pub zero_buffer : List ℕ
zero_buffer = replicate answer_limit 0

unfoldable pub board_step : List ℕ → List ℕ → Response (List ℕ)
board_step msg board = response_of (step_of msg board zero_buffer)

pub zeros-long : (n : ℕ) → n ≤ length {A = ℕ} (replicate n 0)
zeros-long n = omega (arith, length-replicate {A = ℕ} n 0)

abbrev pub encode_response : Response State → Response (List ℕ)
encode_response r = record { number = r.number; answer = r.answer; state = encode r.state }

pub board_step_lem : (msg : List ℕ) (s : State) → ValidState s → board_step msg (encode s) ≡ encode_response (step_state msg s)
unfolding board_step
board_step_lem msg s valid =
    let r : Response State = step_state msg s in
    ap response_of (step_valid-board msg s zero_buffer valid (zeros-long answer_limit))
    ∙ (λ i. record { number = r.number; answer = take-start zero_buffer r.answer i; state = encode r.state })

-- ---- rows

encode_outcome : Outcome State → Outcome (List ℕ)
encode_outcome (answer_given n a) = answer_given n a
encode_outcome (answers_given answers) = answers_given answers
encode_outcome (board_left s) = board_left (encode s)

after_valid : (ms : List (List ℕ)) → ValidState (state_after step_state empty_state ms)
after_valid ms = run-keeps step_state ValidState step_valid empty_state ms empty-valid

after_encode : (s : State) → ValidState s → (ms : List (List ℕ)) → state_after board_step (encode s) ms ≡ encode (state_after step_state s ms)
unfolding run_frames last_state
after_encode s valid [] = refl
after_encode s valid (m ∷ ms) =
    ap (λ (r : Response (List ℕ)). state_after board_step r.state ms) (board_step_lem m s valid)
    ∙ after_encode (step_state m s).state (step_valid m s valid) ms

-- what `seen` makes of the frame, the number and the answer of an exchange
abbrev seen_in : {S A : Type 0} → (List ℕ → ℕ → List ℕ → A) → Exchange S → A
seen_in seen x = seen x.frame x.response.number x.response.answer

run-encode : {A : Type 0} (seen : List ℕ → ℕ → List ℕ → A) (s : State) → ValidState s → (ms : List (List ℕ))
    → map (seen_in seen) (run_frames board_step (encode s) ms) ≡ map (seen_in seen) (run_frames step_state s ms)
unfolding run_frames
run-encode seen s valid [] = refl
run-encode {A} seen s valid (m ∷ ms) =
    let r : Response State = step_state m s in
    ap (λ (x : Response (List ℕ)). seen m x.number x.answer ∷ map (seen_in seen) (run_frames board_step x.state ms)) (board_step_lem m s valid)
    ∙ ap (λ (later : List A). seen m r.number r.answer ∷ later) (run-encode seen r.state (step_valid m s valid) ms)

-- a message after a journal
outcome-encode : (ms : List (List ℕ)) (m : List ℕ)
    → outcome_of board_step (state_after board_step (encode empty_state) ms) m
    ≡ encode_outcome (outcome_of step_state (state_after step_state empty_state ms) m)
unfolding outcome_of encode_outcome
outcome-encode ms m =
    ap (λ (b : List ℕ). outcome_of board_step b m) (after_encode empty_state empty-valid ms)
    ∙ ap (λ (r : Response (List ℕ)). answer_given r.number r.answer)
    (board_step_lem m (state_after step_state empty_state ms) (after_valid ms))

observed-encode : (e : Expectation) → observed board_step (encode empty_state) e ≡ encode_outcome (observed step_state empty_state e)
unfolding observed encode_outcome exchange_answers
observed-encode (answer_is journal message n answer) = outcome-encode journal message
observed-encode (answers_agree journal first second) = outcome-encode journal first
observed-encode (answers_are journal exchanges) =
    let ms : List (List ℕ) = map (λ (x : List ℕ × List ℕ). x.0) exchanges in
    ap (λ (b : List ℕ). answers_given (exchange_answers (run_frames board_step b ms))) (after_encode empty_state empty-valid journal)
    ∙ ap answers_given (run-encode (λ m n a. a) (state_after step_state empty_state journal) (after_valid journal) ms)
observed-encode (boards_agree first second) = ap board_left (after_encode empty_state empty-valid first)

expected-encode : (e : Expectation) → expected board_step (encode empty_state) e ≡ encode_outcome (expected step_state empty_state e)
unfolding expected encode_outcome
expected-encode (answer_is journal message n answer) = refl
expected-encode (answers_agree journal first second) = outcome-encode journal second
expected-encode (answers_are journal exchanges) = refl
expected-encode (boards_agree first second) = ap board_left (after_encode empty_state empty-valid second)

-- a table that holds on states holds on bytes
rows-encode : (es : List Expectation) → map (observed step_state empty_state) es ≡ map (expected step_state empty_state) es
    → map (observed board_step empty_board) es ≡ map (expected board_step empty_board) es
rows-encode es h =
    subst (λ (b : List ℕ). map (observed board_step b) es ≡ map (expected board_step b) es) empty-encoded
    ((λ i. map (λ (e : Expectation). observed-encode e i) es)
    ∙ sym (map-map encode_outcome (observed step_state empty_state) es)
    ∙ ap (map encode_outcome) h
    ∙ map-map encode_outcome (expected step_state empty_state) es
    ∙ (λ i. map (λ (e : Expectation). sym (expected-encode e) i) es))

pub lettered_cases_lem : map (observed board_step empty_board) lettered_cases ≡ map (expected board_step empty_board) lettered_cases
lettered_cases_lem = rows-encode lettered_cases lettered_computed

pub regression_cases_lem : map (observed board_step empty_board) regression_cases ≡ map (expected board_step empty_board) regression_cases
regression_cases_lem = rows-encode regression_cases regression_computed

pub answer-cases : map (observed board_step empty_board) answer_cases ≡ map (expected board_step empty_board) answer_cases
answer-cases = rows-encode answer_cases answers-computed

-- ---- the longest answer: 0603 with 64 posts writes 518 bytes

pub posts-written : (step_of (login 0x0603 7 1) (state_after board_step empty_board full_posts) zero_buffer).written ≡ answer_limit
posts-written =
    let s : State = state_after step_state empty_state full_posts in
    ap (λ (b : List ℕ). (step_of (login 0x0603 7 1) (state_after board_step b full_posts) zero_buffer).written) (sym empty-encoded)
    ∙ ap (λ (b : List ℕ). (step_of (login 0x0603 7 1) b zero_buffer).written) (after_encode empty_state empty-valid full_posts)
    ∙ ap (λ (r : StepResult). r.written) (step_valid-board (login 0x0603 7 1) s zero_buffer (after_valid full_posts) (zeros-long answer_limit))
    ∙ posts-computed

-- ---- (i) on every state: 0606 with V = U equals 0605

pub own-friends : (s : State) (u p : ℕ) → step_action s (query (l_friends_of u p u)) ≡ step_action s (query (l_friends u p))
unfolding step_action query_refusals user_rows after_login right_of lacks_right first_cause answer_body contains index_of
own-friends s u p =
    ap (λ (t : Bool). respond (rows (is_registered s u) t) s s (staff_list (users_in s (user_numbered s u).friends))) (eq-eqb u u refl)
    ∙ ap (λ (c : Option Cause). respond c s s (staff_list (users_in s (user_numbered s u).friends))) (by_test (is_registered s u))
  where
    wrong : Bool
    wrong = not (eqb (user_numbered s u).password p)

    rows : Bool → Bool → Option Cause
    rows registered own =
        cond (not registered) (some unknown_sender)
        (cond wrong (some wrong_password) (cond (not registered) (some user_missing) (cond (not (own || are_friends s u u)) (some not_entitled) none)))

    by_test : (registered : Bool) → rows registered true ≡ cond (not registered) (some unknown_sender) (cond wrong (some wrong_password) none)
    by_test true = refl
    by_test false = refl

-- ---- the listing

pub run_lines : (j : List ℕ) → map line_of (run_of board_step empty_board j) ≡ map line_of (run_of step_state empty_state j)
unfolding run_of
run_lines j =
    ap (λ (b : List ℕ). map line_of (run_frames board_step b (frames_of j))) (sym empty-encoded)
    ∙ run-encode (λ m n a. (kind_of m, n, length (body_of a))) empty_state empty-valid (frames_of j)

pub listing-board : map line_of (run_of board_step empty_board listing) ≡ listing_lines
listing-board = run_lines listing ∙ listing_lines_lem
