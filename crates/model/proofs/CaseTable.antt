-- The lettered cases and further cases as tables of journals and messages, with the number and the answer worked out for them from documents
-- 01 and 02, and document 01's listing. All are computed on states:
--     lettered_computed, regression_computed   each table as one equation
--     causes_computed                          which clause refuses a message
--     posts-computed                           64 posts make an answer of 518 bytes
--     listing_lines_lem, listing-cut               what the listing's messages get, and where it is cut
-- AnswerTable has the whole answers of all queries, CaseTheorems the tables on bytes.
use Prim.Native.Nat.{ℕ, zero, suc}
use mathlib.Core.Path.{◌≡◌, refl}
use mathlib.Core.List.{List, [], ◌∷◌, ◌++◌, map, flatten}
use mathlib.Core.Option.{Option, some}
use lib.ListN.{length, drop, replicate}
use Rattle.layout.specs.Numbers.{to_le_bytes}
use Rattle.layout.specs.StringFields.{string_bytes}
use Rattle.reader.specs.Frames.{frame_length, kind_of, body_of, frame_bytes}
use Rattle.model.specs.State.{State, empty_state}
use Rattle.model.specs.Actions.{Cause, malformed, users_present, users_absent, unknown_sender, wrong_password, not_admin, user_missing, post_missing, request_missing, friendship_missing, pending_missing, not_owner, not_entitled, already_registered, already_pending, post_number_used, request_to_self, already_friends, already_requested, pending_full, users_full, posts_full, Action, change, query, refused, action_of}
use Rattle.model.specs.Refusals.{change_refusals, query_refusals, first_cause}
use Rattle.model.specs.Step.{answer_limit, Response, step_state}
use Rattle.model.specs.Replay.{Exchange, frames_of, run_frames, run_of}
use Rattle.model.proofs.JournalLaws.{exchange_answers, last_state}
use Rattle.model.proofs.StepDefinitions.{step_definitions}

-- ---- what a row expects

-- a journal is the list of its messages, which starts on the empty board
pub data Expectation : Type 0 where
  -- after the journal the message gets the number and the answer, a whole frame
  answer_is : (journal : List (List ℕ)) (message : List ℕ) (number : ℕ) (answer : List ℕ) → Expectation
  -- after the journal both messages get the same number and answer
  answers_agree : (journal : List (List ℕ)) (first second : List ℕ) → Expectation
  -- after the journal the messages, one after the other, get these answers
  answers_are : (journal : List (List ℕ)) (exchanges : List (List ℕ × List ℕ)) → Expectation
  -- both journals lead to the same board
  boards_agree : (first second : List (List ℕ)) → Expectation

-- the number, and the frame without a body
abbrev number_is : List (List ℕ) → List ℕ → ℕ → Expectation
number_is journal message n = answer_is journal message n (frame_bytes n [])

pub data Outcome (S : Type 0) : Type 0 where
  answer_given : ℕ → List ℕ → Outcome S
  answers_given : List (List ℕ) → Outcome S
  board_left : S → Outcome S

-- both sides of a row, for any step
module _ {S : Type 0} (step : List ℕ → S → Response S) where
  abbrev pub state_after : S → List (List ℕ) → S
  state_after s messages = last_state s (run_frames step s messages)

  unfoldable pub outcome_of : S → List ℕ → Outcome S
  outcome_of s m = answer_given (step m s).number (step m s).answer

  unfoldable pub observed : S → Expectation → Outcome S
  observed s (answer_is journal message n answer) = outcome_of (state_after s journal) message
  observed s (answers_agree journal first second) = outcome_of (state_after s journal) first
  observed s (answers_are journal exchanges) =
      answers_given (exchange_answers (run_frames step (state_after s journal) (map (λ (x : List ℕ × List ℕ). x.0) exchanges)))
  observed s (boards_agree first second) = board_left (state_after s first)

  unfoldable pub expected : S → Expectation → Outcome S
  expected s (answer_is journal message n answer) = answer_given n answer
  expected s (answers_agree journal first second) = outcome_of (state_after s journal) second
  expected s (answers_are journal exchanges) = answers_given (map (λ (x : List ℕ × List ℕ). x.1) exchanges)
  expected s (boards_agree first second) = board_left (state_after s second)

-- ---- messages

abbrev pub message : ℕ → List (List ℕ) → List ℕ
message kind fields = frame_bytes kind (flatten fields)

-- U P: 0101, 0503, 0601 to 0605
abbrev pub login : ℕ → ℕ → ℕ → List ℕ
login kind u p = message kind (to_le_bytes 4 u ∷ to_le_bytes 8 p ∷ [])

-- U P and a staff or post number: 0205, 0301, 0501, 0502, 0504 to 050A, 0606
abbrev pub target : ℕ → ℕ → ℕ → ℕ → List ℕ
target kind u p x = message kind (to_le_bytes 4 u ∷ to_le_bytes 8 p ∷ to_le_bytes 4 x ∷ [])

-- .. and a string: 0203, 0204, 0402, 0403
abbrev pub target_string : ℕ → ℕ → ℕ → ℕ → List ℕ → List ℕ
target_string kind u p x s = message kind (to_le_bytes 4 u ∷ to_le_bytes 8 p ∷ to_le_bytes 4 x ∷ string_bytes s ∷ [])

-- 0201 U note, 0202 U P V P2
abbrev pub registration_request : ℕ → List ℕ → List ℕ
registration_request u note = message 0x0201 (to_le_bytes 4 u ∷ string_bytes note ∷ [])

abbrev pub registration : ℕ → ℕ → ℕ → ℕ → List ℕ
registration u p v p2 = message 0x0202 (to_le_bytes 4 u ∷ to_le_bytes 8 p ∷ to_le_bytes 4 v ∷ to_le_bytes 8 p2 ∷ [])

-- 0401 U P P2 name info
abbrev pub user_update : ℕ → ℕ → ℕ → List ℕ → List ℕ → List ℕ
user_update u p p2 name info = message 0x0401 (to_le_bytes 4 u ∷ to_le_bytes 8 p ∷ to_le_bytes 8 p2 ∷ string_bytes name ∷ string_bytes info ∷ [])

-- 0404 U P N picture, 0405 U P N visibility
abbrev pub picture_update : ℕ → ℕ → ℕ → ℕ → List ℕ
picture_update u p n picture = message 0x0404 (to_le_bytes 4 u ∷ to_le_bytes 8 p ∷ to_le_bytes 4 n ∷ to_le_bytes 4 picture ∷ [])

abbrev pub visibility_update : ℕ → ℕ → ℕ → ℕ → List ℕ
visibility_update u p n visibility = message 0x0405 (to_le_bytes 4 u ∷ to_le_bytes 8 p ∷ to_le_bytes 4 n ∷ to_le_bytes 1 visibility ∷ [])

-- ---- journals

unfoldable pub numbers_from : ℕ → ℕ → List ℕ
numbers_from first zero = []
numbers_from first (suc n) = first ∷ numbers_from (suc first) n

-- user 7 starts, with password 1
abbrev pub start_journal : List (List ℕ)
start_journal = login 0x0101 7 1 ∷ []

-- .. and registers 9 with password 3, then 8 with password 2
abbrev pub staff : List (List ℕ)
staff = start_journal ++ (registration_request 9 [] ∷ registration 7 1 9 3 ∷ registration_request 8 [] ∷ registration 7 1 8 2 ∷ [])

-- post 50 "Hi" of 9
abbrev created : List (List ℕ)
created = staff ++ (target_string 0x0203 9 3 50 (72 ∷ 105 ∷ []) ∷ [])

-- .. with the text "abc"
abbrev posted : List (List ℕ)
posted = created ++ (target_string 0x0403 9 3 50 (97 ∷ 98 ∷ 99 ∷ []) ∷ [])

-- .. with the text "abcd", then "ab"
abbrev shortened : List (List ℕ)
shortened = created ++ (target_string 0x0403 9 3 50 (97 ∷ 98 ∷ 99 ∷ 100 ∷ []) ∷ target_string 0x0403 9 3 50 (97 ∷ 98 ∷ []) ∷ [])

-- 8 requests 9 with the note "a", 9 accepts
abbrev befriended : List (List ℕ)
befriended = posted ++ (target_string 0x0204 8 2 9 (97 ∷ []) ∷ target 0x0205 9 3 8 ∷ [])

-- 8 ends the friendship
abbrev unfriended : List (List ℕ)
unfriended = befriended ++ (target 0x0301 8 2 9 ∷ [])

-- posts 1 to 64 of 7; 101 to 116 ask; users 7 and 201 to 231
abbrev pub full_posts : List (List ℕ)
full_posts = start_journal ++ map (λ (n : ℕ). target_string 0x0203 7 1 n []) (numbers_from 1 64)

abbrev full_pending : List (List ℕ)
full_pending = start_journal ++ map (λ (u : ℕ). registration_request u []) (numbers_from 101 16)

abbrev full_users : List (List ℕ)
full_users = start_journal ++ flatten (map (λ (v : ℕ). registration_request v [] ∷ registration 7 1 v 5 ∷ []) (numbers_from 201 31))

-- ---- "Lettered cases"

pub lettered_cases : List Expectation
lettered_cases =
    -- (a) "L 1: 3.": a message of L + 2 = 3 bytes, and one of 4
    number_is start_journal (1 ∷ 0 ∷ 1 ∷ []) 3
    ∷ number_is start_journal (1 ∷ 0 ∷ 1 ∷ 1 ∷ []) 3
    -- (b) "Text of 256 bytes: 0."
    ∷ number_is posted (target_string 0x0403 9 3 50 (replicate 256 97)) 0
    -- (c) "L 276 with a stated text length of 257: 5."
    ∷ number_is posted (message 0x0403 (to_le_bytes 4 9 ∷ to_le_bytes 8 3 ∷ to_le_bytes 4 50 ∷ to_le_bytes 2 257 ∷ replicate 256 97 ∷ [])) 5
    -- (d) "0201 on the empty board: 6."
    ∷ number_is [] (registration_request 7 []) 6
    -- (e) "Right password, non-admin 0502 for an absent number: 8, not 9."
    ∷ number_is staff (target 0x0502 8 2 99) 8
    -- (f) "65th post, fresh number: 12."
    ∷ number_is full_posts (target_string 0x0203 7 1 65 []) 12
    -- (g) "65th post, used number: 11."
    ∷ number_is full_posts (target_string 0x0203 7 1 64 []) 11
    -- (h) "0204 to oneself: 11."
    ∷ number_is staff (target_string 0x0204 8 2 8 []) 11
    -- (i) "0606 with V = U equals 0605.": with a friend and with none
    ∷ answers_agree befriended (target 0x0606 8 2 8) (login 0x0605 8 2)
    ∷ answers_agree staff (target 0x0606 8 2 8) (login 0x0605 8 2)
    -- (j) "Friend unfriended, post not public: 0505 gives 10."
    ∷ number_is unfriended (target 0x0505 8 2 50) 10
    -- (k) "Text "abcd" then "ab": the board equals one where only "ab" was sent."
    ∷ boards_agree shortened (created ++ (target_string 0x0403 9 3 50 (97 ∷ 98 ∷ []) ∷ []))
    -- (l) "17th pending: 12; after one approval: 0."
    ∷ number_is full_pending (registration_request 117 []) 12
    ∷ number_is (full_pending ++ (registration 7 1 103 5 ∷ [])) (registration_request 117 []) 0
    ∷ []

pub lettered_computed : map (observed step_state empty_state) lettered_cases ≡ map (expected step_state empty_state) lettered_cases
unfolding lettered_cases observed expected outcome_of last_state numbers_from step_definitions
lettered_computed = refl

-- ---- "What a marker has caught before", the order of the refusals, and readings that are easily missed

-- 103 of the sixteen is registered, and 117 asks
abbrev pending_again : List (List ℕ)
pending_again = full_pending ++ (registration 7 1 103 5 ∷ registration_request 117 [] ∷ [])

-- after their friendship 8 requests 9 again, with the note "c"
abbrev requested_again : List (List ℕ)
requested_again = unfriended ++ (target_string 0x0204 8 2 9 (99 ∷ []) ∷ [])

-- 8 requests 9 with the note "a", 9 requests 8 with the note "b", 9 accepts
abbrev crossed_requests : List (List ℕ)
crossed_requests = staff ++ (target_string 0x0204 8 2 9 (97 ∷ []) ∷ target_string 0x0204 9 3 8 (98 ∷ []) ∷ target 0x0205 9 3 8 ∷ [])

-- all 32 users, and 101 asks
abbrev full_users_asked : List (List ℕ)
full_users_asked = full_users ++ (registration_request 101 [] ∷ [])

-- all 32 users, and 231 in slot 31 requests 7 in slot 0
abbrev last_slot_requested : List (List ℕ)
last_slot_requested = full_users ++ (target_string 0x0204 231 5 7 (97 ∷ []) ∷ [])

-- .. and 7 accepts
abbrev last_slot_accepted : List (List ℕ)
last_slot_accepted = last_slot_requested ++ (target 0x0205 7 1 231 ∷ [])

pub regression_cases : List Expectation
regression_cases =
    -- "A shorter text that leaves the old tail on the board.": (k), and the text that is read afterwards
    answer_is shortened (target 0x0505 9 3 50) 0 (6 ∷ 0 ∷ 0 ∷ 0 ∷ 2 ∷ 0 ∷ 97 ∷ 98 ∷ [])
    -- "An end of friendship on one side only.": friends on both sides, and afterwards on neither
    ∷ answer_is befriended (login 0x0605 8 2) 0 (8 ∷ 0 ∷ 0 ∷ 0 ∷ 1 ∷ 0 ∷ 9 ∷ 0 ∷ 0 ∷ 0 ∷ [])
    ∷ answer_is befriended (login 0x0605 9 3) 0 (8 ∷ 0 ∷ 0 ∷ 0 ∷ 1 ∷ 0 ∷ 8 ∷ 0 ∷ 0 ∷ 0 ∷ [])
    ∷ answer_is unfriended (login 0x0605 8 2) 0 (4 ∷ 0 ∷ 0 ∷ 0 ∷ 0 ∷ 0 ∷ [])
    ∷ answer_is unfriended (login 0x0605 9 3) 0 (4 ∷ 0 ∷ 0 ∷ 0 ∷ 0 ∷ 0 ∷ [])
    ∷ number_is unfriended (target 0x0301 8 2 9) 9
    ∷ number_is unfriended (target 0x0301 9 3 8) 9
    -- .. and the friend reads, before it, the text that (j) refuses
    ∷ answer_is befriended (target 0x0505 8 2 50) 0 (7 ∷ 0 ∷ 0 ∷ 0 ∷ 3 ∷ 0 ∷ 97 ∷ 98 ∷ 99 ∷ [])
    -- "Rights looked up before the password.": 8 without a right gets 7 with a wrong password; 8 or 10 with the right one
    ∷ number_is posted (login 0x0601 8 5) 7
    ∷ number_is posted (login 0x0601 8 2) 8
    ∷ number_is posted (registration 8 5 101 5) 7
    ∷ number_is posted (registration 8 2 101 5) 8
    ∷ number_is posted (target 0x0502 8 5 101) 7
    ∷ number_is posted (target 0x0502 8 2 101) 8
    ∷ number_is posted (target_string 0x0402 8 5 50 []) 7
    ∷ number_is posted (target_string 0x0402 8 2 50 []) 10
    ∷ number_is posted (target 0x0505 8 5 50) 7
    ∷ number_is posted (target 0x0505 8 2 50) 10
    ∷ number_is posted (target 0x0606 8 5 9) 7
    ∷ number_is posted (target 0x0606 8 2 9) 10
    -- a sender who is not registered, with the password of an unused record
    ∷ number_is posted (login 0x0601 99 0) 7
    ∷ number_is posted (target 0x0505 99 0 50) 7
    -- "A slot of a pending request never used again.": sixteen in order of asking again, without 103, and one more gets 12
    ∷ answer_is pending_again (login 0x0601 7 1) 0
    (68 ∷ 0 ∷ 0 ∷ 0 ∷ 16 ∷ 0
    ∷ 101 ∷ 0 ∷ 0 ∷ 0 ∷ 102 ∷ 0 ∷ 0 ∷ 0 ∷ 104 ∷ 0 ∷ 0 ∷ 0 ∷ 105 ∷ 0 ∷ 0 ∷ 0
    ∷ 106 ∷ 0 ∷ 0 ∷ 0 ∷ 107 ∷ 0 ∷ 0 ∷ 0 ∷ 108 ∷ 0 ∷ 0 ∷ 0 ∷ 109 ∷ 0 ∷ 0 ∷ 0
    ∷ 110 ∷ 0 ∷ 0 ∷ 0 ∷ 111 ∷ 0 ∷ 0 ∷ 0 ∷ 112 ∷ 0 ∷ 0 ∷ 0 ∷ 113 ∷ 0 ∷ 0 ∷ 0
    ∷ 114 ∷ 0 ∷ 0 ∷ 0 ∷ 115 ∷ 0 ∷ 0 ∷ 0 ∷ 116 ∷ 0 ∷ 0 ∷ 0 ∷ 117 ∷ 0 ∷ 0 ∷ 0 ∷ [])
    ∷ number_is pending_again (registration_request 118 []) 12
    -- .. and of a friend request: it is made again, with its new note
    ∷ number_is unfriended (target_string 0x0204 8 2 9 (99 ∷ [])) 0
    ∷ answer_is requested_again (target 0x0509 9 3 8) 0 (5 ∷ 0 ∷ 0 ∷ 0 ∷ 1 ∷ 0 ∷ 99 ∷ [])
    -- 0205 removes the request
    ∷ number_is befriended (target 0x0509 9 3 8) 9
    ∷ number_is befriended (target 0x050a 8 2 9) 9
    ∷ number_is befriended (target 0x0205 9 3 8) 9
    ∷ answer_is befriended (login 0x0604 9 3) 0 (4 ∷ 0 ∷ 0 ∷ 0 ∷ 0 ∷ 0 ∷ [])
    -- 0202 removes the pending registration
    ∷ number_is staff (target 0x0502 7 1 8) 9
    ∷ number_is staff (registration 7 1 8 2) 9
    ∷ number_is staff (registration_request 8 []) 11
    ∷ answer_is staff (login 0x0601 7 1) 0 (4 ∷ 0 ∷ 0 ∷ 0 ∷ 0 ∷ 0 ∷ [])
    -- "A text length or an edit count shown to somebody who may not read.": 3 bytes of text, and 256 after another update
    ∷ answer_is posted (target 0x0505 8 2 50) 10 (2 ∷ 0 ∷ 10 ∷ 0 ∷ [])
    ∷ answer_is (posted ++ (target_string 0x0403 9 3 50 (replicate 256 97) ∷ [])) (target 0x0505 8 2 50) 10 (2 ∷ 0 ∷ 10 ∷ 0 ∷ [])
    -- 3 before 4 before 5 before 6 and 7: a bad frame of an unknown kind, an unknown kind with no body, 0101 with no body, a second 0101;
    -- post number 0 with a wrong password
    ∷ number_is staff (3 ∷ 0 ∷ 7 ∷ 6 ∷ []) 3
    ∷ number_is staff (message 0x0607 []) 4
    ∷ number_is staff (message 0x0101 []) 5
    ∷ number_is staff (login 0x0101 99 5) 6
    ∷ number_is staff (target 0x0505 8 5 0) 5
    -- 9: no such user, no such post
    ∷ number_is posted (target 0x0205 8 2 99) 9
    ∷ number_is posted (target 0x0301 8 2 99) 9
    ∷ number_is posted (target 0x0501 8 2 99) 9
    ∷ number_is posted (target 0x0509 8 2 99) 9
    ∷ number_is posted (target 0x050a 8 2 99) 9
    ∷ number_is posted (target 0x0508 8 2 51) 9
    -- 7 before 9, 9 before 10
    ∷ number_is posted (target 0x0505 8 5 51) 7
    ∷ number_is posted (target 0x0505 8 2 51) 9
    ∷ number_is posted (target_string 0x0402 8 2 51 []) 9
    ∷ number_is posted (target 0x0606 8 5 99) 7
    ∷ number_is posted (target 0x0606 8 2 99) 9
    -- 9: 0204 to nobody; 0205 between friends
    ∷ number_is staff (target_string 0x0204 8 2 99 []) 9
    ∷ number_is befriended (target 0x0205 8 2 9) 9
    -- requests that crossed are both removed, with their notes: nothing is left to accept, to read or to list, and the board is the one
    -- that a single request leaves
    ∷ number_is crossed_requests (target 0x0205 8 2 9) 9
    ∷ number_is crossed_requests (target 0x0509 8 2 9) 9
    ∷ number_is crossed_requests (target 0x050a 9 3 8) 9
    ∷ answer_is crossed_requests (login 0x0604 8 2) 0 (4 ∷ 0 ∷ 0 ∷ 0 ∷ 0 ∷ 0 ∷ [])
    ∷ boards_agree crossed_requests (staff ++ (target_string 0x0204 8 2 9 (97 ∷ []) ∷ target 0x0205 9 3 8 ∷ []))
    -- so the friendship is not restored without a new request
    ∷ number_is (crossed_requests ++ (target 0x0301 8 2 9 ∷ [])) (target 0x0205 8 2 9) 9
    ∷ number_is (crossed_requests ++ (target 0x0301 8 2 9 ∷ [])) (target_string 0x0204 9 3 8 []) 0
    -- V = U: (h), and 9 for 0205, 0301, 0509, 050A; 0501 is accepted; 9 for 0202 and 0502, since the admin is not pending
    ∷ number_is posted (target 0x0205 8 2 8) 9
    ∷ number_is posted (target 0x0301 8 2 8) 9
    ∷ number_is posted (target 0x0509 8 2 8) 9
    ∷ number_is posted (target 0x050a 8 2 8) 9
    ∷ answer_is posted (target 0x0501 8 2 8) 0 (6 ∷ 0 ∷ 0 ∷ 0 ∷ 0 ∷ 0 ∷ 0 ∷ 0 ∷ [])
    ∷ number_is posted (registration 7 1 7 5) 9
    ∷ number_is posted (target 0x0502 7 1 7) 9
    -- the last slot, 31: requests and friends in both directions
    ∷ answer_is last_slot_requested (login 0x0604 7 1) 0 (8 ∷ 0 ∷ 0 ∷ 0 ∷ 1 ∷ 0 ∷ 231 ∷ 0 ∷ 0 ∷ 0 ∷ [])
    ∷ answer_is last_slot_requested (target 0x0509 7 1 231) 0 (5 ∷ 0 ∷ 0 ∷ 0 ∷ 1 ∷ 0 ∷ 97 ∷ [])
    ∷ answer_is last_slot_accepted (login 0x0605 7 1) 0 (8 ∷ 0 ∷ 0 ∷ 0 ∷ 1 ∷ 0 ∷ 231 ∷ 0 ∷ 0 ∷ 0 ∷ [])
    ∷ answer_is last_slot_accepted (login 0x0605 231 5) 0 (8 ∷ 0 ∷ 0 ∷ 0 ∷ 1 ∷ 0 ∷ 7 ∷ 0 ∷ 0 ∷ 0 ∷ [])
    -- 0204 to a friend, and a second time
    ∷ number_is befriended (target_string 0x0204 9 3 8 []) 11
    ∷ number_is requested_again (target_string 0x0204 8 2 9 []) 11
    -- 11 before 12: with 16 pending a registered and a pending number ask; 9 before 12: with 32 users nobody and one pending is registered
    ∷ number_is full_pending (registration_request 7 []) 11
    ∷ number_is full_pending (registration_request 116 []) 11
    ∷ number_is full_users_asked (registration 7 1 102 5) 9
    ∷ number_is full_users_asked (registration 7 1 101 5) 12
    ∷ []

pub regression_computed : map (observed step_state empty_state) regression_cases ≡ map (expected step_state empty_state) regression_cases
unfolding regression_cases observed expected outcome_of last_state numbers_from step_definitions
regression_computed = refl

-- ---- causes: which clause of the table refuses a message, also where others have the same number

abbrev cause_of : Action → State → Option Cause
cause_of (change c) s = first_cause (change_refusals s c)
cause_of (query q) s = first_cause (query_refusals s q)
cause_of (refused refusal) s = some (malformed refusal)

-- after 101 has asked
abbrev asked : List (List ℕ)
asked = posted ++ (registration_request 101 [] ∷ [])

-- a journal, the message after it, and the cause of its refusal
pub cause_cases : List (List (List ℕ) × List ℕ × Cause)
cause_cases =
    -- 6 and 7
    (posted, login 0x0101 99 5, users_present) ∷ ([], registration_request 7 [], users_absent)
    ∷ (posted, login 0x0503 99 0, unknown_sender) ∷ (posted, login 0x0503 8 5, wrong_password)
    -- 8
    ∷ (posted, login 0x0601 8 2, not_admin) ∷ (posted, target 0x0502 8 2 99, not_admin) ∷ (posted, registration 8 2 99 5, not_admin)
    -- 9: no such user, before no request and no friendship
    ∷ (posted, target_string 0x0204 8 2 99 [], user_missing) ∷ (posted, target 0x0205 8 2 99, user_missing) ∷ (posted, target 0x0301 8 2 99, user_missing)
    ∷ (posted, target 0x0501 8 2 99, user_missing) ∷ (posted, target 0x0509 8 2 99, user_missing) ∷ (posted, target 0x050a 8 2 99, user_missing)
    ∷ (posted, target 0x0606 8 2 99, user_missing)
    -- .. with another user, and with oneself
    ∷ (posted, target 0x0205 8 2 9, request_missing) ∷ (posted, target 0x0509 8 2 9, request_missing) ∷ (posted, target 0x050a 8 2 9, request_missing)
    ∷ (posted, target 0x0205 8 2 8, request_missing) ∷ (posted, target 0x0509 8 2 8, request_missing) ∷ (posted, target 0x050a 8 2 8, request_missing)
    ∷ (posted, target 0x0301 8 2 9, friendship_missing) ∷ (posted, target 0x0301 8 2 8, friendship_missing)
    -- .. no such post, no such pending registration
    ∷ (posted, target_string 0x0402 8 2 51 [], post_missing) ∷ (posted, target 0x0508 8 2 51, post_missing)
    ∷ (posted, registration 7 1 99 5, pending_missing) ∷ (posted, target 0x0502 7 1 99, pending_missing)
    -- 10
    ∷ (posted, target_string 0x0402 8 2 50 [], not_owner) ∷ (posted, target 0x0505 8 2 50, not_entitled) ∷ (posted, target 0x0606 8 2 9, not_entitled)
    -- 11
    ∷ (asked, registration_request 8 [], already_registered) ∷ (asked, registration_request 101 [], already_pending)
    ∷ (posted, target_string 0x0203 8 2 50 [], post_number_used) ∷ (posted, target_string 0x0204 8 2 8 [], request_to_self)
    ∷ (befriended, target_string 0x0204 9 3 8 [], already_friends) ∷ (requested_again, target_string 0x0204 8 2 9 [], already_requested)
    -- 12
    ∷ (full_pending, registration_request 117 [], pending_full) ∷ (full_users_asked, registration 7 1 101 5, users_full)
    ∷ (full_posts, target_string 0x0203 7 1 65 [], posts_full) ∷ []

pub causes_computed : map (λ (x : List (List ℕ) × List ℕ × Cause). cause_of (action_of x.1) (state_after step_state empty_state x.0)) cause_cases
    ≡ map (λ (x : List (List ℕ) × List ℕ × Cause). some x.2) cause_cases
unfolding cause_cases last_state numbers_from step_definitions
causes_computed = refl

-- ---- the longest answer

-- 0603 with 64 posts
pub posts-computed : length (step_state (login 0x0603 7 1) (state_after step_state empty_state full_posts)).answer ≡ answer_limit
unfolding last_state numbers_from step_definitions
posts-computed = refl

-- ---- the listing

-- "Input, password 1 throughout: 0101 user 7; 0203 post 9 "Hi"; 0505 post 9; 0101 user 7; 0403 post 9 "abc" with password 2; 0603; a lone
-- byte 05."
unfoldable pub listing : List ℕ
listing =
    flatten (login 0x0101 7 1 ∷ target_string 0x0203 7 1 9 (72 ∷ 105 ∷ []) ∷ target 0x0505 7 1 9 ∷ login 0x0101 7 1
    ∷ target_string 0x0403 7 2 9 (97 ∷ 98 ∷ 99 ∷ []) ∷ login 0x0603 7 1 ∷ (5 ∷ []) ∷ [])

-- the message's kind, the number, and the length of the answer's body
abbrev pub line_of : {S : Type 0} → Exchange S → ℕ × ℕ × ℕ
line_of e = (kind_of e.frame, e.response.number, length (body_of e.response.answer))

-- "ok 0101 0", "ok 0203 0", "ok 0505 2", "no 0101 6", "no 0403 7", "ok 0603 10"
abbrev pub listing_lines : List (ℕ × ℕ × ℕ)
listing_lines = (0x0101, 0, 0) ∷ (0x0203, 0, 0) ∷ (0x0505, 0, 2) ∷ (0x0101, 6, 0) ∷ (0x0403, 7, 0) ∷ (0x0603, 0, 10) ∷ []

pub listing_lines_lem : map line_of (run_of step_state empty_state listing) ≡ listing_lines
unfolding listing step_definitions
listing_lines_lem = refl

-- "cut 117": the frames end there, and the rest is the lone byte, which is no frame
pub listing-cut : (length (flatten (frames_of listing)) ≡ 117) × (drop 117 listing ≡ 5 ∷ []) × (frame_length (drop 117 listing) ≡ 0)
unfolding listing step_definitions
listing-cut = (refl, refl, refl)
