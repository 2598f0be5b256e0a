-- The whole answers of all queries, as conversations: messages after a journal, one after the other, with the answers worked out for them
-- from documents 01 and 02.
--     answers-computed   each conversation, computed on states
-- CaseTheorems has them on bytes.
use Prim.Native.Nat.{ℕ, ◌+◌, ◌*◌}
use mathlib.Core.Path.{◌≡◌, refl}
use mathlib.Core.List.{List, [], ◌∷◌, ◌++◌, map}
use Rattle.reader.specs.Frames.{frame_bytes}
use Rattle.model.specs.State.{empty_state}
use Rattle.model.specs.Step.{step_state}
use Rattle.model.proofs.JournalLaws.{exchange_answers, last_state}
use Rattle.model.proofs.StepDefinitions.{step_definitions}
use Rattle.model.proofs.CaseTable.{Expectation, answers_are, observed, expected, login, target, target_string, registration_request, registration, user_update, picture_update, visibility_update, staff}

-- ---- a board with something of everything

-- pending 21 "x", 20 "yz" and 22 without a note; 9 has password 4 now, name "Bo", info "abc"; posts 50 of 8, 40 of 7, 45 of 9; post 50 has title
-- "Hey", text "abc", picture 1 + 2 * 256 + 3 * 65,536 + 4 * 16,777,216 and is public; 8 requests 7 with the note "a", then 9 does with "bc"; 9
-- requests 8
abbrev example_journal : List (List ℕ)
example_journal =
    staff
    ++ (registration_request 21 (120 ∷ []) ∷ registration_request 20 (121 ∷ 122 ∷ []) ∷ registration_request 22 []
    ∷ user_update 9 3 4 (66 ∷ 111 ∷ []) (97 ∷ 98 ∷ 99 ∷ [])
    ∷ target_string 0x0203 8 2 50 (72 ∷ 105 ∷ []) ∷ target_string 0x0203 7 1 40 [] ∷ target_string 0x0203 9 4 45 []
    ∷ target_string 0x0402 8 2 50 (72 ∷ 101 ∷ 121 ∷ []) ∷ target_string 0x0403 8 2 50 (97 ∷ 98 ∷ 99 ∷ []) ∷ picture_update 8 2 50 67305985
    ∷ visibility_update 8 2 50 1 ∷ target_string 0x0204 8 2 7 (97 ∷ []) ∷ target_string 0x0204 9 4 7 (98 ∷ 99 ∷ []) ∷ target_string 0x0204 9 4 8 [] ∷ [])

-- an accepted change, and a refused message
abbrev accepted : List ℕ
accepted = frame_bytes 0 []

abbrev refused_with : ℕ → List ℕ
refused_with n = frame_bytes n []

-- ---- the conversations

-- every query, and the rights to posts
readings : Expectation
readings = answers_are example_journal (
    -- 0501: name and info, and of a user without
    (target 0x0501 8 2 9, 11 ∷ 0 ∷ 0 ∷ 0 ∷ 2 ∷ 0 ∷ 66 ∷ 111 ∷ 3 ∷ 0 ∷ 97 ∷ 98 ∷ 99 ∷ [])
    ∷ (target 0x0501 9 4 8, 6 ∷ 0 ∷ 0 ∷ 0 ∷ 0 ∷ 0 ∷ 0 ∷ 0 ∷ [])
    -- 0502: note of a pending registration, the first, a middle and the last one
    ∷ (target 0x0502 7 1 21, 5 ∷ 0 ∷ 0 ∷ 0 ∷ 1 ∷ 0 ∷ 120 ∷ [])
    ∷ (target 0x0502 7 1 20, 6 ∷ 0 ∷ 0 ∷ 0 ∷ 2 ∷ 0 ∷ 121 ∷ 122 ∷ [])
    ∷ (target 0x0502 7 1 22, 4 ∷ 0 ∷ 0 ∷ 0 ∷ 0 ∷ 0 ∷ [])
    -- 0503: the admin, another, and 9 with the password before 0401
    ∷ (login 0x0503 7 1, 3 ∷ 0 ∷ 0 ∷ 0 ∷ 1 ∷ [])
    ∷ (login 0x0503 9 4, 3 ∷ 0 ∷ 0 ∷ 0 ∷ 0 ∷ [])
    ∷ (login 0x0503 9 3, refused_with 7)
    -- 0504 title, 0505 text, 0506 picture, 0507 visibility of a public post
    ∷ (target 0x0504 9 4 50, 7 ∷ 0 ∷ 0 ∷ 0 ∷ 3 ∷ 0 ∷ 72 ∷ 101 ∷ 121 ∷ [])
    ∷ (target 0x0505 9 4 50, 7 ∷ 0 ∷ 0 ∷ 0 ∷ 3 ∷ 0 ∷ 97 ∷ 98 ∷ 99 ∷ [])
    ∷ (target 0x0506 9 4 50, 6 ∷ 0 ∷ 0 ∷ 0 ∷ 1 ∷ 2 ∷ 3 ∷ 4 ∷ [])
    ∷ (target 0x0507 9 4 50, 3 ∷ 0 ∷ 0 ∷ 0 ∷ 1 ∷ [])
    -- .. of a new post, for its owner
    ∷ (target 0x0504 9 4 45, 4 ∷ 0 ∷ 0 ∷ 0 ∷ 0 ∷ 0 ∷ [])
    ∷ (target 0x0505 9 4 45, 4 ∷ 0 ∷ 0 ∷ 0 ∷ 0 ∷ 0 ∷ [])
    ∷ (target 0x0506 9 4 45, 6 ∷ 0 ∷ 0 ∷ 0 ∷ 0 ∷ 0 ∷ 0 ∷ 0 ∷ [])
    ∷ (target 0x0507 9 4 45, 3 ∷ 0 ∷ 0 ∷ 0 ∷ 0 ∷ [])
    -- .. for the admin, who is no friend of the owner
    ∷ (target 0x0504 7 1 45, refused_with 10)
    ∷ (target 0x0505 7 1 45, refused_with 10)
    ∷ (target 0x0506 7 1 45, refused_with 10)
    ∷ (target 0x0507 7 1 45, refused_with 10)
    -- 0508: owner's number, to any registered user, of posts of three members
    ∷ (target 0x0508 9 4 40, 6 ∷ 0 ∷ 0 ∷ 0 ∷ 7 ∷ 0 ∷ 0 ∷ 0 ∷ [])
    ∷ (target 0x0508 9 4 50, 6 ∷ 0 ∷ 0 ∷ 0 ∷ 8 ∷ 0 ∷ 0 ∷ 0 ∷ [])
    ∷ (target 0x0508 8 2 45, 6 ∷ 0 ∷ 0 ∷ 0 ∷ 9 ∷ 0 ∷ 0 ∷ 0 ∷ [])
    -- 0402 to 0405 are the owner's, of a public post too
    ∷ (target_string 0x0402 9 4 50 [], refused_with 10)
    ∷ (target_string 0x0403 9 4 50 [], refused_with 10)
    ∷ (picture_update 9 4 50 0, refused_with 10)
    ∷ (visibility_update 9 4 50 0, refused_with 10)
    -- 0509, 050a: note of a request to, and from, the sender
    ∷ (target 0x0509 7 1 8, 5 ∷ 0 ∷ 0 ∷ 0 ∷ 1 ∷ 0 ∷ 97 ∷ [])
    ∷ (target 0x050a 9 4 7, 6 ∷ 0 ∷ 0 ∷ 0 ∷ 2 ∷ 0 ∷ 98 ∷ 99 ∷ [])
    -- 0601: pending ones in order of asking
    ∷ (login 0x0601 7 1, 16 ∷ 0 ∷ 0 ∷ 0 ∷ 3 ∷ 0 ∷ 21 ∷ 0 ∷ 0 ∷ 0 ∷ 20 ∷ 0 ∷ 0 ∷ 0 ∷ 22 ∷ 0 ∷ 0 ∷ 0 ∷ [])
    -- 0602: users in order of registration
    ∷ (login 0x0602 8 2, 16 ∷ 0 ∷ 0 ∷ 0 ∷ 3 ∷ 0 ∷ 7 ∷ 0 ∷ 0 ∷ 0 ∷ 9 ∷ 0 ∷ 0 ∷ 0 ∷ 8 ∷ 0 ∷ 0 ∷ 0 ∷ [])
    -- 0603: posts in order of creation, each number followed by its owner's
    ∷ (
      login 0x0603 9 4,
      28 ∷ 0 ∷ 0 ∷ 0 ∷ 3 ∷ 0 ∷ 50 ∷ 0 ∷ 0 ∷ 0 ∷ 8 ∷ 0 ∷ 0 ∷ 0 ∷ 40 ∷ 0 ∷ 0 ∷ 0 ∷ 7 ∷ 0 ∷ 0 ∷ 0 ∷ 45 ∷ 0 ∷ 0 ∷ 0 ∷ 9 ∷ 0 ∷ 0 ∷ 0 ∷ [],
    )
    -- 0604 in order of registration: 9 before 8, who requested first; and of a member who is not the admin
    ∷ (login 0x0604 7 1, 12 ∷ 0 ∷ 0 ∷ 0 ∷ 2 ∷ 0 ∷ 9 ∷ 0 ∷ 0 ∷ 0 ∷ 8 ∷ 0 ∷ 0 ∷ 0 ∷ [])
    ∷ (login 0x0604 8 2, 8 ∷ 0 ∷ 0 ∷ 0 ∷ 1 ∷ 0 ∷ 9 ∷ 0 ∷ 0 ∷ 0 ∷ [])
    -- 7 accepts 8, then 9; 0605, 0606 in order of registration too
    ∷ (target 0x0205 7 1 8, accepted)
    ∷ (target 0x0205 7 1 9, accepted)
    ∷ (login 0x0605 7 1, 12 ∷ 0 ∷ 0 ∷ 0 ∷ 2 ∷ 0 ∷ 9 ∷ 0 ∷ 0 ∷ 0 ∷ 8 ∷ 0 ∷ 0 ∷ 0 ∷ [])
    ∷ (target 0x0606 8 2 7, 12 ∷ 0 ∷ 0 ∷ 0 ∷ 2 ∷ 0 ∷ 9 ∷ 0 ∷ 0 ∷ 0 ∷ 8 ∷ 0 ∷ 0 ∷ 0 ∷ [])
    -- a friend of the owner reads the post, and may not change it
    ∷ (target 0x0505 7 1 45, 4 ∷ 0 ∷ 0 ∷ 0 ∷ 0 ∷ 0 ∷ [])
    ∷ (target_string 0x0403 7 1 45 [], refused_with 10)
    ∷ [])

-- each update leaves the other fields, other posts and other users as they were
updates : Expectation
updates = answers_are example_journal (
    -- the title "Yo"; the text, the picture and the visibility stay
    (target_string 0x0402 8 2 50 (89 ∷ 111 ∷ []), accepted)
    ∷ (target 0x0504 8 2 50, 6 ∷ 0 ∷ 0 ∷ 0 ∷ 2 ∷ 0 ∷ 89 ∷ 111 ∷ [])
    ∷ (target 0x0505 8 2 50, 7 ∷ 0 ∷ 0 ∷ 0 ∷ 3 ∷ 0 ∷ 97 ∷ 98 ∷ 99 ∷ [])
    ∷ (target 0x0506 8 2 50, 6 ∷ 0 ∷ 0 ∷ 0 ∷ 1 ∷ 2 ∷ 3 ∷ 4 ∷ [])
    ∷ (target 0x0507 8 2 50, 3 ∷ 0 ∷ 0 ∷ 0 ∷ 1 ∷ [])
    -- the text "d"
    ∷ (target_string 0x0403 8 2 50 (100 ∷ []), accepted)
    ∷ (target 0x0504 8 2 50, 6 ∷ 0 ∷ 0 ∷ 0 ∷ 2 ∷ 0 ∷ 89 ∷ 111 ∷ [])
    ∷ (target 0x0505 8 2 50, 5 ∷ 0 ∷ 0 ∷ 0 ∷ 1 ∷ 0 ∷ 100 ∷ [])
    ∷ (target 0x0506 8 2 50, 6 ∷ 0 ∷ 0 ∷ 0 ∷ 1 ∷ 2 ∷ 3 ∷ 4 ∷ [])
    ∷ (target 0x0507 8 2 50, 3 ∷ 0 ∷ 0 ∷ 0 ∷ 1 ∷ [])
    -- the picture 5
    ∷ (picture_update 8 2 50 5, accepted)
    ∷ (target 0x0504 8 2 50, 6 ∷ 0 ∷ 0 ∷ 0 ∷ 2 ∷ 0 ∷ 89 ∷ 111 ∷ [])
    ∷ (target 0x0505 8 2 50, 5 ∷ 0 ∷ 0 ∷ 0 ∷ 1 ∷ 0 ∷ 100 ∷ [])
    ∷ (target 0x0506 8 2 50, 6 ∷ 0 ∷ 0 ∷ 0 ∷ 5 ∷ 0 ∷ 0 ∷ 0 ∷ [])
    ∷ (target 0x0507 8 2 50, 3 ∷ 0 ∷ 0 ∷ 0 ∷ 1 ∷ [])
    -- no longer public
    ∷ (visibility_update 8 2 50 0, accepted)
    ∷ (target 0x0504 8 2 50, 6 ∷ 0 ∷ 0 ∷ 0 ∷ 2 ∷ 0 ∷ 89 ∷ 111 ∷ [])
    ∷ (target 0x0505 8 2 50, 5 ∷ 0 ∷ 0 ∷ 0 ∷ 1 ∷ 0 ∷ 100 ∷ [])
    ∷ (target 0x0506 8 2 50, 6 ∷ 0 ∷ 0 ∷ 0 ∷ 5 ∷ 0 ∷ 0 ∷ 0 ∷ [])
    ∷ (target 0x0507 8 2 50, 3 ∷ 0 ∷ 0 ∷ 0 ∷ 0 ∷ [])
    ∷ (target 0x0505 9 4 50, refused_with 10)
    -- the last post, and the first as it was
    ∷ (target_string 0x0403 9 4 45 (101 ∷ []), accepted)
    ∷ (target 0x0505 9 4 45, 5 ∷ 0 ∷ 0 ∷ 0 ∷ 1 ∷ 0 ∷ 101 ∷ [])
    ∷ (target 0x0508 7 1 45, 6 ∷ 0 ∷ 0 ∷ 0 ∷ 9 ∷ 0 ∷ 0 ∷ 0 ∷ [])
    ∷ (target 0x0505 8 2 50, 5 ∷ 0 ∷ 0 ∷ 0 ∷ 1 ∷ 0 ∷ 100 ∷ [])
    -- 0401 again, with empty strings and the password 6; the others keep theirs, and friends, requests and posts stay
    ∷ (user_update 9 4 6 [] [], accepted)
    ∷ (target 0x0501 8 2 9, 6 ∷ 0 ∷ 0 ∷ 0 ∷ 0 ∷ 0 ∷ 0 ∷ 0 ∷ [])
    ∷ (login 0x0503 9 4, refused_with 7)
    ∷ (
      login 0x0603 9 6,
      28 ∷ 0 ∷ 0 ∷ 0 ∷ 3 ∷ 0 ∷ 50 ∷ 0 ∷ 0 ∷ 0 ∷ 8 ∷ 0 ∷ 0 ∷ 0 ∷ 40 ∷ 0 ∷ 0 ∷ 0 ∷ 7 ∷ 0 ∷ 0 ∷ 0 ∷ 45 ∷ 0 ∷ 0 ∷ 0 ∷ 9 ∷ 0 ∷ 0 ∷ 0 ∷ [],
    )
    ∷ (user_update 8 2 2 (65 ∷ []) (66 ∷ []), accepted)
    ∷ (target 0x0501 9 6 8, 8 ∷ 0 ∷ 0 ∷ 0 ∷ 1 ∷ 0 ∷ 65 ∷ 1 ∷ 0 ∷ 66 ∷ [])
    ∷ (target 0x0501 8 2 9, 6 ∷ 0 ∷ 0 ∷ 0 ∷ 0 ∷ 0 ∷ 0 ∷ 0 ∷ [])
    ∷ (login 0x0604 8 2, 8 ∷ 0 ∷ 0 ∷ 0 ∷ 1 ∷ 0 ∷ 9 ∷ 0 ∷ 0 ∷ 0 ∷ [])
    ∷ [])

-- ---- numbers of four and eight bytes

-- staff numbers, post numbers and passwords that differ in their highest byte alone
abbrev staff_number : ℕ → ℕ
staff_number high = 0x030201 + high * 0x01000000

abbrev post_number : ℕ → ℕ
post_number high = 0x060504 + high * 0x01000000

abbrev password : ℕ → ℕ
password high = 5 + high * 0x0100000000000000

-- the admin 1 registers 2 and 129; 4 and 8 ask; posts 1 of 2, 2 of 129, 129 of 1; 129 requests 2, and 2 requests 1
abbrev wide_journal : List (List ℕ)
wide_journal =
    login 0x0101 (staff_number 1) (password 1)
    ∷ registration_request (staff_number 2) [] ∷ registration (staff_number 1) (password 1) (staff_number 2) (password 2)
    ∷ registration_request (staff_number 129) [] ∷ registration (staff_number 1) (password 1) (staff_number 129) (password 129)
    ∷ registration_request (staff_number 4) (97 ∷ []) ∷ registration_request (staff_number 8) (98 ∷ [])
    ∷ target_string 0x0203 (staff_number 2) (password 2) (post_number 1) (99 ∷ [])
    ∷ target_string 0x0203 (staff_number 129) (password 129) (post_number 2) (100 ∷ [])
    ∷ target_string 0x0203 (staff_number 1) (password 1) (post_number 129) (101 ∷ [])
    ∷ target_string 0x0204 (staff_number 129) (password 129) (staff_number 2) (102 ∷ [])
    ∷ target_string 0x0204 (staff_number 2) (password 2) (staff_number 1) (103 ∷ []) ∷ []

wide_numbers : Expectation
wide_numbers = answers_are wide_journal (
    -- passwords of others, and without the highest byte
    (login 0x0503 (staff_number 1) (password 2), refused_with 7)
    ∷ (login 0x0503 (staff_number 2) (password 1), refused_with 7)
    ∷ (login 0x0503 (staff_number 1) (password 0), refused_with 7)
    ∷ (login 0x0503 (staff_number 0) (password 1), refused_with 7)
    ∷ (login 0x0503 (staff_number 1) (password 1), 3 ∷ 0 ∷ 0 ∷ 0 ∷ 1 ∷ [])
    ∷ (login 0x0503 (staff_number 2) (password 2), 3 ∷ 0 ∷ 0 ∷ 0 ∷ 0 ∷ [])
    -- 0502, 0508, 0509, 050a and 0504 of several that agree in three bytes
    ∷ (target 0x0502 (staff_number 1) (password 1) (staff_number 4), 5 ∷ 0 ∷ 0 ∷ 0 ∷ 1 ∷ 0 ∷ 97 ∷ [])
    ∷ (target 0x0502 (staff_number 1) (password 1) (staff_number 8), 5 ∷ 0 ∷ 0 ∷ 0 ∷ 1 ∷ 0 ∷ 98 ∷ [])
    ∷ (target 0x0508 (staff_number 1) (password 1) (post_number 1), 6 ∷ 0 ∷ 0 ∷ 0 ∷ 1 ∷ 2 ∷ 3 ∷ 2 ∷ [])
    ∷ (target 0x0508 (staff_number 1) (password 1) (post_number 2), 6 ∷ 0 ∷ 0 ∷ 0 ∷ 1 ∷ 2 ∷ 3 ∷ 129 ∷ [])
    ∷ (target 0x0508 (staff_number 2) (password 2) (post_number 129), 6 ∷ 0 ∷ 0 ∷ 0 ∷ 1 ∷ 2 ∷ 3 ∷ 1 ∷ [])
    ∷ (target 0x0508 (staff_number 2) (password 2) (post_number 0), refused_with 9)
    ∷ (target 0x0509 (staff_number 2) (password 2) (staff_number 129), 5 ∷ 0 ∷ 0 ∷ 0 ∷ 1 ∷ 0 ∷ 102 ∷ [])
    ∷ (target 0x050a (staff_number 2) (password 2) (staff_number 1), 5 ∷ 0 ∷ 0 ∷ 0 ∷ 1 ∷ 0 ∷ 103 ∷ [])
    ∷ (target 0x0504 (staff_number 129) (password 129) (post_number 2), 5 ∷ 0 ∷ 0 ∷ 0 ∷ 1 ∷ 0 ∷ 100 ∷ [])
    -- 0601 to 0604
    ∷ (login 0x0601 (staff_number 1) (password 1), 12 ∷ 0 ∷ 0 ∷ 0 ∷ 2 ∷ 0 ∷ 1 ∷ 2 ∷ 3 ∷ 4 ∷ 1 ∷ 2 ∷ 3 ∷ 8 ∷ [])
    ∷ (login 0x0602 (staff_number 129) (password 129), 16 ∷ 0 ∷ 0 ∷ 0 ∷ 3 ∷ 0 ∷ 1 ∷ 2 ∷ 3 ∷ 1 ∷ 1 ∷ 2 ∷ 3 ∷ 2 ∷ 1 ∷ 2 ∷ 3 ∷ 129 ∷ [])
    ∷ (
      login 0x0603 (staff_number 2) (password 2),
      28 ∷ 0 ∷ 0 ∷ 0 ∷ 3 ∷ 0 ∷ 4 ∷ 5 ∷ 6 ∷ 1 ∷ 1 ∷ 2 ∷ 3 ∷ 2 ∷ 4 ∷ 5 ∷ 6 ∷ 2 ∷ 1 ∷ 2 ∷ 3 ∷ 129 ∷ 4 ∷ 5 ∷ 6 ∷ 129 ∷ 1 ∷ 2 ∷ 3 ∷ 1 ∷ [],
    )
    ∷ (login 0x0604 (staff_number 1) (password 1), 8 ∷ 0 ∷ 0 ∷ 0 ∷ 1 ∷ 0 ∷ 1 ∷ 2 ∷ 3 ∷ 2 ∷ [])
    ∷ (login 0x0604 (staff_number 2) (password 2), 8 ∷ 0 ∷ 0 ∷ 0 ∷ 1 ∷ 0 ∷ 1 ∷ 2 ∷ 3 ∷ 129 ∷ [])
    -- both requests are accepted: 0605 and 0606; then 2 and 129 part, and 2 and 1 stay friends
    ∷ (target 0x0205 (staff_number 2) (password 2) (staff_number 129), accepted)
    ∷ (target 0x0205 (staff_number 1) (password 1) (staff_number 2), accepted)
    ∷ (login 0x0605 (staff_number 2) (password 2), 12 ∷ 0 ∷ 0 ∷ 0 ∷ 2 ∷ 0 ∷ 1 ∷ 2 ∷ 3 ∷ 1 ∷ 1 ∷ 2 ∷ 3 ∷ 129 ∷ [])
    ∷ (target 0x0606 (staff_number 2) (password 2) (staff_number 129), 8 ∷ 0 ∷ 0 ∷ 0 ∷ 1 ∷ 0 ∷ 1 ∷ 2 ∷ 3 ∷ 2 ∷ [])
    ∷ (target 0x0606 (staff_number 1) (password 1) (staff_number 129), refused_with 10)
    ∷ (target 0x0301 (staff_number 129) (password 129) (staff_number 2), accepted)
    ∷ (login 0x0605 (staff_number 2) (password 2), 8 ∷ 0 ∷ 0 ∷ 0 ∷ 1 ∷ 0 ∷ 1 ∷ 2 ∷ 3 ∷ 1 ∷ [])
    ∷ (login 0x0605 (staff_number 129) (password 129), 4 ∷ 0 ∷ 0 ∷ 0 ∷ 0 ∷ 0 ∷ [])
    ∷ (login 0x0605 (staff_number 1) (password 1), 8 ∷ 0 ∷ 0 ∷ 0 ∷ 1 ∷ 0 ∷ 1 ∷ 2 ∷ 3 ∷ 2 ∷ [])
    ∷ [])

pub answer_cases : List Expectation
answer_cases = readings ∷ updates ∷ wide_numbers ∷ []

pub answers-computed : map (observed step_state empty_state) answer_cases ≡ map (expected step_state empty_state) answer_cases
unfolding answer_cases readings updates wide_numbers observed expected last_state exchange_answers step_definitions
answers-computed = refl
