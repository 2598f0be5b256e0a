-- What an accepted query answers: "its fields in the form they have in messages".
use Rattle.std.specs.Prelude.{ℕ, cond, length}
use mathlib.Core.List.{List, [], ◌∷◌, ◌++◌, map, flatten}
use Rattle.layout.specs.Numbers.{to_le_bytes}
use Rattle.layout.specs.StringFields.{string_bytes}
use Rattle.layout.specs.Bits.{set_places}
use Rattle.model.specs.State.{Post, State, user_limit, user_numbers, pending_numbers, user_at, pending_at, is_admin}
use Rattle.model.specs.Lookups.{user_numbered, post_numbered, pending_place, note_of_request, owner_of}
use Rattle.model.specs.Actions.{Query, r_user, r_nu_req, r_am_i_admin, r_title_post, r_text_post, r_img_post, r_vis_post, r_owner_post, r_friend_req_to_me, r_friend_req_from_me, l_pending_u_reqs, l_all_users, l_all_posts, l_friend_reqs, l_friends, l_friends_of}

-- ---- lists

-- "a two-byte count, then numbers": entries of any form
unfoldable pub counted_list : {A : Type 0} → (A → List ℕ) → List A → List ℕ
counted_list entry xs = to_le_bytes 2 (length xs) ++ flatten (map entry xs)

-- staff and post numbers have four bytes
unfoldable pub staff_list : List ℕ → List ℕ
staff_list numbers = counted_list (to_le_bytes 4) numbers

-- "posts, each number followed by its owner's"
unfoldable pub post_entry : State → Post → List ℕ
post_entry s p = to_le_bytes 4 p.number ++ to_le_bytes 4 (owner_of s p).number

-- the users whose bits are set in a row (0604 to 0606), "in order of registration"
unfoldable pub users_in : State → ℕ → List ℕ
users_in s row = map (λ (j : ℕ). (user_at s j).number) (set_places row user_limit)

-- ---- the body that each kind answers

unfoldable pub answer_body : State → Query → List ℕ
answer_body s (r_user u p v) = string_bytes (user_numbered s v).name ++ string_bytes (user_numbered s v).info  -- 0501
answer_body s (r_nu_req u p v) = string_bytes (pending_at s (pending_place s v)).note  -- 0502
answer_body s (r_am_i_admin u p) = cond (is_admin s u) 1 0 ∷ []  -- 0503
answer_body s (r_title_post u p n) = string_bytes (post_numbered s n).title  -- 0504
answer_body s (r_text_post u p n) = string_bytes (post_numbered s n).text  -- 0505
answer_body s (r_img_post u p n) = to_le_bytes 4 (post_numbered s n).picture  -- 0506
answer_body s (r_vis_post u p n) = to_le_bytes 1 (post_numbered s n).visibility  -- 0507
answer_body s (r_owner_post u p n) = to_le_bytes 4 (owner_of s (post_numbered s n)).number  -- 0508
answer_body s (r_friend_req_to_me u p v) = string_bytes (note_of_request s v u)  -- 0509
answer_body s (r_friend_req_from_me u p v) = string_bytes (note_of_request s u v)  -- 050A
answer_body s (l_pending_u_reqs u p) = staff_list (pending_numbers s)  -- 0601
answer_body s (l_all_users u p) = staff_list (user_numbers s)  -- 0602
answer_body s (l_all_posts u p) = counted_list (post_entry s) s.posts  -- 0603
answer_body s (l_friend_reqs u p) = staff_list (users_in s (user_numbered s u).requests)  -- 0604
answer_body s (l_friends u p) = staff_list (users_in s (user_numbered s u).friends)  -- 0605
answer_body s (l_friends_of u p v) = staff_list (users_in s (user_numbered s v).friends)  -- 0606
