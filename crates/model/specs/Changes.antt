-- What an accepted action changes.
use Rattle.std.specs.Prelude.{ℕ, ◌+◌, ◌*◌, List, [], ◌∷◌, ◌++◌, set}
use Rattle.layout.specs.Bits.{set_bit, clear_bit}
use Rattle.model.specs.Lists.{remove_at}
use Rattle.model.specs.State.{User, Post, State, user_limit, user_at}
use Rattle.model.specs.StateUpdates.{with_users, with_posts, with_pending, with_notes, with_password, with_friends, with_requests, with_name, with_info, with_picture, with_visibility, with_title, with_text}
use Rattle.model.specs.Lookups.{user_slot, post_place, pending_place, post_numbered}
use Rattle.model.specs.Actions.{Change, start_sys, c_nu_req, c_user, c_post, c_friend_req, c_friend, d_friend, u_user, u_title_post, u_text_post, u_img_post, u_vis_post}

-- ---- parts of changes

-- a new user (0101, 0202) has an empty name and info, and no friends
unfoldable pub add_user : State → ℕ → ℕ → State
add_user s u p =
    with_users s (s.users ++ (record { number = u; password = p; friends = 0; requests = 0; name = []; info = [] } ∷ []))

unfoldable pub update_user : State → ℕ → (User → User) → State
update_user s i f = with_users s (set s.users i (f (user_at s i)))

unfoldable pub update_post : State → ℕ → (Post → Post) → State
update_post s n f = with_posts s (set s.posts (post_place s n) (f (post_numbered s n)))

-- "the note to slot i from slot j is number 32 × i + j"
unfoldable pub set_note : State → ℕ → ℕ → List ℕ → State
set_note s i j note = with_notes s (set s.notes (user_limit * i + j) note)

-- place j of the request row and of the friend row of slot i written, where `write` sets or clears a bit
abbrev pub write_request : (ℕ → ℕ → ℕ) → State → ℕ → ℕ → State
write_request write s i j = update_user s i (λ (a : User). with_requests a (write a.requests j))

abbrev pub write_friend : (ℕ → ℕ → ℕ) → State → ℕ → ℕ → State
write_friend write s i j = update_user s i (λ (a : User). with_friends a (write a.friends j))

-- slot j's request to slot i, with its note, put in (0204) and removed; a removed request has no note
unfoldable pub add_request : State → ℕ → ℕ → List ℕ → State
add_request s i j note = set_note (write_request set_bit s i j) i j note

unfoldable pub remove_request : State → ℕ → ℕ → State
remove_request s i j = set_note (write_request clear_bit s i j) i j []

-- slots i and j become friends, and cease to be (0301), "on both sides"
unfoldable pub add_friends : State → ℕ → ℕ → State
add_friends s i j = write_friend set_bit (write_friend set_bit s i j) j i

unfoldable pub remove_friends : State → ℕ → ℕ → State
remove_friends s i j = write_friend clear_bit (write_friend clear_bit s i j) j i

-- "0205 removes the requests both ways, with their notes" (document 02, change 2): those of slots i and j to each other
unfoldable pub remove_requests : State → ℕ → ℕ → State
remove_requests s i j = remove_request (remove_request s i j) j i

-- 0205: "both become friends"
unfoldable pub accept_request : State → ℕ → ℕ → State
accept_request s i j = add_friends (remove_requests s i j) i j

-- ---- the change of each kind

unfoldable pub apply_change : State → Change → State
apply_change s (start_sys u p) = add_user s u p  -- 0101
apply_change s (c_nu_req u note) = with_pending s (s.pending ++ (record { number = u; note = note } ∷ []))  -- 0201
apply_change s (c_user u p v p2) = add_user (with_pending s (remove_at (pending_place s v) s.pending)) v p2  -- 0202
apply_change s (c_post u p n title) =  -- 0203
    with_posts s (s.posts ++ (record { number = n; picture = 0; owner = user_slot s u; visibility = 0; title = title; text = [] } ∷ []))
apply_change s (c_friend_req u p v note) = add_request s (user_slot s v) (user_slot s u) note  -- 0204
apply_change s (c_friend u p v) = accept_request s (user_slot s u) (user_slot s v)  -- 0205
apply_change s (d_friend u p v) = remove_friends s (user_slot s u) (user_slot s v)  -- 0301
apply_change s (u_user u p p2 name info) = update_user s (user_slot s u) (λ (a : User). with_info (with_name (with_password a p2) name) info)  -- 0401
apply_change s (u_title_post u p n title) = update_post s n (λ (a : Post). with_title a title)  -- 0402
apply_change s (u_text_post u p n text) = update_post s n (λ (a : Post). with_text a text)  -- 0403
apply_change s (u_img_post u p n picture) = update_post s n (λ (a : Post). with_picture a picture)  -- 0404
apply_change s (u_vis_post u p n visibility) = update_post s n (λ (a : Post). with_visibility a visibility)  -- 0405
