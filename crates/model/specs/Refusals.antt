-- What refuses an action: for each kind the rows 6 to 12 of the table of "The answer" that speak of it, rising.
use Rattle.std.specs.Prelude.{ℕ, List, [], ◌∷◌, ◌++◌, Bool, not, cond, ◌&&◌, ◌||◌, length, eqb, leb}
use Rattle.std.proofs.Math.Option.{Option, some, none}
use Rattle.reader.specs.Messages.{refusal_number}
use Rattle.model.specs.Lists.{contains}
use Rattle.model.specs.State.{State, user_limit, post_limit, pending_limit, is_admin}
use Rattle.model.specs.Lookups.{is_registered, is_post, is_pending, user_numbered, are_friends, has_requested, is_owner, may_read}
use Rattle.model.specs.Actions.{Cause, unsound_board, short_buffer, malformed, users_present, users_absent, unknown_sender, wrong_password, not_admin, user_missing, post_missing, request_missing, friendship_missing, pending_missing, not_owner, not_entitled, already_registered, already_pending, post_number_used, request_to_self, already_friends, already_requested, pending_full, users_full, posts_full}
use Rattle.model.specs.Actions.{Change, start_sys, c_nu_req, c_user, c_post, c_friend_req, c_friend, d_friend, u_user, u_title_post, u_text_post, u_img_post, u_vis_post}
use Rattle.model.specs.Actions.{Query, r_user, r_nu_req, r_am_i_admin, r_title_post, r_text_post, r_img_post, r_vis_post, r_owner_post, r_friend_req_to_me, r_friend_req_from_me, l_pending_u_reqs, l_all_users, l_all_posts, l_friend_reqs, l_friends, l_friends_of}

-- the first column of the table
unfoldable pub cause_number : Cause → ℕ
cause_number unsound_board = 1
cause_number short_buffer = 2
cause_number (malformed refusal) = refusal_number refusal
cause_number users_present = 6
cause_number users_absent = 6
cause_number unknown_sender = 7
cause_number wrong_password = 7
cause_number not_admin = 8
cause_number user_missing = 9
cause_number post_missing = 9
cause_number request_missing = 9
cause_number friendship_missing = 9
cause_number pending_missing = 9
cause_number not_owner = 10
cause_number not_entitled = 10
cause_number already_registered = 11
cause_number already_pending = 11
cause_number post_number_used = 11
cause_number request_to_self = 11
cause_number already_friends = 11
cause_number already_requested = 11
cause_number pending_full = 12
cause_number users_full = 12
cause_number posts_full = 12

-- the order of the numbers, which the rows of each kind follow
abbrev pub refusal_order : List ℕ
refusal_order = 1 ∷ 2 ∷ 3 ∷ 4 ∷ 5 ∷ 6 ∷ 7 ∷ 8 ∷ 9 ∷ 10 ∷ 11 ∷ 12 ∷ []

-- a cause, and whether it applies
abbrev pub RefusalRow : Type 0
RefusalRow = Cause × Bool

-- ---- rights

pub data Right : Type 0 where
  admin_right owner_right reader_right friend_right no_right : Right

-- "0202, 0502, 0601: U not the admin", "0402 to 0405: not the owner; 0504 to 0507, 0606: not entitled"
unfoldable pub right_of : ℕ → Right
right_of kind =
    cond (contains kind (0x0202 ∷ 0x0502 ∷ 0x0601 ∷ [])) admin_right
    (cond (leb 0x0402 kind && leb kind 0x0405) owner_right
    (cond (leb 0x0504 kind && leb kind 0x0507) reader_right
    (cond (eqb kind 0x0606) friend_right no_right)))

-- the row that refuses u without the right, where x is the post or the other user; "0606 .. V, where V is U or a friend of U"
unfoldable pub lacks_right : State → Right → ℕ → ℕ → List RefusalRow
lacks_right s admin_right u x = (not_admin, not (is_admin s u)) ∷ []
lacks_right s owner_right u x = (not_owner, not (is_owner s u x)) ∷ []
lacks_right s reader_right u x = (not_entitled, not (may_read s u x)) ∷ []
lacks_right s friend_right u x = (not_entitled, not (eqb u x || are_friends s u x)) ∷ []
lacks_right s no_right u x = []

-- ---- rows that kinds share

-- 7: "other kinds: U not registered or P wrong", in front of all others
unfoldable pub after_login : State → ℕ → ℕ → List RefusalRow → List RefusalRow
after_login s u p rows = (unknown_sender, not (is_registered s u)) ∷ (wrong_password, not (eqb (user_numbered s u).password p)) ∷ rows

-- kinds with a post: "post unknown (0402 to 0405, 0504 to 0508)", and the right to it
unfoldable pub post_rows : State → ℕ → ℕ → ℕ → ℕ → List RefusalRow
post_rows s kind u p n = after_login s u p ((post_missing, not (is_post s n)) ∷ lacks_right s (right_of kind) u n)

-- kinds with another user (0204, 0205, 0301, 0501, 0509, 050A, 0606): "V not registered", and what follows it
unfoldable pub user_rows : State → ℕ → ℕ → ℕ → List RefusalRow → List RefusalRow
user_rows s u p v rows = after_login s u p ((user_missing, not (is_registered s v)) ∷ rows)

-- kinds for the admin with a pending registration: "0202, 0502: not pending"
unfoldable pub pending_rows : State → ℕ → ℕ → ℕ → ℕ → List RefusalRow → List RefusalRow
pending_rows s kind u p v rows = after_login s u p (lacks_right s (right_of kind) u v ++ ((pending_missing, not (is_pending s v)) ∷ rows))

-- ---- the rows of each kind

unfoldable pub change_refusals : State → Change → List RefusalRow
change_refusals s (start_sys u p) = (users_present, not (eqb (length s.users) 0)) ∷ []  -- 0101
change_refusals s (c_nu_req u note) =  -- 0201
    (users_absent, eqb (length s.users) 0) ∷ (already_registered, is_registered s u) ∷ (already_pending, is_pending s u)
    ∷ (pending_full, leb pending_limit (length s.pending)) ∷ []
change_refusals s (c_user u p v p2) = pending_rows s 0x0202 u p v ((users_full, leb user_limit (length s.users)) ∷ [])
change_refusals s (c_post u p n title) = after_login s u p ((post_number_used, is_post s n) ∷ (posts_full, leb post_limit (length s.posts)) ∷ [])  -- 0203
change_refusals s (c_friend_req u p v note) =  -- 0204
    user_rows s u p v ((request_to_self, eqb u v) ∷ (already_friends, are_friends s u v) ∷ (already_requested, has_requested s u v) ∷ [])
change_refusals s (c_friend u p v) = user_rows s u p v ((request_missing, not (has_requested s v u)) ∷ [])  -- 0205
change_refusals s (d_friend u p v) = user_rows s u p v ((friendship_missing, not (are_friends s u v)) ∷ [])  -- 0301
change_refusals s (u_user u p p2 name info) = after_login s u p []  -- 0401
change_refusals s (u_title_post u p n title) = post_rows s 0x0402 u p n
change_refusals s (u_text_post u p n text) = post_rows s 0x0403 u p n
change_refusals s (u_img_post u p n picture) = post_rows s 0x0404 u p n
change_refusals s (u_vis_post u p n visibility) = post_rows s 0x0405 u p n

unfoldable pub query_refusals : State → Query → List RefusalRow
query_refusals s (r_user u p v) = user_rows s u p v []  -- 0501
query_refusals s (r_nu_req u p v) = pending_rows s 0x0502 u p v []
query_refusals s (r_am_i_admin u p) = after_login s u p []  -- 0503
query_refusals s (r_title_post u p n) = post_rows s 0x0504 u p n
query_refusals s (r_text_post u p n) = post_rows s 0x0505 u p n
query_refusals s (r_img_post u p n) = post_rows s 0x0506 u p n
query_refusals s (r_vis_post u p n) = post_rows s 0x0507 u p n
query_refusals s (r_owner_post u p n) = post_rows s 0x0508 u p n
query_refusals s (r_friend_req_to_me u p v) = user_rows s u p v ((request_missing, not (has_requested s v u)) ∷ [])  -- 0509
query_refusals s (r_friend_req_from_me u p v) = user_rows s u p v ((request_missing, not (has_requested s u v)) ∷ [])  -- 050A
query_refusals s (l_pending_u_reqs u p) = after_login s u p (lacks_right s (right_of 0x0601) u 0)
query_refusals s (l_all_users u p) = after_login s u p []  -- 0602
query_refusals s (l_all_posts u p) = after_login s u p []  -- 0603
query_refusals s (l_friend_reqs u p) = after_login s u p []  -- 0604
query_refusals s (l_friends u p) = after_login s u p []  -- 0605
query_refusals s (l_friends_of u p v) = user_rows s u p v (lacks_right s (right_of 0x0606) u v)

-- the first that applies
unfoldable pub first_cause : List RefusalRow → Option Cause
first_cause [] = none
first_cause (c ∷ cs) = cond c.1 (some c.0) (first_cause cs)

-- the number returned, 0 where there is no cause
abbrev pub number_returned : Option Cause → ℕ
number_returned none = 0
number_returned (some cause) = cause_number cause

-- that of the first row that applies
unfoldable pub first_number : List RefusalRow → ℕ
first_number rows = number_returned (first_cause rows)
