-- The message as an action: "Every decoded message is one of these cases with its own fields", strings as bytes.
use Rattle.std.specs.Prelude.{ℕ, List, [], ◌∷◌, cond, get_or, eqb}
use Rattle.reader.specs.Fields.{FieldValue, out_of_body, value_number, value_string}
use Rattle.reader.specs.Kinds
use Rattle.reader.specs.Kinds.{ActionName, KindEntry, kinds}
use Rattle.reader.specs.Messages.{Content, message_content, refusal_number}
use Rattle.reader.specs.declared.Refusal.{Refusal}
use Rattle.reader.specs.declared.Refusal.TheVariants.{Frame, Kind, Body}

-- why a message is refused; 3 to 5 are the reader's refusals, and from 6 on there is a cause for each clause of the table of "The answer"
pub data Cause : Type 0 where
  unsound_board short_buffer : Cause
  malformed : Refusal → Cause
  users_present users_absent : Cause
  unknown_sender wrong_password : Cause
  not_admin : Cause
  user_missing post_missing request_missing friendship_missing pending_missing : Cause
  not_owner not_entitled : Cause
  already_registered already_pending post_number_used request_to_self already_friends already_requested : Cause
  pending_full users_full posts_full : Cause

-- u sends, p is the password, v another staff number, n a post number. Actions that change the board:
pub data Change : Type 0 where
  start_sys : (u p : ℕ) → Change  -- 0101
  c_nu_req : (u : ℕ) (note : List ℕ) → Change  -- 0201
  c_user : (u p v p2 : ℕ) → Change  -- 0202
  c_post : (u p n : ℕ) (title : List ℕ) → Change  -- 0203
  c_friend_req : (u p v : ℕ) (note : List ℕ) → Change  -- 0204
  c_friend : (u p v : ℕ) → Change  -- 0205
  d_friend : (u p v : ℕ) → Change  -- 0301
  u_user : (u p p2 : ℕ) (name info : List ℕ) → Change  -- 0401
  u_title_post : (u p n : ℕ) (title : List ℕ) → Change  -- 0402
  u_text_post : (u p n : ℕ) (text : List ℕ) → Change  -- 0403
  u_img_post : (u p n picture : ℕ) → Change  -- 0404
  u_vis_post : (u p n visibility : ℕ) → Change  -- 0405

-- actions that read it
pub data Query : Type 0 where
  r_user r_nu_req : (u p v : ℕ) → Query  -- 0501, 0502
  r_am_i_admin : (u p : ℕ) → Query  -- 0503
  r_title_post r_text_post r_img_post r_vis_post r_owner_post : (u p n : ℕ) → Query  -- 0504 to 0508
  r_friend_req_to_me r_friend_req_from_me : (u p v : ℕ) → Query  -- 0509, 050A
  l_pending_u_reqs l_all_users l_all_posts l_friend_reqs l_friends : (u p : ℕ) → Query  -- 0601 to 0605
  l_friends_of : (u p v : ℕ) → Query  -- 0606

-- a message that is none of these is one of the reader's refusals
pub data Action : Type 0 where
  change : Change → Action
  query : Query → Action
  refused : Refusal → Action

-- ---- from the values of a message's fields

-- the number and the string that the fields of a message have at place i
abbrev pub number_arg : List FieldValue → ℕ → ℕ
number_arg vs i = value_number (get_or vs i out_of_body)

abbrev pub string_arg : List FieldValue → ℕ → List ℕ
string_arg vs i = value_string (get_or vs i out_of_body)

unfoldable pub action_named : ActionName → List FieldValue → Action
action_named Kinds.start_sys vs = change (start_sys (number_arg vs 0) (number_arg vs 1))
action_named Kinds.c_nu_req vs = change (c_nu_req (number_arg vs 0) (string_arg vs 1))
action_named Kinds.c_user vs = change (c_user (number_arg vs 0) (number_arg vs 1) (number_arg vs 2) (number_arg vs 3))
action_named Kinds.c_post vs = change (c_post (number_arg vs 0) (number_arg vs 1) (number_arg vs 2) (string_arg vs 3))
action_named Kinds.c_friend_req vs = change (c_friend_req (number_arg vs 0) (number_arg vs 1) (number_arg vs 2) (string_arg vs 3))
action_named Kinds.c_friend vs = change (c_friend (number_arg vs 0) (number_arg vs 1) (number_arg vs 2))
action_named Kinds.d_friend vs = change (d_friend (number_arg vs 0) (number_arg vs 1) (number_arg vs 2))
action_named Kinds.u_user vs = change (u_user (number_arg vs 0) (number_arg vs 1) (number_arg vs 2) (string_arg vs 3) (string_arg vs 4))
action_named Kinds.u_title_post vs = change (u_title_post (number_arg vs 0) (number_arg vs 1) (number_arg vs 2) (string_arg vs 3))
action_named Kinds.u_text_post vs = change (u_text_post (number_arg vs 0) (number_arg vs 1) (number_arg vs 2) (string_arg vs 3))
action_named Kinds.u_img_post vs = change (u_img_post (number_arg vs 0) (number_arg vs 1) (number_arg vs 2) (number_arg vs 3))
action_named Kinds.u_vis_post vs = change (u_vis_post (number_arg vs 0) (number_arg vs 1) (number_arg vs 2) (number_arg vs 3))
action_named Kinds.r_user vs = query (r_user (number_arg vs 0) (number_arg vs 1) (number_arg vs 2))
action_named Kinds.r_nu_req vs = query (r_nu_req (number_arg vs 0) (number_arg vs 1) (number_arg vs 2))
action_named Kinds.r_am_i_admin vs = query (r_am_i_admin (number_arg vs 0) (number_arg vs 1))
action_named Kinds.r_title_post vs = query (r_title_post (number_arg vs 0) (number_arg vs 1) (number_arg vs 2))
action_named Kinds.r_text_post vs = query (r_text_post (number_arg vs 0) (number_arg vs 1) (number_arg vs 2))
action_named Kinds.r_img_post vs = query (r_img_post (number_arg vs 0) (number_arg vs 1) (number_arg vs 2))
action_named Kinds.r_vis_post vs = query (r_vis_post (number_arg vs 0) (number_arg vs 1) (number_arg vs 2))
action_named Kinds.r_owner_post vs = query (r_owner_post (number_arg vs 0) (number_arg vs 1) (number_arg vs 2))
action_named Kinds.r_friend_req_to_me vs = query (r_friend_req_to_me (number_arg vs 0) (number_arg vs 1) (number_arg vs 2))
action_named Kinds.r_friend_req_from_me vs = query (r_friend_req_from_me (number_arg vs 0) (number_arg vs 1) (number_arg vs 2))
action_named Kinds.l_pending_u_reqs vs = query (l_pending_u_reqs (number_arg vs 0) (number_arg vs 1))
action_named Kinds.l_all_users vs = query (l_all_users (number_arg vs 0) (number_arg vs 1))
action_named Kinds.l_all_posts vs = query (l_all_posts (number_arg vs 0) (number_arg vs 1))
action_named Kinds.l_friend_reqs vs = query (l_friend_reqs (number_arg vs 0) (number_arg vs 1))
action_named Kinds.l_friends vs = query (l_friends (number_arg vs 0) (number_arg vs 1))
action_named Kinds.l_friends_of vs = query (l_friends_of (number_arg vs 0) (number_arg vs 1) (number_arg vs 2))

-- the reader's code is a kind or the number of its refusal
unfoldable pub action_from : List KindEntry → Content → Action
action_from [] c = refused (cond (eqb c.code (refusal_number Frame)) Frame (cond (eqb c.code (refusal_number Kind)) Kind Body))
action_from (e ∷ es) c = cond (eqb c.code e.kind) (action_named e.action c.values) (action_from es c)

unfoldable pub action_of : List ℕ → Action
action_of msg = action_from kinds (message_content msg)
