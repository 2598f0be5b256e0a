-- The action that a case of the reader's enum is, with the body that its strings lie in; and that a message which meets the contract of
-- `decode` is that action (`enum_action_lem`).
use Prim.Native.Nat.{ℕ}
use mathlib.Core.Path.{◌≡◌, refl, sym, ap, ap₂, ◌∙◌}
use mathlib.Core.List.{List}
use Rattle.layout.specs.Bytes.{bytes_at}
use Rattle.reader.specs.Frames.{body_of}
use Rattle.reader.specs.Fields.{name_limit, info_limit, title_limit, text_limit, note_limit, value_string, value_number}
use Rattle.reader.specs.Kinds.{kinds}
use Rattle.reader.specs.Messages.{message_content, span_value, enum_content}
use Rattle.reader.specs.Spans.{SpanWithin}
use Rattle.reader.specs.declared.Span.{Span}
use Rattle.reader.specs.declared.Refusal.{Refusal}
use Rattle.reader.specs.declared.Refusal.TheVariants.{Frame, Kind, Body}
use Rattle.reader.specs.declared.Message.{Message}
use Rattle.reader.specs.declared.Message.TheVariants.{StartSys, CNUReq, CUser, CPost, CFriendReq, CFriend, DFriend, UUser, UTitlePost, UTextPost, UImgPost, UVisPost, RUser, RNUReq, RAmIAdmin, RTitlePost, RTextPost, RImgPost, RVisPost, ROwnerPost, RFriendReqToMe, RFriendReqFromMe, LPendingUReqs, LAllUsers, LAllPosts, LFriendReqs, LFriends, LFriendsOf, Refused}
use Rattle.reader.proofs.MessageTheorems.{span_names, spans_within}
use Rattle.model.specs.Actions.{start_sys, c_nu_req, c_user, c_post, c_friend_req, c_friend, d_friend, u_user, u_title_post, u_text_post, u_img_post, u_vis_post}
use Rattle.model.specs.Actions.{r_user, r_nu_req, r_am_i_admin, r_title_post, r_text_post, r_img_post, r_vis_post, r_owner_post, r_friend_req_to_me, r_friend_req_from_me, l_pending_u_reqs, l_all_users, l_all_posts, l_friend_reqs, l_friends, l_friends_of}
use Rattle.model.specs.Actions.{Action, change, query, refused, action_named, action_from, action_of}

-- the bytes that a span names
abbrev pub span_bytes : List ℕ → Span → List ℕ
span_bytes body s = bytes_at body s.start s.len

unfoldable pub enum_action : List ℕ → Message → Action
enum_action body (StartSys l) = change (start_sys l.user l.password)
enum_action body (CNUReq u note) = change (c_nu_req u (span_bytes body note))
enum_action body (CUser l v p2) = change (c_user l.user l.password v p2)
enum_action body (CPost l n title) = change (c_post l.user l.password n (span_bytes body title))
enum_action body (CFriendReq l v note) = change (c_friend_req l.user l.password v (span_bytes body note))
enum_action body (CFriend l v) = change (c_friend l.user l.password v)
enum_action body (DFriend l v) = change (d_friend l.user l.password v)
enum_action body (UUser l p2 name info) = change (u_user l.user l.password p2 (span_bytes body name) (span_bytes body info))
enum_action body (UTitlePost l n title) = change (u_title_post l.user l.password n (span_bytes body title))
enum_action body (UTextPost l n text) = change (u_text_post l.user l.password n (span_bytes body text))
enum_action body (UImgPost l n picture) = change (u_img_post l.user l.password n picture)
enum_action body (UVisPost l n visibility) = change (u_vis_post l.user l.password n visibility)
enum_action body (RUser l v) = query (r_user l.user l.password v)
enum_action body (RNUReq l v) = query (r_nu_req l.user l.password v)
enum_action body (RAmIAdmin l) = query (r_am_i_admin l.user l.password)
enum_action body (RTitlePost l n) = query (r_title_post l.user l.password n)
enum_action body (RTextPost l n) = query (r_text_post l.user l.password n)
enum_action body (RImgPost l n) = query (r_img_post l.user l.password n)
enum_action body (RVisPost l n) = query (r_vis_post l.user l.password n)
enum_action body (ROwnerPost l n) = query (r_owner_post l.user l.password n)
enum_action body (RFriendReqToMe l v) = query (r_friend_req_to_me l.user l.password v)
enum_action body (RFriendReqFromMe l v) = query (r_friend_req_from_me l.user l.password v)
enum_action body (LPendingUReqs l) = query (l_pending_u_reqs l.user l.password)
enum_action body (LAllUsers l) = query (l_all_users l.user l.password)
enum_action body (LAllPosts l) = query (l_all_posts l.user l.password)
enum_action body (LFriendReqs l) = query (l_friend_reqs l.user l.password)
enum_action body (LFriends l) = query (l_friends l.user l.password)
enum_action body (LFriendsOf l v) = query (l_friends_of l.user l.password v)
enum_action body (Refused r) = refused r

span-string : (body : List ℕ) (limit : ℕ) (t : Span) → SpanWithin body limit t → value_string (span_value body t) ≡ span_bytes body t
unfolding value_string
span-string body limit t w = ap value_string (span_names body limit t w)

refusal-action : (r : Refusal) (body : List ℕ) → action_from kinds (enum_content body (Refused r)) ≡ refused r
unfolding action_from kinds enum_content
refusal-action Frame body = refl
refusal-action Kind body = refl
refusal-action Body body = refl

-- what the kinds' table makes of a case; the strings lie within the body
case_action_lem : (msg : List ℕ) (m : Message) → enum_content (body_of msg) m ≡ message_content msg
    → action_from kinds (enum_content (body_of msg) m) ≡ enum_action (body_of msg) m
unfolding enum_action action_from action_named kinds enum_content value_number
case_action_lem msg (StartSys l) e = refl
case_action_lem msg (CNUReq u note) e =
    ap (λ (x : List ℕ). change (c_nu_req u x)) (span-string (body_of msg) note_limit note (spans_within msg (CNUReq u note) e))
case_action_lem msg (CUser l v p2) e = refl
case_action_lem msg (CPost l n title) e =
    ap (λ (x : List ℕ). change (c_post l.user l.password n x)) (span-string (body_of msg) title_limit title (spans_within msg (CPost l n title) e))
case_action_lem msg (CFriendReq l v note) e =
    ap (λ (x : List ℕ). change (c_friend_req l.user l.password v x))
    (span-string (body_of msg) note_limit note (spans_within msg (CFriendReq l v note) e))
case_action_lem msg (CFriend l v) e = refl
case_action_lem msg (DFriend l v) e = refl
case_action_lem msg (UUser l p2 name info) e =
    let w = spans_within msg (UUser l p2 name info) e in
    ap₂ (λ (x y : List ℕ). change (u_user l.user l.password p2 x y)) (span-string (body_of msg) name_limit name w.0)
    (span-string (body_of msg) info_limit info w.1)
case_action_lem msg (UTitlePost l n title) e =
    ap (λ (x : List ℕ). change (u_title_post l.user l.password n x))
    (span-string (body_of msg) title_limit title (spans_within msg (UTitlePost l n title) e))
case_action_lem msg (UTextPost l n text) e =
    ap (λ (x : List ℕ). change (u_text_post l.user l.password n x))
    (span-string (body_of msg) text_limit text (spans_within msg (UTextPost l n text) e))
case_action_lem msg (UImgPost l n picture) e = refl
case_action_lem msg (UVisPost l n visibility) e = refl
case_action_lem msg (RUser l v) e = refl
case_action_lem msg (RNUReq l v) e = refl
case_action_lem msg (RAmIAdmin l) e = refl
case_action_lem msg (RTitlePost l n) e = refl
case_action_lem msg (RTextPost l n) e = refl
case_action_lem msg (RImgPost l n) e = refl
case_action_lem msg (RVisPost l n) e = refl
case_action_lem msg (ROwnerPost l n) e = refl
case_action_lem msg (RFriendReqToMe l v) e = refl
case_action_lem msg (RFriendReqFromMe l v) e = refl
case_action_lem msg (LPendingUReqs l) e = refl
case_action_lem msg (LAllUsers l) e = refl
case_action_lem msg (LAllPosts l) e = refl
case_action_lem msg (LFriendReqs l) e = refl
case_action_lem msg (LFriends l) e = refl
case_action_lem msg (LFriendsOf l v) e = refl
case_action_lem msg (Refused r) e = refusal-action r (body_of msg)

-- whatever message meets the contract of `decode`
pub enum_action_lem : (msg : List ℕ) (m : Message) → enum_content (body_of msg) m ≡ message_content msg → action_of msg ≡ enum_action (body_of msg) m
unfolding action_of
enum_action_lem msg m e = ap (action_from kinds) (sym e) ∙ case_action_lem msg m e
