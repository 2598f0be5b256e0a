-- Theorems about the enum `Message`:
--     names_agree        the table's names are those of the cases
--     enum_determined    the contract of `decode` leaves one message
use Prim.Native.Nat.{ℕ}
use mathlib.Core.Path.{◌≡◌, refl, sym, ap, ap₂, ◌∙◌}
use mathlib.Core.List.{List, [], ◌∷◌}
use mathlib.Core.Bool.{cond}
use mathlib.Core.Option.{Option, some, none}
use lib.ListN.{length, get_or}
use lib.Dec.{eqb}
use Rattle.layout.proofs.ByteLaws.{length-bytes_at}
use Rattle.reader.specs.Frames.{body_of}
use Rattle.reader.specs.Fields.{FieldValue, number_value, string_value, out_of_body, value_number}
use Rattle.reader.specs.Kinds.{KindEntry, ActionName, start_sys, c_nu_req, c_user, c_post, c_friend_req, c_friend, d_friend, u_user, u_title_post, u_text_post, u_img_post, u_vis_post, r_user, r_nu_req, r_am_i_admin, r_title_post, r_text_post, r_img_post, r_vis_post, r_owner_post, r_friend_req_to_me, r_friend_req_from_me, l_pending_u_reqs, l_all_users, l_all_posts, l_friend_reqs, l_friends, l_friends_of, kinds}
use Rattle.reader.specs.Messages.{Content, message_content, span_value, enum_content}
use Rattle.reader.specs.Spans.{SpanWithin, SpansWithin}
use Rattle.reader.specs.declared.Login.{Login}
use Rattle.reader.specs.declared.Span.{Span}
use Rattle.reader.specs.declared.Refusal.TheVariants.{Frame, Kind, Body}
use Rattle.reader.specs.declared.Message.{Message}
use Rattle.reader.specs.declared.Message.TheVariants.{StartSys, CNUReq, CUser, CPost, CFriendReq, CFriend, DFriend, UUser, UTitlePost, UTextPost, UImgPost, UVisPost, RUser, RNUReq, RAmIAdmin, RTitlePost, RTextPost, RImgPost, RVisPost, ROwnerPost, RFriendReqToMe, RFriendReqFromMe, LPendingUReqs, LAllUsers, LAllPosts, LFriendReqs, LFriends, LFriendsOf, Refused}
use Rattle.reader.proofs.MessageTheorems.{spans_within, span_names}

-- ---- names: the table gives the code of each case the action that the case is named for

action_in : ℕ → List KindEntry → Option ActionName
action_in k [] = none
action_in k (e ∷ es) = cond (eqb k e.kind) (some e.action) (action_in k es)

case_action : Message → Option ActionName
case_action (StartSys l) = some start_sys
case_action (CNUReq u note) = some c_nu_req
case_action (CUser l v p2) = some c_user
case_action (CPost l n title) = some c_post
case_action (CFriendReq l v note) = some c_friend_req
case_action (CFriend l v) = some c_friend
case_action (DFriend l v) = some d_friend
case_action (UUser l p2 name info) = some u_user
case_action (UTitlePost l n title) = some u_title_post
case_action (UTextPost l n text) = some u_text_post
case_action (UImgPost l n picture) = some u_img_post
case_action (UVisPost l n visibility) = some u_vis_post
case_action (RUser l v) = some r_user
case_action (RNUReq l v) = some r_nu_req
case_action (RAmIAdmin l) = some r_am_i_admin
case_action (RTitlePost l n) = some r_title_post
case_action (RTextPost l n) = some r_text_post
case_action (RImgPost l n) = some r_img_post
case_action (RVisPost l n) = some r_vis_post
case_action (ROwnerPost l n) = some r_owner_post
case_action (RFriendReqToMe l v) = some r_friend_req_to_me
case_action (RFriendReqFromMe l v) = some r_friend_req_from_me
case_action (LPendingUReqs l) = some l_pending_u_reqs
case_action (LAllUsers l) = some l_all_users
case_action (LAllPosts l) = some l_all_posts
case_action (LFriendReqs l) = some l_friend_reqs
case_action (LFriends l) = some l_friends
case_action (LFriendsOf l v) = some l_friends_of
case_action (Refused r) = none

names_agree : (body : List ℕ) (m : Message) → action_in (enum_content body m).code kinds ≡ case_action m
unfolding action_in case_action enum_content kinds
names_agree body (StartSys l) = refl
names_agree body (CNUReq u note) = refl
names_agree body (CUser l v p2) = refl
names_agree body (CPost l n title) = refl
names_agree body (CFriendReq l v note) = refl
names_agree body (CFriend l v) = refl
names_agree body (DFriend l v) = refl
names_agree body (UUser l p2 name info) = refl
names_agree body (UTitlePost l n title) = refl
names_agree body (UTextPost l n text) = refl
names_agree body (UImgPost l n picture) = refl
names_agree body (UVisPost l n visibility) = refl
names_agree body (RUser l v) = refl
names_agree body (RNUReq l v) = refl
names_agree body (RAmIAdmin l) = refl
names_agree body (RTitlePost l n) = refl
names_agree body (RTextPost l n) = refl
names_agree body (RImgPost l n) = refl
names_agree body (RVisPost l n) = refl
names_agree body (ROwnerPost l n) = refl
names_agree body (RFriendReqToMe l v) = refl
names_agree body (RFriendReqFromMe l v) = refl
names_agree body (LPendingUReqs l) = refl
names_agree body (LAllUsers l) = refl
names_agree body (LAllPosts l) = refl
names_agree body (LFriendReqs l) = refl
names_agree body (LFriends l) = refl
names_agree body (LFriendsOf l v) = refl
names_agree body (Refused Frame) = refl
names_agree body (Refused Kind) = refl
names_agree body (Refused Body) = refl

-- ---- the message of a content

value_span : FieldValue → Span
value_span (number_value n) = record { start = 0; len = 0 }
value_span (string_value place x) = record { start = place; len = length x }
value_span out_of_body = record { start = 0; len = 0 }

number_of : List FieldValue → ℕ → ℕ
number_of vs i = value_number (get_or vs i out_of_body)

span_of : List FieldValue → ℕ → Span
span_of vs i = value_span (get_or vs i out_of_body)

login_of : List FieldValue → Login
login_of vs = record { user = number_of vs 0; password = number_of vs 1 }

record Maker : Type 0 where
  code : ℕ
  make : List FieldValue → Message

abbrev maker : ℕ → (List FieldValue → Message) → Maker
maker k f = record { code = k; make = f }

makers : List Maker
makers =
    maker 3 (λ vs. Refused Frame)
    ∷ maker 4 (λ vs. Refused Kind)
    ∷ maker 5 (λ vs. Refused Body)
    ∷ maker 0x0101 (λ vs. StartSys (login_of vs))
    ∷ maker 0x0201 (λ vs. CNUReq (number_of vs 0) (span_of vs 1))
    ∷ maker 0x0202 (λ vs. CUser (login_of vs) (number_of vs 2) (number_of vs 3))
    ∷ maker 0x0203 (λ vs. CPost (login_of vs) (number_of vs 2) (span_of vs 3))
    ∷ maker 0x0204 (λ vs. CFriendReq (login_of vs) (number_of vs 2) (span_of vs 3))
    ∷ maker 0x0205 (λ vs. CFriend (login_of vs) (number_of vs 2))
    ∷ maker 0x0301 (λ vs. DFriend (login_of vs) (number_of vs 2))
    ∷ maker 0x0401 (λ vs. UUser (login_of vs) (number_of vs 2) (span_of vs 3) (span_of vs 4))
    ∷ maker 0x0402 (λ vs. UTitlePost (login_of vs) (number_of vs 2) (span_of vs 3))
    ∷ maker 0x0403 (λ vs. UTextPost (login_of vs) (number_of vs 2) (span_of vs 3))
    ∷ maker 0x0404 (λ vs. UImgPost (login_of vs) (number_of vs 2) (number_of vs 3))
    ∷ maker 0x0405 (λ vs. UVisPost (login_of vs) (number_of vs 2) (number_of vs 3))
    ∷ maker 0x0501 (λ vs. RUser (login_of vs) (number_of vs 2))
    ∷ maker 0x0502 (λ vs. RNUReq (login_of vs) (number_of vs 2))
    ∷ maker 0x0503 (λ vs. RAmIAdmin (login_of vs))
    ∷ maker 0x0504 (λ vs. RTitlePost (login_of vs) (number_of vs 2))
    ∷ maker 0x0505 (λ vs. RTextPost (login_of vs) (number_of vs 2))
    ∷ maker 0x0506 (λ vs. RImgPost (login_of vs) (number_of vs 2))
    ∷ maker 0x0507 (λ vs. RVisPost (login_of vs) (number_of vs 2))
    ∷ maker 0x0508 (λ vs. ROwnerPost (login_of vs) (number_of vs 2))
    ∷ maker 0x0509 (λ vs. RFriendReqToMe (login_of vs) (number_of vs 2))
    ∷ maker 0x050a (λ vs. RFriendReqFromMe (login_of vs) (number_of vs 2))
    ∷ maker 0x0601 (λ vs. LPendingUReqs (login_of vs))
    ∷ maker 0x0602 (λ vs. LAllUsers (login_of vs))
    ∷ maker 0x0603 (λ vs. LAllPosts (login_of vs))
    ∷ maker 0x0604 (λ vs. LFriendReqs (login_of vs))
    ∷ maker 0x0605 (λ vs. LFriends (login_of vs))
    ∷ maker 0x0606 (λ vs. LFriendsOf (login_of vs) (number_of vs 2))
    ∷ []

make_by : List Maker → ℕ → List FieldValue → Message
make_by [] k vs = Refused Kind
make_by (m ∷ ms) k vs = cond (eqb k m.code) (m.make vs) (make_by ms k vs)

message_of : Content → Message
message_of c = make_by makers c.code c.values

span_again : (body : List ℕ) (limit : ℕ) (s : Span) → SpanWithin body limit s → value_span (span_value body s) ≡ s
unfolding value_span
span_again body limit s w =
    let e = length-bytes_at body s.start s.len w.inside in
    ap value_span (span_names body limit s w) ∙ λ i. record { start = s.start; len = e i }

enum_again : (body : List ℕ) (m : Message) → SpansWithin body m → message_of (enum_content body m) ≡ m
unfolding message_of make_by makers login_of span_of number_of value_number enum_content
enum_again body (StartSys l) w = refl
enum_again body (CNUReq u note) w = ap (CNUReq u) (span_again body _ note w)
enum_again body (CUser l v p2) w = refl
enum_again body (CPost l n title) w = ap (CPost l n) (span_again body _ title w)
enum_again body (CFriendReq l v note) w = ap (CFriendReq l v) (span_again body _ note w)
enum_again body (CFriend l v) w = refl
enum_again body (DFriend l v) w = refl
enum_again body (UUser l p2 name info) w = ap₂ (UUser l p2) (span_again body _ name w.0) (span_again body _ info w.1)
enum_again body (UTitlePost l n title) w = ap (UTitlePost l n) (span_again body _ title w)
enum_again body (UTextPost l n text) w = ap (UTextPost l n) (span_again body _ text w)
enum_again body (UImgPost l n picture) w = refl
enum_again body (UVisPost l n visibility) w = refl
enum_again body (RUser l v) w = refl
enum_again body (RNUReq l v) w = refl
enum_again body (RAmIAdmin l) w = refl
enum_again body (RTitlePost l n) w = refl
enum_again body (RTextPost l n) w = refl
enum_again body (RImgPost l n) w = refl
enum_again body (RVisPost l n) w = refl
enum_again body (ROwnerPost l n) w = refl
enum_again body (RFriendReqToMe l v) w = refl
enum_again body (RFriendReqFromMe l v) w = refl
enum_again body (LPendingUReqs l) w = refl
enum_again body (LAllUsers l) w = refl
enum_again body (LAllPosts l) w = refl
enum_again body (LFriendReqs l) w = refl
enum_again body (LFriends l) w = refl
enum_again body (LFriendsOf l v) w = refl
enum_again body (Refused Frame) w = refl
enum_again body (Refused Kind) w = refl
enum_again body (Refused Body) w = refl

-- ---- two messages that meet the contract of `decode` are one

pub enum_determined : (msg : List ℕ) (m n : Message) → enum_content (body_of msg) m ≡ message_content msg → enum_content (body_of msg) n ≡ message_content msg → m ≡ n
enum_determined msg m n e f =
    sym (enum_again (body_of msg) m (spans_within msg m e)) ∙ ap message_of (e ∙ sym f) ∙ enum_again (body_of msg) n (spans_within msg n f)
