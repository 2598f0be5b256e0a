-- `act` meets its contract: each case of the message is an action (`enum_action_lem`), and its function gives that action's result. Strings are
-- parts of the body, within their limits.
use Prim.Native.Nat.{ℕ}
use mathlib.Core.Path.{◌≡◌, refl, ap, ap₂}
use mathlib.Core.List.{List}
use Rattle.layout.specs.Bytes.{bytes_at}
use Rattle.reader.specs.Frames.{body_of}
use Rattle.reader.specs.declared.Span.{Span}
use Rattle.reader.specs.declared.Message.{Message}
use Rattle.model.specs.Actions.{change, c_nu_req, c_post, c_friend_req, u_user, u_title_post, u_text_post}
use Rattle.model.proofs.EnumActions.{enum_action}
use Rattle.step.proofs.ActionLaws.{Decoded, decoded, change-done, query-done, refusal-acted, done-acted, refused-acted, spans_of, span-inside, span-part, span-short, visibility-fits}
use Rattle.step.proofs.act.Goals as goal
use Rattle.model.specs.Actions.{action_of}
use Rattle.step.specs.ActionResults.{performed, action_result}
use Rattle.step.proofs.act.Goals.{After-body-body, After-branch-done}
use Rattle.step.proofs.act.Goals.{in-StartSys, in-CNUReq, in-CUser, in-CPost, in-CFriendReq, in-CFriend, in-DFriend, in-UUser, in-UTitlePost, in-UTextPost, in-UImgPost, in-UVisPost, in-RUser, in-RNUReq, in-RAmIAdmin, in-RTitlePost, in-RTextPost, in-RImgPost, in-RVisPost, in-ROwnerPost, in-RFriendReqToMe, in-RFriendReqFromMe, in-LPendingUReqs, in-LAllUsers, in-LAllPosts, in-LFriendReqs, in-LFriends, in-LFriendsOf}

abbrev message_at : After-body-body → List ℕ
message_at d = d.args.msg.now

abbrev board_at : After-body-body → List ℕ
board_at d = d.args.board.now

abbrev buffer_at : After-body-body → List ℕ
buffer_at d = d.args.out.now

-- the case that the message is
case-of : (d : After-body-body) {m : Message} → d.decode-message.result ≡ m → Decoded (message_at d) m
case-of d e = decoded d.decode-message.ensures e

-- a part of the body is a part of the message's body
part_of : (d : After-body-body) (span : Span) {x : List ℕ} → x ≡ bytes_at d.body-body.result.now span.start span.len
    → bytes_at (body_of (message_at d)) span.start span.len ≡ x
part_of d span e = span-part span e d.body-body.ensures

-- ---- strings
pub span_bytes-requires : goal.span_bytes-requires
span_bytes-requires c =
    span-inside (spans_of (case-of (goal.at.span_bytes-requires c).After-body-body c.in-CNUReq.is)) c.body-body.ensures

pub request_registration-requires : goal.request_registration-requires
request_registration-requires c = (
  c.requires.0,
  span-short (spans_of (case-of (goal.at.request_registration-requires c).After-body-body c.in-CNUReq.is)) (part_of (goal.at.request_registration-requires c).After-body-body c.in-CNUReq.note c.span_bytes.ensures),
)

pub span_bytes-requires-in-CPost : goal.span_bytes-requires-in-CPost
span_bytes-requires-in-CPost c =
    span-inside (spans_of (case-of (goal.at.span_bytes-requires-in-CPost c).After-body-body c.in-CPost.is)) c.body-body.ensures

pub create_post-requires : goal.create_post-requires
create_post-requires c = (
  c.requires.0,
  span-short (spans_of (case-of (goal.at.create_post-requires c).After-body-body c.in-CPost.is)) (part_of (goal.at.create_post-requires c).After-body-body c.in-CPost.title c.span_bytes-in-CPost.ensures),
)

pub span_bytes-requires-in-CFriendReq : goal.span_bytes-requires-in-CFriendReq
span_bytes-requires-in-CFriendReq c =
    span-inside (spans_of (case-of (goal.at.span_bytes-requires-in-CFriendReq c).After-body-body c.in-CFriendReq.is)) c.body-body.ensures

pub request_friend-requires : goal.request_friend-requires
request_friend-requires c = (
  c.requires.0,
  span-short (spans_of (case-of (goal.at.request_friend-requires c).After-body-body c.in-CFriendReq.is)) (part_of (goal.at.request_friend-requires c).After-body-body c.in-CFriendReq.note c.span_bytes-in-CFriendReq.ensures),
)

pub span_bytes-requires-in-UUser : goal.span_bytes-requires-in-UUser
span_bytes-requires-in-UUser c =
    span-inside (spans_of (case-of (goal.at.span_bytes-requires-in-UUser c).After-body-body c.in-UUser.is)).0 c.body-body.ensures

pub span_bytes-requires-in-UUser-2 : goal.span_bytes-requires-in-UUser-2
span_bytes-requires-in-UUser-2 c =
    span-inside (spans_of (case-of (goal.at.span_bytes-requires-in-UUser-2 c).After-body-body c.in-UUser.is)).1 c.body-body.ensures

pub update_user-requires : goal.update_user-requires
update_user-requires c =
    let w = spans_of (case-of (goal.at.update_user-requires c).After-body-body c.in-UUser.is) in (
      c.requires.0,
      span-short w.0 (part_of (goal.at.update_user-requires c).After-body-body c.in-UUser.name c.span_bytes-in-UUser.ensures),
      span-short w.1 (part_of (goal.at.update_user-requires c).After-body-body c.in-UUser.info c.span_bytes-in-UUser-2.ensures),
    )

pub span_bytes-requires-in-UTitlePost : goal.span_bytes-requires-in-UTitlePost
span_bytes-requires-in-UTitlePost c =
    span-inside (spans_of (case-of (goal.at.span_bytes-requires-in-UTitlePost c).After-body-body c.in-UTitlePost.is)) c.body-body.ensures

pub update_title-requires : goal.update_title-requires
update_title-requires c = (
  c.requires.0,
  span-short (spans_of (case-of (goal.at.update_title-requires c).After-body-body c.in-UTitlePost.is)) (part_of (goal.at.update_title-requires c).After-body-body c.in-UTitlePost.title c.span_bytes-in-UTitlePost.ensures),
)

pub span_bytes-requires-in-UTextPost : goal.span_bytes-requires-in-UTextPost
span_bytes-requires-in-UTextPost c =
    span-inside (spans_of (case-of (goal.at.span_bytes-requires-in-UTextPost c).After-body-body c.in-UTextPost.is)) c.body-body.ensures

pub update_text-requires : goal.update_text-requires
update_text-requires c = (
  c.requires.0,
  span-short (spans_of (case-of (goal.at.update_text-requires c).After-body-body c.in-UTextPost.is)) (part_of (goal.at.update_text-requires c).After-body-body c.in-UTextPost.text c.span_bytes-in-UTextPost.ensures),
)

pub update_visibility-requires : goal.update_visibility-requires
update_visibility-requires c =
    (c.requires.0, visibility-fits (case-of (goal.at.update_visibility-requires c).After-body-body c.in-UVisPost.is))

abbrev start : After-branch-done → After-body-body
start c = (goal.at.After-branch-done c).After-body-body

-- ---- what the function of the message's action has returned and left
performs : (c : After-branch-done)
    → performed c.match-message.done c.match-message.board c.match-message.out ≡ action_result (board_at (start c)) (action_of (message_at (start c))) (buffer_at (start c))
unfolding enum_action
performs c =
    let d = start c in
    elim c.match-message.branch [
      | in-StartSys w ↦
          change-done (board_at d) (buffer_at d) (case-of d w.in-StartSys.is) w.done-is _ refl w.start_system.ensures w.without_body-done.ensures w.board-is w.out-is
      | in-CNUReq w ↦
          change-done (board_at d) (buffer_at d) (case-of d w.in-CNUReq.is) w.done-is _
          (ap (λ (x : List ℕ). change (c_nu_req w.in-CNUReq.u x)) (part_of d w.in-CNUReq.note w.span_bytes.ensures)) w.request_registration.ensures w.without_body-done-in-CNUReq.ensures w.board-is w.out-is
      | in-CUser w ↦
          change-done (board_at d) (buffer_at d) (case-of d w.in-CUser.is) w.done-is _ refl w.register_user.ensures w.without_body-done-in-CUser.ensures w.board-is w.out-is
      | in-CPost w ↦
          change-done (board_at d) (buffer_at d) (case-of d w.in-CPost.is) w.done-is _
          (ap (λ (x : List ℕ). change (c_post w.in-CPost.login.user w.in-CPost.login.password w.in-CPost.n x)) (part_of d w.in-CPost.title w.span_bytes-in-CPost.ensures)) w.create_post.ensures w.without_body-done-in-CPost.ensures w.board-is w.out-is
      | in-CFriendReq w ↦
          change-done (board_at d) (buffer_at d) (case-of d w.in-CFriendReq.is) w.done-is _
          (ap (λ (x : List ℕ). change (c_friend_req w.in-CFriendReq.login.user w.in-CFriendReq.login.password w.in-CFriendReq.v x)) (part_of d w.in-CFriendReq.note w.span_bytes-in-CFriendReq.ensures)) w.request_friend.ensures w.without_body-done-in-CFriendReq.ensures w.board-is w.out-is
      | in-CFriend w ↦
          change-done (board_at d) (buffer_at d) (case-of d w.in-CFriend.is) w.done-is _ refl w.accept_request.ensures w.without_body-done-in-CFriend.ensures w.board-is w.out-is
      | in-DFriend w ↦
          change-done (board_at d) (buffer_at d) (case-of d w.in-DFriend.is) w.done-is _ refl w.end_friendship.ensures w.without_body-done-in-DFriend.ensures w.board-is w.out-is
      | in-UUser w ↦
          change-done (board_at d) (buffer_at d) (case-of d w.in-UUser.is) w.done-is _
          (ap₂ (λ (x y : List ℕ). change (u_user w.in-UUser.login.user w.in-UUser.login.password w.in-UUser.password x y))
          (part_of d w.in-UUser.name w.span_bytes-in-UUser.ensures) (part_of d w.in-UUser.info w.span_bytes-in-UUser-2.ensures)) w.update_user.ensures w.without_body-done-in-UUser.ensures w.board-is w.out-is
      | in-UTitlePost w ↦
          change-done (board_at d) (buffer_at d) (case-of d w.in-UTitlePost.is) w.done-is _
          (ap (λ (x : List ℕ). change (u_title_post w.in-UTitlePost.login.user w.in-UTitlePost.login.password w.in-UTitlePost.n x)) (part_of d w.in-UTitlePost.title w.span_bytes-in-UTitlePost.ensures)) w.update_title.ensures w.without_body-done-in-UTitlePost.ensures w.board-is w.out-is
      | in-UTextPost w ↦
          change-done (board_at d) (buffer_at d) (case-of d w.in-UTextPost.is) w.done-is _
          (ap (λ (x : List ℕ). change (u_text_post w.in-UTextPost.login.user w.in-UTextPost.login.password w.in-UTextPost.n x)) (part_of d w.in-UTextPost.text w.span_bytes-in-UTextPost.ensures)) w.update_text.ensures w.without_body-done-in-UTextPost.ensures w.board-is w.out-is
      | in-UImgPost w ↦
          change-done (board_at d) (buffer_at d) (case-of d w.in-UImgPost.is) w.done-is _ refl w.update_picture.ensures w.without_body-done-in-UImgPost.ensures w.board-is w.out-is
      | in-UVisPost w ↦
          change-done (board_at d) (buffer_at d) (case-of d w.in-UVisPost.is) w.done-is _ refl w.update_visibility.ensures w.without_body-done-in-UVisPost.ensures w.board-is w.out-is
      | in-RUser w ↦ query-done (board_at d) (buffer_at d) (case-of d w.in-RUser.is) w.done-is refl w.read_user-done.ensures w.board-is w.out-is
      | in-RNUReq w ↦ query-done (board_at d) (buffer_at d) (case-of d w.in-RNUReq.is) w.done-is refl w.read_pending-done.ensures w.board-is w.out-is
      | in-RAmIAdmin w ↦ query-done (board_at d) (buffer_at d) (case-of d w.in-RAmIAdmin.is) w.done-is refl w.read_admin-done.ensures w.board-is w.out-is
      | in-RTitlePost w ↦ query-done (board_at d) (buffer_at d) (case-of d w.in-RTitlePost.is) w.done-is refl w.read_title-done.ensures w.board-is w.out-is
      | in-RTextPost w ↦ query-done (board_at d) (buffer_at d) (case-of d w.in-RTextPost.is) w.done-is refl w.read_text-done.ensures w.board-is w.out-is
      | in-RImgPost w ↦ query-done (board_at d) (buffer_at d) (case-of d w.in-RImgPost.is) w.done-is refl w.read_picture-done.ensures w.board-is w.out-is
      | in-RVisPost w ↦ query-done (board_at d) (buffer_at d) (case-of d w.in-RVisPost.is) w.done-is refl w.read_visibility-done.ensures w.board-is w.out-is
      | in-ROwnerPost w ↦ query-done (board_at d) (buffer_at d) (case-of d w.in-ROwnerPost.is) w.done-is refl w.read_owner-done.ensures w.board-is w.out-is
      | in-RFriendReqToMe w ↦ query-done (board_at d) (buffer_at d) (case-of d w.in-RFriendReqToMe.is) w.done-is refl w.read_request_to-done.ensures w.board-is w.out-is
      | in-RFriendReqFromMe w ↦ query-done (board_at d) (buffer_at d) (case-of d w.in-RFriendReqFromMe.is) w.done-is refl w.read_request_from-done.ensures w.board-is w.out-is
      | in-LPendingUReqs w ↦ query-done (board_at d) (buffer_at d) (case-of d w.in-LPendingUReqs.is) w.done-is refl w.list_pending-done.ensures w.board-is w.out-is
      | in-LAllUsers w ↦ query-done (board_at d) (buffer_at d) (case-of d w.in-LAllUsers.is) w.done-is refl w.list_users-done.ensures w.board-is w.out-is
      | in-LAllPosts w ↦ query-done (board_at d) (buffer_at d) (case-of d w.in-LAllPosts.is) w.done-is refl w.list_posts-done.ensures w.board-is w.out-is
      | in-LFriendReqs w ↦ query-done (board_at d) (buffer_at d) (case-of d w.in-LFriendReqs.is) w.done-is refl w.list_requests-done.ensures w.board-is w.out-is
      | in-LFriends w ↦ query-done (board_at d) (buffer_at d) (case-of d w.in-LFriends.is) w.done-is refl w.list_friends-done.ensures w.board-is w.out-is
      | in-LFriendsOf w ↦ query-done (board_at d) (buffer_at d) (case-of d w.in-LFriendsOf.is) w.done-is refl w.list_friends_of-done.ensures w.board-is w.out-is
    ]

pub returns-in_err-done : goal.returns-in_err-done
returns-in_err-done c =
    refused-acted (performs (goal.at.returns-in_err-done c).After-branch-done) _ _ c.from_residual.ensures.1 c.in_err-done.was

pub returns : goal.returns
returns c = done-acted (performs (goal.at.returns c).After-branch-done) c.in_ok-done.was

-- ---- refusals of the reader
pub returns-in-Refused : goal.returns-in-Refused
unfolding enum_action
returns-in-Refused c =
    let d = (goal.at.returns-in-Refused c).After-body-body in
    refusal-acted (board_at d) (buffer_at d) (case-of d c.in-Refused.is) refl c.from.ensures
