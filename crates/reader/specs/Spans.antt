-- Where the strings of a message stand.
use Rattle.std.specs.Prelude.{ℕ, ◌+◌, ◌≤◌, List, length}
use Rattle.reader.specs.Fields.{name_limit, info_limit, title_limit, text_limit, note_limit}
use Rattle.reader.specs.declared.Span.{Span}
use Rattle.reader.specs.declared.Message.{Message}
use Rattle.reader.specs.declared.Message.TheVariants.{StartSys, CNUReq, CUser, CPost, CFriendReq, CFriend, DFriend, UUser, UTitlePost, UTextPost, UImgPost, UVisPost, RUser, RNUReq, RAmIAdmin, RTitlePost, RTextPost, RImgPost, RVisPost, ROwnerPost, RFriendReqToMe, RFriendReqFromMe, LPendingUReqs, LAllUsers, LAllPosts, LFriendReqs, LFriends, LFriendsOf, Refused}

-- a span lies within the body, and its length within the limit
pub record SpanWithin (body : List ℕ) (limit : ℕ) (s : Span) : Type 0 where
  pub inside : s.start + s.len ≤ length body
  pub short : s.len ≤ limit

-- so do the spans of a message, with the limits of its kind
abbrev pub SpansWithin : List ℕ → Message → Type 0
SpansWithin body (StartSys l) = Unit
SpansWithin body (CNUReq u note) = SpanWithin body note_limit note
SpansWithin body (CUser l v p2) = Unit
SpansWithin body (CPost l n title) = SpanWithin body title_limit title
SpansWithin body (CFriendReq l v note) = SpanWithin body note_limit note
SpansWithin body (CFriend l v) = Unit
SpansWithin body (DFriend l v) = Unit
SpansWithin body (UUser l p2 name info) = SpanWithin body name_limit name × SpanWithin body info_limit info
SpansWithin body (UTitlePost l n title) = SpanWithin body title_limit title
SpansWithin body (UTextPost l n text) = SpanWithin body text_limit text
SpansWithin body (UImgPost l n picture) = Unit
SpansWithin body (UVisPost l n visibility) = Unit
SpansWithin body (RUser l v) = Unit
SpansWithin body (RNUReq l v) = Unit
SpansWithin body (RAmIAdmin l) = Unit
SpansWithin body (RTitlePost l n) = Unit
SpansWithin body (RTextPost l n) = Unit
SpansWithin body (RImgPost l n) = Unit
SpansWithin body (RVisPost l n) = Unit
SpansWithin body (ROwnerPost l n) = Unit
SpansWithin body (RFriendReqToMe l v) = Unit
SpansWithin body (RFriendReqFromMe l v) = Unit
SpansWithin body (LPendingUReqs l) = Unit
SpansWithin body (LAllUsers l) = Unit
SpansWithin body (LAllPosts l) = Unit
SpansWithin body (LFriendReqs l) = Unit
SpansWithin body (LFriends l) = Unit
SpansWithin body (LFriendsOf l v) = Unit
SpansWithin body (Refused r) = Unit
