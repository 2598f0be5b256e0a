-- `encode` meets its contract: the words of each case say it, under its kind, and no frame carries a refusal.
use mathlib.Core.Path.{refl, sym, ap, ◌∙◌}
use Rattle.reader.specs.Kinds.{kind_fields, fields_in, kinds}
use Rattle.reader.specs.Messages.{enum_content}
use Rattle.reader.specs.declared.Message.{Message}
use Rattle.writer.specs.Encoding.{encode_of}
use Rattle.writer.proofs.EnumLaws.{case_written, login_says, target_says, number_says, string_says, request_says, user_says, refusal_written}
use Rattle.writer.proofs.message.encode.Goals as goal

pub returns-in-StartSys-clause-outcome : goal.returns-in-StartSys-clause-outcome
unfolding enum_content kind_fields fields_in kinds
returns-in-StartSys-clause-outcome c = case_written _ _ _ _ c.login.ensures.outcome c.in-StartSys.is (login_says 0x0101 _ refl)

pub returns-in-CNUReq-clause-outcome : goal.returns-in-CNUReq-clause-outcome
unfolding enum_content
returns-in-CNUReq-clause-outcome c = case_written _ _ _ _ c.request.ensures.outcome c.in-CNUReq.is (request_says _ _)

pub returns-in-CUser-clause-outcome : goal.returns-in-CUser-clause-outcome
unfolding enum_content kind_fields fields_in kinds
returns-in-CUser-clause-outcome c = case_written _ _ _ _ c.number.ensures.outcome c.in-CUser.is (number_says 0x0202 _ _ _ refl)

pub returns-in-CPost-clause-outcome : goal.returns-in-CPost-clause-outcome
unfolding enum_content kind_fields fields_in kinds
returns-in-CPost-clause-outcome c = case_written _ _ _ _ c.string.ensures.outcome c.in-CPost.is (string_says 0x0203 _ _ _ refl)

pub returns-in-CFriendReq-clause-outcome : goal.returns-in-CFriendReq-clause-outcome
unfolding enum_content kind_fields fields_in kinds
returns-in-CFriendReq-clause-outcome c = case_written _ _ _ _ c.string-in-CFriendReq.ensures.outcome c.in-CFriendReq.is (string_says 0x0204 _ _ _ refl)

pub returns-in-CFriend-clause-outcome : goal.returns-in-CFriend-clause-outcome
unfolding enum_content kind_fields fields_in kinds
returns-in-CFriend-clause-outcome c = case_written _ _ _ _ c.target.ensures.outcome c.in-CFriend.is (target_says 0x0205 _ _ refl)

pub returns-in-DFriend-clause-outcome : goal.returns-in-DFriend-clause-outcome
unfolding enum_content kind_fields fields_in kinds
returns-in-DFriend-clause-outcome c = case_written _ _ _ _ c.target-in-DFriend.ensures.outcome c.in-DFriend.is (target_says 0x0301 _ _ refl)

pub returns-in-UUser-clause-outcome : goal.returns-in-UUser-clause-outcome
unfolding enum_content
returns-in-UUser-clause-outcome c = case_written _ _ _ _ c.user.ensures.outcome c.in-UUser.is (user_says _ _ _ _)

pub returns-in-UTitlePost-clause-outcome : goal.returns-in-UTitlePost-clause-outcome
unfolding enum_content kind_fields fields_in kinds
returns-in-UTitlePost-clause-outcome c = case_written _ _ _ _ c.string-in-UTitlePost.ensures.outcome c.in-UTitlePost.is (string_says 0x0402 _ _ _ refl)

pub returns-in-UTextPost-clause-outcome : goal.returns-in-UTextPost-clause-outcome
unfolding enum_content kind_fields fields_in kinds
returns-in-UTextPost-clause-outcome c = case_written _ _ _ _ c.string-in-UTextPost.ensures.outcome c.in-UTextPost.is (string_says 0x0403 _ _ _ refl)

pub returns-in-UImgPost-clause-outcome : goal.returns-in-UImgPost-clause-outcome
unfolding enum_content kind_fields fields_in kinds
returns-in-UImgPost-clause-outcome c = case_written _ _ _ _ c.number-in-UImgPost.ensures.outcome c.in-UImgPost.is (number_says 0x0404 _ _ _ refl)

pub returns-in-UVisPost-clause-outcome : goal.returns-in-UVisPost-clause-outcome
unfolding enum_content kind_fields fields_in kinds
returns-in-UVisPost-clause-outcome c = case_written _ _ _ _ c.number-in-UVisPost.ensures.outcome c.in-UVisPost.is (number_says 0x0405 _ _ _ refl)

pub returns-in-RUser-clause-outcome : goal.returns-in-RUser-clause-outcome
unfolding enum_content kind_fields fields_in kinds
returns-in-RUser-clause-outcome c = case_written _ _ _ _ c.target-in-RUser.ensures.outcome c.in-RUser.is (target_says 0x0501 _ _ refl)

pub returns-in-RNUReq-clause-outcome : goal.returns-in-RNUReq-clause-outcome
unfolding enum_content kind_fields fields_in kinds
returns-in-RNUReq-clause-outcome c = case_written _ _ _ _ c.target-in-RNUReq.ensures.outcome c.in-RNUReq.is (target_says 0x0502 _ _ refl)

pub returns-in-RAmIAdmin-clause-outcome : goal.returns-in-RAmIAdmin-clause-outcome
unfolding enum_content kind_fields fields_in kinds
returns-in-RAmIAdmin-clause-outcome c = case_written _ _ _ _ c.login-in-RAmIAdmin.ensures.outcome c.in-RAmIAdmin.is (login_says 0x0503 _ refl)

pub returns-in-RTitlePost-clause-outcome : goal.returns-in-RTitlePost-clause-outcome
unfolding enum_content kind_fields fields_in kinds
returns-in-RTitlePost-clause-outcome c = case_written _ _ _ _ c.target-in-RTitlePost.ensures.outcome c.in-RTitlePost.is (target_says 0x0504 _ _ refl)

pub returns-in-RTextPost-clause-outcome : goal.returns-in-RTextPost-clause-outcome
unfolding enum_content kind_fields fields_in kinds
returns-in-RTextPost-clause-outcome c = case_written _ _ _ _ c.target-in-RTextPost.ensures.outcome c.in-RTextPost.is (target_says 0x0505 _ _ refl)

pub returns-in-RImgPost-clause-outcome : goal.returns-in-RImgPost-clause-outcome
unfolding enum_content kind_fields fields_in kinds
returns-in-RImgPost-clause-outcome c = case_written _ _ _ _ c.target-in-RImgPost.ensures.outcome c.in-RImgPost.is (target_says 0x0506 _ _ refl)

pub returns-in-RVisPost-clause-outcome : goal.returns-in-RVisPost-clause-outcome
unfolding enum_content kind_fields fields_in kinds
returns-in-RVisPost-clause-outcome c = case_written _ _ _ _ c.target-in-RVisPost.ensures.outcome c.in-RVisPost.is (target_says 0x0507 _ _ refl)

pub returns-in-ROwnerPost-clause-outcome : goal.returns-in-ROwnerPost-clause-outcome
unfolding enum_content kind_fields fields_in kinds
returns-in-ROwnerPost-clause-outcome c = case_written _ _ _ _ c.target-in-ROwnerPost.ensures.outcome c.in-ROwnerPost.is (target_says 0x0508 _ _ refl)

pub returns-in-RFriendReqToMe-clause-outcome : goal.returns-in-RFriendReqToMe-clause-outcome
unfolding enum_content kind_fields fields_in kinds
returns-in-RFriendReqToMe-clause-outcome c = case_written _ _ _ _ c.target-in-RFriendReqToMe.ensures.outcome c.in-RFriendReqToMe.is (target_says 0x0509 _ _ refl)

pub returns-in-RFriendReqFromMe-clause-outcome : goal.returns-in-RFriendReqFromMe-clause-outcome
unfolding enum_content kind_fields fields_in kinds
returns-in-RFriendReqFromMe-clause-outcome c = case_written _ _ _ _ c.target-in-RFriendReqFromMe.ensures.outcome c.in-RFriendReqFromMe.is (target_says 0x050a _ _ refl)

pub returns-in-LPendingUReqs-clause-outcome : goal.returns-in-LPendingUReqs-clause-outcome
unfolding enum_content kind_fields fields_in kinds
returns-in-LPendingUReqs-clause-outcome c = case_written _ _ _ _ c.login-in-LPendingUReqs.ensures.outcome c.in-LPendingUReqs.is (login_says 0x0601 _ refl)

pub returns-in-LAllUsers-clause-outcome : goal.returns-in-LAllUsers-clause-outcome
unfolding enum_content kind_fields fields_in kinds
returns-in-LAllUsers-clause-outcome c = case_written _ _ _ _ c.login-in-LAllUsers.ensures.outcome c.in-LAllUsers.is (login_says 0x0602 _ refl)

pub returns-in-LAllPosts-clause-outcome : goal.returns-in-LAllPosts-clause-outcome
unfolding enum_content kind_fields fields_in kinds
returns-in-LAllPosts-clause-outcome c = case_written _ _ _ _ c.login-in-LAllPosts.ensures.outcome c.in-LAllPosts.is (login_says 0x0603 _ refl)

pub returns-in-LFriendReqs-clause-outcome : goal.returns-in-LFriendReqs-clause-outcome
unfolding enum_content kind_fields fields_in kinds
returns-in-LFriendReqs-clause-outcome c = case_written _ _ _ _ c.login-in-LFriendReqs.ensures.outcome c.in-LFriendReqs.is (login_says 0x0604 _ refl)

pub returns-in-LFriends-clause-outcome : goal.returns-in-LFriends-clause-outcome
unfolding enum_content kind_fields fields_in kinds
returns-in-LFriends-clause-outcome c = case_written _ _ _ _ c.login-in-LFriends.ensures.outcome c.in-LFriends.is (login_says 0x0605 _ refl)

pub returns-in-LFriendsOf-clause-outcome : goal.returns-in-LFriendsOf-clause-outcome
unfolding enum_content kind_fields fields_in kinds
returns-in-LFriendsOf-clause-outcome c = case_written _ _ _ _ c.target-in-LFriendsOf.ensures.outcome c.in-LFriendsOf.is (target_says 0x0606 _ _ refl)

pub returns-in-Refused-clause-outcome : goal.returns-in-Refused-clause-outcome
returns-in-Refused-clause-outcome c =
    let a = c.args in
    refusal_written a.lent.now a.frame.now c.in-Refused.field-0 ∙ ap (λ (m : Message). encode_of (enum_content a.lent.now m) a.frame.now) (sym c.in-Refused.is)
