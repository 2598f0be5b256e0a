-- Accountability (the CoSMed paper, section 5.2): friendship and publicity cannot be forged. Each can be traced back to accepted messages
-- of those who may bring it about; the latest message of a history comes first.
use Rattle.std.specs.Prelude.{ℕ, ◌≡◌, ◌⊎◌, Bool, true, not, ◌&&◌, eqb}
use mathlib.Core.List.{List, [], ◌∷◌, ◌++◌, foldl}
use Rattle.reader.specs.Messages.{Content}
use Rattle.model.specs.Lists.{for_all}
use Rattle.model.specs.State.{State}
use Rattle.model.specs.Board.{decode, empty_board}
use Rattle.model.specs.Lookups.{is_post, post_numbered, are_friends, owner_of}
use Rattle.model.specs.Replay.{ReplayResult, replay_of}
use Rattle.confidentiality.specs.Traces.{Trace, replay_trace}
use Rattle.confidentiality.specs.History.{History, after_event, is_kind, user_field, target_field, visibility_field, is_about, is_between}

-- a message of a kind that u sends about v
unfoldable pub is_from_to : ℕ → ℕ → ℕ → Content → Bool
is_from_to k u v m = is_kind k m && (eqb (user_field m) u && eqb (target_field m) v)

-- one of the two requested the friendship, later the other accepted this request, with no 0205 between the two in the meantime, and neither has
-- ended it since
pub record FriendshipTraced (a b : ℕ) (h : History) : Type 0 where
  pub requester : ℕ
  pub accepter : ℕ
  pub since : History
  pub acceptance : Content
  pub meanwhile : History
  pub request : Content
  pub before : History
  pub splits : h ≡ since ++ (acceptance ∷ (meanwhile ++ (request ∷ before)))
  pub these_two : ((requester ≡ a) × (accepter ≡ b)) ⊎ ((requester ≡ b) × (accepter ≡ a))
  pub is_request : is_from_to 0x0204 requester accepter request ≡ true
  pub is_acceptance : is_from_to 0x0205 accepter requester acceptance ≡ true
  pub unanswered : for_all (λ (m : Content). not (is_between 0x0205 accepter requester m)) meanwhile ≡ true
  pub not_ended : for_all (λ (m : Content). not (is_between 0x0301 a b m)) since ≡ true

-- post n was made by u, whose later 0405 made it public, and there is no 0405 of it since
pub record VisibilityTraced (n u : ℕ) (h : History) : Type 0 where
  pub since : History
  pub publication : Content
  pub meanwhile : History
  pub creation : Content
  pub before : History
  pub splits : h ≡ since ++ (publication ∷ (meanwhile ++ (creation ∷ before)))
  pub is_creation : is_about 0x0203 n creation ≡ true
  pub created_by : user_field creation ≡ u
  pub is_publication : is_about 0x0405 n publication ≡ true
  pub published_by : user_field publication ≡ u
  pub made_public : visibility_field publication ≡ 1
  pub none_since : for_all (λ (m : Content). not (is_about 0x0405 n m)) since ≡ true

-- ---- of the board that a replay leaves, wherever it stopped, and the messages that it did

unfoldable pub history_of : Trace → History
history_of t = foldl after_event [] t.events

unfoldable pub FriendshipAccountable : Type 0
FriendshipAccountable =
    (j o : List ℕ) (a b : ℕ) → let r : ReplayResult = replay_of j empty_board o in
    are_friends (decode r.board) a b ≡ true → FriendshipTraced a b (history_of (replay_trace j r))

unfoldable pub VisibilityAccountable : Type 0
VisibilityAccountable =
    (j o : List ℕ) (n : ℕ) → let r : ReplayResult = replay_of j empty_board o in let s : State = decode r.board in
    is_post s n ≡ true → (post_numbered s n).visibility ≡ 1 → VisibilityTraced n (owner_of s (post_numbered s n)).number (history_of (replay_trace j r))
