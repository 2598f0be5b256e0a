-- "Requests that crossed" (document 02, change 2): what it promises of the step, and of the boards that a replay leaves.
use Rattle.std.specs.Prelude.{ℕ, ◌≡◌, ◌≢◌, List, [], true, false, eqb}
use Rattle.std.proofs.Math.Pow.{are_bytes}
use Rattle.reader.specs.Frames.{kind_of}
use Rattle.model.specs.State.{State}
use Rattle.model.specs.Board.{decode}
use Rattle.model.specs.Soundness.{is_sound}
use Rattle.model.specs.Lookups.{is_registered, user_numbered, are_friends, has_requested, note_of_request}
use Rattle.model.specs.Actions.{c_friend, change, action_of}
use Rattle.model.specs.Step.{Response, step_state, step_of}
use Rattle.model.specs.Replay.{replay_of}

-- v has not requested u, and no note of such a request is left
abbrev pub NoRequest : State → ℕ → ℕ → Type 0
NoRequest s v u = (has_requested s v u ≡ false) × (note_of_request s v u ≡ [])

-- "0205 removes the requests both ways, with their notes": an accepted 0205 of u for v leaves two friends without a request between them
unfoldable pub RequestsRemoved : Type 0
RequestsRemoved =
    (msg b : List ℕ) (u p v : ℕ) → are_bytes b ≡ true → is_sound b ≡ true → action_of msg ≡ change (c_friend u p v)
    → let r : Response State = step_state msg (decode b) in
    r.number ≡ 0 → (are_friends r.state u v ≡ true) × (NoRequest r.state u v × NoRequest r.state v u)

-- so a registered sender with the right password gets 9 for a 0205 between friends: there is no request to accept
unfoldable pub NineBetweenFriends : Type 0
NineBetweenFriends =
    (msg b : List ℕ) (u p v : ℕ) → are_bytes b ≡ true → is_sound b ≡ true → action_of msg ≡ change (c_friend u p v)
    → let s : State = decode b in
    is_registered s u ≡ true → eqb (user_numbered s u).password p ≡ true → are_friends s u v ≡ true → (step_state msg s).number ≡ 9

-- "for 0205 refusal 11 is never met", whatever else the message holds, well formed or not, and whatever the board and the buffer hold
unfoldable pub NeverEleven : Type 0
NeverEleven = (msg b o : List ℕ) → kind_of msg ≡ 0x0205 → (step_of msg b o).number ≢ 11

-- "If a pending friend request exists from one user to another, then the two are not friends" (the CoSMed paper, section 5.1), on every
-- board that a replay leaves, wherever it stopped
unfoldable pub RequestedNotFriends : Type 0
RequestedNotFriends =
    (j b o : List ℕ) (u v : ℕ) → are_bytes b ≡ true → is_sound b ≡ true
    → let s : State = decode (replay_of j b o).board in
    has_requested s v u ≡ true → (are_friends s u v ≡ false) × (are_friends s v u ≡ false)
