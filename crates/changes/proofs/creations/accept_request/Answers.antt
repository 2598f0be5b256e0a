-- `accept_request` meets its contract: it tests the rows of 0205 one after the other, removes the requests between the two slots, and makes
-- them friends.
use Prim.Native.Nat.{ℕ, ◌<◌}
use native.Mathlib.Omega.{arith}
use mathlib.Core.Path.{◌≡◌, sym, ap, ap₂, ◌∙◌}
use mathlib.Core.List.{List, []}
use mathlib.Core.Bool.{not}
use lib.ListN.{length}
use Rattle.layout.specs.Bits.{set_bit}
use Rattle.model.specs.State.{user_limit}
use Rattle.model.specs.Board.{board_size, decode}
use Rattle.model.specs.Lookups.{has_requested}
use Rattle.access.proofs.RecordReads.{requested_at}
use Rattle.model.specs.Actions.{c_friend}
use Rattle.model.specs.Refusals.{after_login, user_rows, change_refusals, cause_number}
use Rattle.model.proofs.ChangeWrites.{requests_removed, friends_written, writes_c_friend}
use Rattle.model.proofs.SoundBoards.{sound-length}
use Rattle.access.proofs.AcceptedPlaces.{SlotWithin, slots-within}
use Rattle.changes.proofs.BoardWrites.{friends-changed}
use Rattle.changes.proofs.ChangeRows.{RowsBehind, all_rows, refused-here, passed_here, refused_first, passed_first, accepted-here}
use Rattle.changes.proofs.creations.accept_request.Goals as goal
use Rattle.changes.proofs.creations.accept_request.Goals.{After-has_requested, Else-not-has_requested, In_ok-i, Start}

-- the rows left behind the first k
abbrev LeftBehind : ℕ → Start → Type 0
LeftBehind k c = RowsBehind c.args.board.now (c_friend c.args.login.user c.args.login.password c.args.v) k

-- both are in the table
slots-found : (c : In_ok-i) → let b = c.args.board.now in
    SlotWithin b c.in_ok-i.i × SlotWithin b c.in_ok-i.j
slots-found c =
    slots-within c.requires _ _ _ c.in_ok-i.ensures.number c.in_ok-i.ensures.slots.0
    c.in_ok-i.ensures.slots.1

-- the test of the row is that of the two numbers
request-tested : (c : After-has_requested) → let a = c.args in
    c.has_requested.result ≡ has_requested (decode a.board.now) a.v a.login.user
request-tested c =
    c.has_requested.ensures ∙ requested_at _ _ c.in_ok-i.ensures.slots.0 _ c.in_ok-i.ensures.slots.1

behind-users : (c : In_ok-i) → LeftBehind 3 (goal.at.In_ok-i c).Start
unfolding change_refusals user_rows after_login
behind-users c = passed_first (user_rows _ _ _ _ []) _ (all_rows _ _) c.in_ok-i.ensures.number

behind-requested : (c : Else-not-has_requested) → LeftBehind 4 (goal.at.Else-not-has_requested c).Start
unfolding change_refusals user_rows after_login
behind-requested c = passed_here (behind-users (goal.at.Else-not-has_requested c).In_ok-i) (ap not (sym (request-tested (goal.at.Else-not-has_requested c).After-has_requested) ∙ c.if-not-has_requested.false))

pub returns-in_err-i : goal.returns-in_err-i
unfolding change_refusals user_rows after_login
returns-in_err-i c = refused_first (user_rows _ _ _ _ []) _ (all_rows _ _) _ _ c.from_residual.ensures.1 c.in_err-i.ensures.number

pub returns-then-not-has_requested : goal.returns-then-not-has_requested
unfolding change_refusals user_rows after_login cause_number
returns-then-not-has_requested c =
    refused-here (behind-users (goal.at.returns-then-not-has_requested c).In_ok-i) (ap not (sym (request-tested (goal.at.returns-then-not-has_requested c).After-has_requested) ∙ c.if-not-has_requested.true))

-- the slots are below 32, and the board has its length
slots-valid : (c : In_ok-i) → let b = c.args.board.now in
    (c.in_ok-i.i < user_limit) × (c.in_ok-i.j < user_limit) × (length b ≡ board_size)
slots-valid c = let h = slots-found c in (h.0.room, h.1.room, sound-length c.requires)

pub remove_requests-requires : goal.remove_requests-requires
remove_requests-requires c = slots-valid (goal.at.remove_requests-requires c).In_ok-i

pub change_friends-requires-clause-slots : goal.change_friends-requires-clause-slots
change_friends-requires-clause-slots c =
    let h = slots-valid (goal.at.change_friends-requires-clause-slots c).In_ok-i in
    (h.0, h.1, omega (arith, h.2))

pub returns : goal.returns
unfolding change_refusals user_rows after_login
returns c =
    let a = c.args in
    let i = c.in_ok-i.i in
    let j = c.in_ok-i.j in
    let h = slots-found (goal.at.returns c).In_ok-i in
    accepted-here (behind-requested (goal.at.returns c).Else-not-has_requested)
    (friends-changed set_bit _ _ _ c.change_friends.ensures ∙ ap (λ (b : List ℕ). friends_written set_bit b i j) c.remove_requests.ensures
    ∙ ap₂ (λ (x y : ℕ). friends_written set_bit (requests_removed a.board.now x y) x y) c.in_ok-i.ensures.slots.0
    c.in_ok-i.ensures.slots.1)
    (writes_c_friend c.requires.encoded a.login.user a.login.password a.v (omega arith) (omega arith))
