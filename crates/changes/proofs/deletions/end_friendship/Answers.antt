-- `end_friendship` meets its contract: it tests the rows of 0301 one after the other, and ends the friendship of the two slots.
use Prim.Native.Nat.{ℕ}
use native.Mathlib.Omega.{arith}
use mathlib.Core.Path.{◌≡◌, sym, ap, ap₂, ◌∙◌}
use mathlib.Core.List.{[]}
use mathlib.Core.Bool.{not}
use Rattle.layout.specs.Bits.{clear_bit}
use Rattle.model.specs.Board.{decode}
use Rattle.model.specs.Lookups.{are_friends}
use Rattle.access.proofs.RecordReads.{friends_at}
use Rattle.model.specs.Actions.{d_friend}
use Rattle.model.specs.Refusals.{after_login, user_rows, change_refusals, cause_number}
use Rattle.model.proofs.ChangeWrites.{friends_written, writes_d_friend}
use Rattle.model.proofs.SoundBoards.{sound-length}
use Rattle.access.proofs.AcceptedPlaces.{SlotWithin, slots-within}
use Rattle.changes.proofs.BoardWrites.{friends-changed}
use Rattle.changes.proofs.ChangeRows.{RowsBehind, all_rows, refused-here, passed_here, refused_first, passed_first, accepted-here}
use Rattle.changes.proofs.deletions.end_friendship.Goals as goal
use Rattle.changes.proofs.deletions.end_friendship.Goals.{After-are_friends, In_ok-i}

-- both are in the table
slots-found : (c : In_ok-i) → let b = c.args.board.now in SlotWithin b c.in_ok-i.i × SlotWithin b c.in_ok-i.j
slots-found c = slots-within c.requires _ _ _ c.in_ok-i.ensures.number c.in_ok-i.ensures.slots.0 c.in_ok-i.ensures.slots.1

-- the test of the friend row is that of the two numbers
friends-tested : (c : After-are_friends) → let a = c.args in
    c.are_friends.result ≡ are_friends (decode a.board.now) a.login.user a.v
friends-tested c = c.are_friends.ensures ∙ friends_at _ _ c.in_ok-i.ensures.slots.0 _ c.in_ok-i.ensures.slots.1

behind-users : (c : In_ok-i) → let a = c.args in RowsBehind a.board.now (d_friend a.login.user a.login.password a.v) 3
unfolding change_refusals user_rows after_login
behind-users c = passed_first (user_rows _ _ _ _ []) _ (all_rows _ _) c.in_ok-i.ensures.number

pub returns-in_err-i : goal.returns-in_err-i
unfolding change_refusals user_rows after_login
returns-in_err-i c = refused_first (user_rows _ _ _ _ []) _ (all_rows _ _) _ _ c.from_residual.ensures.1 c.in_err-i.ensures.number

pub returns-then-not-are_friends : goal.returns-then-not-are_friends
unfolding change_refusals user_rows after_login cause_number
returns-then-not-are_friends c = refused-here (behind-users (goal.at.returns-then-not-are_friends c).In_ok-i) (ap not (sym (friends-tested (goal.at.returns-then-not-are_friends c).After-are_friends) ∙ c.if-not-are_friends.true))

pub change_friends-requires-clause-slots : goal.change_friends-requires-clause-slots
change_friends-requires-clause-slots c =
    let h = slots-found (goal.at.change_friends-requires-clause-slots c).In_ok-i in
    (h.0.room, h.1.room, sound-length c.requires)

pub returns : goal.returns
unfolding change_refusals user_rows after_login
returns c =
    let a = c.args in
    let h = slots-found (goal.at.returns c).In_ok-i in
    accepted-here
    (passed_here (behind-users (goal.at.returns c).In_ok-i) (ap not (sym (friends-tested (goal.at.returns c).After-are_friends) ∙ c.if-not-are_friends.false)))
    (friends-changed clear_bit _ _ _ c.change_friends.ensures
    ∙ ap₂ (λ (x y : ℕ). friends_written clear_bit a.board.now x y) c.in_ok-i.ensures.slots.0 c.in_ok-i.ensures.slots.1)
    (writes_d_friend c.requires.encoded a.login.user a.login.password a.v (omega arith) (omega arith))
