-- `request_friend` meets its contract: it tests the rows of 0204 one after the other, and writes the bit and the note at the places of both
-- users' slots.
use Prim.Native.Nat.{ℕ, ◌+◌, ◌*◌}
use native.Mathlib.Omega.{arith}
use mathlib.Core.Path.{refl, sym, ap₂, ◌∙◌}
use mathlib.Core.List.{[]}
use borrow.Author.Tests.{eq-eqb, ne_eqb}
use lib.Dec.{lit≤}
use Rattle.layout.specs.Bits.{set_bit}
use Rattle.reader.specs.Fields.{note_limit}
use Rattle.model.specs.State.{user_limit}
use Rattle.access.proofs.RecordReads.{friends_at, requested_at}
use Rattle.model.specs.Actions.{c_friend_req}
use Rattle.model.specs.Refusals.{after_login, user_rows, change_refusals, cause_number}
use Rattle.model.proofs.ChangeWrites.{request_added, writes_c_friend_req}
use Rattle.model.proofs.SoundBoards.{sound-length}
use Rattle.access.proofs.AcceptedPlaces.{SlotWithin, slots-within}
use Rattle.changes.proofs.BoardWrites.{bit-changed, then_string, then_bit}
use Rattle.changes.proofs.ChangeRows.{RowsBehind, all_rows, refused-here, passed_here, refused_first, passed_first, accepted-here}
use Rattle.changes.proofs.creations.request_friend.Goals as goal
use Rattle.changes.proofs.creations.request_friend.Goals.{then-login-v-via-then-login-v, then-login-v-via-else-login-v+then-are_friends, then-login-v-via-else-login-v+else-are_friends+then-has_requested, Else-has_requested, In_ok-i, Start}

-- the rows left behind the first k
abbrev LeftBehind : ℕ → Start → Type 0
LeftBehind k c = RowsBehind c.args.board.now (c_friend_req c.args.login.user c.args.login.password c.args.v c.args.note.now) k

-- both are in the table
slots-found : (c : In_ok-i) → let b = c.args.board.now in
    SlotWithin b c.in_ok-i.i × SlotWithin b c.in_ok-i.j
slots-found c =
    slots-within c.requires.0 _ _ _ c.in_ok-i.ensures.number c.in_ok-i.ensures.slots.0
    c.in_ok-i.ensures.slots.1

behind-users : (c : In_ok-i) → LeftBehind 3 (goal.at.In_ok-i c).Start
unfolding change_refusals user_rows after_login
behind-users c = passed_first (user_rows _ _ _ _ []) _ (all_rows _ _) c.in_ok-i.ensures.number

behind-all : (c : Else-has_requested) → LeftBehind 6 (goal.at.Else-has_requested c).Start
unfolding change_refusals user_rows after_login
behind-all c =
    let slots = c.in_ok-i.ensures.slots in
    passed_here
    (passed_here (passed_here (behind-users (goal.at.Else-has_requested c).In_ok-i) (ne_eqb _ _ c.if-login-v.false))
    (sym (c.are_friends.ensures ∙ friends_at _ _ slots.0 _ slots.1) ∙ c.if-are_friends.false))
    (sym (c.has_requested.ensures ∙ requested_at _ _ slots.1 _ slots.0) ∙ c.if-has_requested.false)

pub returns-in_err-i : goal.returns-in_err-i
unfolding change_refusals user_rows after_login
returns-in_err-i c = refused_first (user_rows _ _ _ _ []) _ (all_rows _ _) _ _ c.from_residual.ensures.1 c.in_err-i.ensures.number

pub returns-then-login-v : goal.returns-then-login-v
unfolding change_refusals user_rows after_login cause_number
returns-then-login-v c =
    let users = behind-users (goal.at.returns-then-login-v c).In_ok-i in
    let slots = c.in_ok-i.ensures.slots in
    elim c.then-login-v.branch [
      | then-login-v-via-then-login-v w ↦ refused-here users (eq-eqb _ _ w.if-login-v.true)
      | then-login-v-via-else-login-v+then-are_friends w ↦
          refused-here (passed_here users (ne_eqb _ _ w.if-login-v.false))
          (sym (w.are_friends.ensures ∙ friends_at _ _ slots.0 _ slots.1) ∙ w.if-are_friends.true)
      | then-login-v-via-else-login-v+else-are_friends+then-has_requested w ↦
          refused-here
          (passed_here (passed_here users (ne_eqb _ _ w.if-login-v.false))
          (sym (w.are_friends.ensures ∙ friends_at _ _ slots.0 _ slots.1) ∙ w.if-are_friends.false))
          (sym (w.has_requested.ensures ∙ requested_at _ _ slots.1 _ slots.0) ∙ w.if-has_requested.true)
    ]

pub field_at-row_at-requires : goal.field_at-row_at-requires
field_at-row_at-requires c = ((slots-found (goal.at.field_at-row_at-requires c).In_ok-i).1.room, lit≤ tt)

pub change_bit-requires-clause-within : goal.change_bit-requires-clause-within
change_bit-requires-clause-within c =
    let h = slots-found (goal.at.change_bit-requires-clause-within c).In_ok-i in
    let l = sound-length c.requires.0 in
    let at = c.field_at-row_at.ensures in
    omega arith

pub note_at-requires : goal.note_at-requires
note_at-requires c = let h = slots-found (goal.at.note_at-requires c).In_ok-i in (h.1.room, h.0.room)

pub returns : goal.returns
unfolding change_refusals user_rows after_login
returns c =
    let a = c.args in
    let b = a.board.now in
    let i = c.in_ok-i.i in
    let j = c.in_ok-i.j in
    let same-i = c.in_ok-i.ensures.slots.0 in
    let same-j = c.in_ok-i.ensures.slots.1 in
    let h = slots-found (goal.at.returns c).In_ok-i in
    let l = sound-length c.requires.0 in
    let place = c.note_at.ensures in
    let first = then_bit refl (16 + j * 104 + 16) c.field_at-row_at.ensures set_bit i (bit-changed set_bit _ _ _ c.change_bit.ensures) in
    let second = then_string first (23824 + (user_limit * j + i) * 26) place note_limit a.note.now c.requires.1 (omega arith)
    c.write_string.ensures in
    accepted-here (behind-all (goal.at.returns c).Else-has_requested)
    (second ∙ ap₂ (λ (x y : ℕ). request_added b x y a.note.now) same-j same-i)
    (writes_c_friend_req c.requires.0.encoded a.login.user a.login.password a.v (omega arith) (omega arith)
    a.note.now c.requires.1)
