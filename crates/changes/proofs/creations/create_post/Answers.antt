-- `create_post` meets its contract: it tests the rows of 0203 one after the other, and writes the count, the number, the owner's slot and the
-- title.
use Prim.Native.Nat.{ℕ}
use native.Mathlib.Omega.{arith}
use mathlib.Core.Path.{sym, ap₂, ◌∙◌}
use mathlib.Core.List.{[]}
use lib.ListN.{length}
use borrow.Author.Tests.{le-leb, lt-leb}
use Rattle.model.specs.State.{post_limit}
use Rattle.model.specs.Board.{decode}
use Rattle.model.specs.Actions.{c_post}
use Rattle.model.specs.Refusals.{after_login, change_refusals, cause_number}
use Rattle.model.proofs.ChangeWrites.{post_added, writes_c_post}
use Rattle.model.proofs.SoundBoards.{sound-length}
use Rattle.access.proofs.AcceptedPlaces.{SlotWithin, sender_slot_within}
use Rattle.changes.proofs.ChangeRows.{RowsBehind, all_rows, refused-here, passed_here, refused_first, passed_first, accepted-here}
use Rattle.changes.proofs.creations.create_post.Goals as goal
use Rattle.changes.proofs.creations.create_post.Goals.{Else-holds, In_ok-owner, Start}

-- the rows left behind the first k
abbrev LeftBehind : ℕ → Start → Type 0
LeftBehind k c = RowsBehind c.args.board.now (c_post c.args.login.user c.args.login.password c.args.n c.args.title.now) k

behind-login : (c : In_ok-owner) → LeftBehind 2 (goal.at.In_ok-owner c).Start
unfolding change_refusals after_login
behind-login c = passed_first (after_login _ _ _ []) _ (all_rows _ _) c.in_ok-owner.ensures.number

behind-number : (c : Else-holds) → LeftBehind 3 (goal.at.Else-holds c).Start
unfolding change_refusals after_login
behind-number c = passed_here (behind-login (goal.at.Else-holds c).In_ok-owner) (sym c.holds.ensures ∙ c.if-holds.false)

-- the sender has a slot
sender-slot : (c : In_ok-owner) → SlotWithin c.args.board.now c.in_ok-owner.owner
sender-slot c = sender_slot_within c.requires.0 _ _ c.in_ok-owner.ensures.number c.in_ok-owner.ensures.slot

pub returns-in_err-owner : goal.returns-in_err-owner
unfolding change_refusals after_login
returns-in_err-owner c = refused_first (after_login _ _ _ []) _ (all_rows _ _) _ _ c.from_residual.ensures.1 c.in_err-owner.ensures.number

pub returns-then-holds : goal.returns-then-holds
unfolding change_refusals after_login cause_number
returns-then-holds c = refused-here (behind-login (goal.at.returns-then-holds c).In_ok-owner) (sym c.holds.ensures ∙ c.if-holds.true)

pub returns-then-m-ge-POST_LIMIT : goal.returns-then-m-ge-POST_LIMIT
unfolding change_refusals after_login cause_number
returns-then-m-ge-POST_LIMIT c =
    let n = c.count-m.ensures in
    refused-here (behind-number (goal.at.returns-then-m-ge-POST_LIMIT c).Else-holds)
    (le-leb post_limit (length (decode c.args.board.now).posts) (omega arith))

pub add_post-requires : goal.add_post-requires
add_post-requires c =
    let h = sender-slot (goal.at.add_post-requires c).In_ok-owner in
    (omega arith, omega arith, sound-length c.requires.0, c.requires.1)

pub returns : goal.returns
unfolding change_refusals after_login
returns c =
    let n = c.count-m.ensures in
    let a = c.args in
    let b = a.board.now in
    let u = a.login.user in
    let o = c.in_ok-owner.ensures.slot in
    let h = sender-slot (goal.at.returns c).In_ok-owner in
    accepted-here (passed_here (behind-number (goal.at.returns c).Else-holds) (lt-leb post_limit (length (decode b).posts) (omega arith)))
    (c.add_post.ensures ∙ ap₂ (λ (k o : ℕ). post_added b k a.n o a.title.now) n o)
    (writes_c_post c.requires.0.encoded u a.login.password a.n a.title.now (omega arith) (omega arith) (omega arith) c.requires.1)
