-- `register_user` meets its contract: it tests the rows of 0202 one after the other; the pending registration that it removes is there, as
-- no row refuses, and the user that it adds has a free slot.
use Prim.Native.Nat.{ℕ, ◌-◌, ◌^◌, ◌<◌}
use native.Mathlib.Omega.{arith}
use mathlib.Core.Path.{refl, ap, ap₂, ◌∙◌}
use mathlib.Core.List.{List, []}
use lib.ListN.{length}
use borrow.Author.Tests.{le-leb, lt-leb}
use Rattle.layout.specs.Search.{index_of}
use Rattle.layout.specs.Bytes.{patch}
use Rattle.layout.specs.Numbers.{to_le_bytes}
use Rattle.layout.specs.Tables.{without_record, remove_record}
use Rattle.layout.specs.declared.table.Records.{Records}
use Rattle.layout.proofs.TableLaws.{remove_within}
use Rattle.model.specs.Lists.{contains}
use Rattle.model.specs.State.{user_limit, pending_limit}
use Rattle.model.specs.Board.{decode}
use Rattle.model.specs.Lookups.{pending_place}
use Rattle.model.specs.Actions.{c_user}
use Rattle.model.specs.Refusals.{right_of, lacks_right, after_login, pending_rows, change_refusals, cause_number}
use Rattle.model.proofs.ChangeWrites.{user_added, writes_c_user}
use Rattle.model.proofs.SoundBoards.{sound-length, pending-limit}
use Rattle.access.proofs.AcceptedPlaces.{PlaceWithin, pending-place-within}
use Rattle.changes.proofs.BoardWrites.{then_number}
use Rattle.changes.proofs.ChangeRows.{RowsBehind, all_rows, refused-here, passed_here, refused_first, passed_first, accepted-here}
use Rattle.changes.proofs.creations.register_user.Goals as goal
use Rattle.changes.proofs.creations.register_user.Goals.{In_ok-i, Start}

-- the rows left behind the first k
abbrev LeftBehind : ℕ → Start → Type 0
LeftBehind k c = RowsBehind c.args.board.now (c_user c.args.login.user c.args.login.password c.args.v c.args.password) k

behind-pending : (c : In_ok-i) → LeftBehind 4 (goal.at.In_ok-i c).Start
unfolding change_refusals pending_rows after_login lacks_right right_of contains index_of
behind-pending c = passed_first (pending_rows _ 0x0202 _ _ _ []) _ (all_rows _ _) c.in_ok-i.ensures.number

-- the pending registration is there
place_found : (c : In_ok-i) → PlaceWithin c.in_ok-i.i (length (decode c.args.board.now).pending) pending_limit
place_found c =
    pending-place-within c.requires _ _ _ _ c.in_ok-i.ensures.number c.in_ok-i.ensures.place

argument-bounds : (c : Start) → (c.args.v < 2 ^ 32) × (c.args.password < 2 ^ 64)
argument-bounds c = (omega arith, omega arith)

pub returns-in_err-i : goal.returns-in_err-i
unfolding change_refusals pending_rows after_login lacks_right right_of contains index_of
returns-in_err-i c = refused_first (pending_rows _ 0x0202 _ _ _ []) _ (all_rows _ _) _ _ c.from_residual.ensures.1 c.in_err-i.ensures.number

pub returns-then-n-ge-USER_LIMIT : goal.returns-then-n-ge-USER_LIMIT
unfolding change_refusals pending_rows after_login lacks_right right_of contains index_of cause_number
returns-then-n-ge-USER_LIMIT c =
    let n = c.count-n.ensures in
    refused-here (behind-pending (goal.at.returns-then-n-ge-USER_LIMIT c).In_ok-i)
    (le-leb user_limit (length (decode c.args.board.now).users) (omega arith))

pub overflow_sub-k : goal.overflow_sub-k
overflow_sub-k c =
    omega (arith, place_found (goal.at.overflow_sub-k c).In_ok-i, c.count-k.ensures)

pub add_user-requires : goal.add_user-requires
add_user-requires c =
    let l = sound-length c.requires in
    (omega arith, omega arith)

pub returns : goal.returns
unfolding change_refusals pending_rows after_login lacks_right right_of contains index_of
returns c =
    let a = c.args in
    let sound = c.requires in
    let b = a.board.now in
    let n = c.count-n.ensures in
    let k = c.count-k.ensures in
    let l = sound-length sound in
    let m = pending-limit sound in
    let bounds = argument-bounds (goal.at.returns c).Start in
    let i = c.in_ok-i.ensures.place in
    let h = place_found (goal.at.returns c).In_ok-i in
    let without : ℕ → ℕ → List ℕ = without_record b 23312 32 in
    let shorter : List ℕ = without (length (decode b).pending) (pending_place (decode b) a.v) in
    let first = c.remove.ensures
    ∙ ap (λ (r : Records). remove_record b r.base r.size c.count-k.result c.in_ok-i.i) c.records.ensures
    ∙ remove_within b 23312 32 c.count-k.result c.in_ok-i.i (omega arith) (omega arith)
    ∙ ap₂ without k i in
    let second = then_number first 4 refl 2 (c.count-k.result - 1) (omega arith) c.write_number.ensures
    ∙ ap (λ (x : ℕ). patch shorter 4 (to_le_bytes 2 (x - 1))) k in
    accepted-here (passed_here (behind-pending (goal.at.returns c).In_ok-i) (lt-leb user_limit (length (decode b).users) (omega arith)))
    (c.add_user.ensures ∙ ap₂ (λ (x : List ℕ) (i : ℕ). user_added x i a.v a.password) second n)
    (writes_c_user sound.encoded a.login.user a.login.password a.v a.password (length (decode b).pending)
    (omega arith) (omega arith) m (omega arith) bounds.0 bounds.1)
