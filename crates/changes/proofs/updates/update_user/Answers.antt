-- `update_user` meets its contract: a sender who passes the login has a slot in the table, where the three fields are written.
use Prim.Native.Nat.{ℕ, ◌+◌, ◌*◌}
use native.Mathlib.Omega.{arith}
use mathlib.Core.Path.{refl, ap, ◌∙◌}
use lib.Dec.{lit≤}
use Rattle.reader.specs.Fields.{name_limit, info_limit}
use Rattle.model.specs.Refusals.{change_refusals}
use Rattle.model.proofs.ChangeWrites.{user_updated, writes_u_user}
use Rattle.access.proofs.AcceptedPlaces.{sender_slot_within}
use Rattle.changes.proofs.BoardWrites.{then_number, then_string}
use Rattle.changes.proofs.ChangeLaws.{change-accepted, change-handed_up}
use Rattle.model.proofs.SoundBoards.{sound-length}
use Rattle.changes.proofs.updates.update_user.Goals as goal

pub returns-in_err-i : goal.returns-in_err-i
unfolding change_refusals
returns-in_err-i c = change-handed_up _ _ _ _ c.from_residual.ensures.1 c.in_err-i.ensures.number

pub field_at-password_at-requires : goal.field_at-password_at-requires
field_at-password_at-requires c = ((sender_slot_within c.requires.0 _ _ c.in_ok-i.ensures.number c.in_ok-i.ensures.slot).room, lit≤ tt)

pub field_at-name_at-requires : goal.field_at-name_at-requires
field_at-name_at-requires c = ((sender_slot_within c.requires.0 _ _ c.in_ok-i.ensures.number c.in_ok-i.ensures.slot).room, lit≤ tt)

pub field_at-info_at-requires : goal.field_at-info_at-requires
field_at-info_at-requires c = ((sender_slot_within c.requires.0 _ _ c.in_ok-i.ensures.number c.in_ok-i.ensures.slot).room, lit≤ tt)

pub returns : goal.returns
unfolding change_refusals
returns c =
    let a = c.args in
    let h = sender_slot_within c.requires.0 _ _ c.in_ok-i.ensures.number c.in_ok-i.ensures.slot in
    let i = c.in_ok-i.i in
    let same = c.in_ok-i.ensures.slot in
    let l = sound-length c.requires.0 in
    let first = then_number refl (16 + i * 104 + 4) c.field_at-password_at.ensures 8 a.password (omega arith) c.write_number.ensures in
    let second = then_string first (16 + i * 104 + 20) c.field_at-name_at.ensures name_limit a.name.now c.requires.1 (omega arith) c.write_string.ensures in
    let third = then_string second (16 + i * 104 + 46) c.field_at-info_at.ensures info_limit a.info.now c.requires.2 (omega arith) c.write_string-2.ensures in
    change-accepted _ _ c.in_ok-i.ensures.number
    (third ∙ ap (λ (k : ℕ). user_updated a.board.now k a.password a.name.now a.info.now) same)
    (writes_u_user c.requires.0.encoded a.login.user a.login.password a.password a.name.now a.info.now
    (omega arith) (omega arith) c.requires.1 c.requires.2)
