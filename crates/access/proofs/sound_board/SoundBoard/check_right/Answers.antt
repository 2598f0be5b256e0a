-- `check_right` meets its contract: each right has one row, which the test of that right decides.
use Prim.Native.Nat.{ℕ}
use mathlib.Core.Path.{◌≡◌, refl, sym, ap, ◌∙◌, subst}
use mathlib.Core.Bool.{Bool, ◌||◌}
use lib.Dec.{eqb}
use Rattle.model.specs.State.{State}
use Rattle.model.specs.Actions.{not_admin, not_owner, not_entitled}
use Rattle.model.specs.Refusals.{cause_number, lacks_right, first_cause, first_number}
use Rattle.access.specs.Rights.{enum_right, StandsAt}
use Rattle.access.specs.declared.refusals.Right.{Right}
use Rattle.access.proofs.RecordReads.{owner_at, reader_at, friends_at}
use Rattle.access.proofs.RefusalLaws.{single_row}
use Rattle.access.proofs.sound_board.SoundBoard.check_right.Goals as goal

-- the number of the rows of a right, where it is the one given
of_right : (s : State) {given right : Right} (u x : ℕ) → given ≡ right → {n : ℕ} → n ≡ first_number (lacks_right s (enum_right right) u x)
    → n ≡ first_number (lacks_right s (enum_right given) u x)
of_right s {given} {right} u x e f = f ∙ ap (λ (r : Right). first_number (lacks_right s (enum_right r) u x)) (sym e)

-- where x stands, for the right given
stands : (s : State) {given right : Right} (x k : ℕ) → given ≡ right → StandsAt (enum_right given) s x k → StandsAt (enum_right right) s x k
stands s {given} {right} x k e h = subst (λ (r : Right). StandsAt (enum_right r) s x k) e h

pub returns-in-Admin : goal.returns-in-Admin
unfolding lacks_right cause_number
returns-in-Admin c =
    of_right _ _ _ c.in-Admin.is
    (single_row not_admin c.require.ensures c.is_admin.ensures)

pub returns-in-Owner : goal.returns-in-Owner
unfolding lacks_right cause_number
returns-in-Owner c =
    let told = c.in-Owner.is in
    of_right _ _ _ told
    (single_row not_owner c.require-in-Owner.ensures (c.is_owner.ensures ∙ owner_at _ _ c.requires.0 _ (stands _ _ _ told c.requires.1)))

pub returns-in-Reader : goal.returns-in-Reader
unfolding lacks_right cause_number
returns-in-Reader c =
    let told = c.in-Reader.is in
    of_right _ _ _ told
    (single_row not_entitled c.require-in-Reader.ensures (c.may_read.ensures ∙ reader_at _ _ c.requires.0 _ (stands _ _ _ told c.requires.1)))

pub returns-in-Friend : goal.returns-in-Friend
unfolding lacks_right cause_number
returns-in-Friend c =
    let a = c.args in
    let told = c.in-Friend.is in
    of_right _ _ _ told
    (single_row not_entitled c.require-in-Friend.ensures
    (c.may_list.ensures ∙ ap (λ (t : Bool). eqb a.u a.x || t) (friends_at _ _ c.requires.0 _ (stands _ _ _ told c.requires.1))))

pub returns-in-Unrestricted : goal.returns-in-Unrestricted
unfolding lacks_right first_number first_cause
returns-in-Unrestricted c = of_right _ _ _ c.in-Unrestricted.is refl
