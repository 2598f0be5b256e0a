-- What the contracts of the refusals say of rights and kinds; the contract of `step` does not use it.
use Rattle.std.specs.Prelude.{ℕ, ◌≡◌, Bool, ◌&&◌, ◌||◌, eqb, leb}
use Rattle.layout.specs.Bits.{has_bit}
use Rattle.model.specs.State.{State, user_at, post_at}
use Rattle.model.specs.Lookups.{user_slot, post_place}
use Rattle.model.specs.Refusals
use Rattle.model.specs.Refusals.{admin_right, owner_right, reader_right, friend_right, no_right}
use Rattle.access.specs.declared.refusals.Right.{Right}
use Rattle.access.specs.declared.refusals.Right.TheVariants.{Admin, Owner, Reader, Friend, Unrestricted}

-- the model's right for each case of the enum
abbrev pub enum_right : Right → Refusals.Right
enum_right Admin = admin_right
enum_right Owner = owner_right
enum_right Reader = reader_right
enum_right Friend = friend_right
enum_right Unrestricted = no_right

-- k is where x stands: among the posts for a right to a post, among the users for a friend's right; the other two do not look at x
abbrev pub StandsAt : Refusals.Right → State → ℕ → ℕ → Type 0
StandsAt admin_right s x k = Unit
StandsAt owner_right s x k = k ≡ post_place s x
StandsAt reader_right s x k = k ≡ post_place s x
StandsAt friend_right s x k = k ≡ user_slot s x
StandsAt no_right s x k = Unit

-- whether the user in slot i may read the post at a place (`may_read` has it by their numbers)
abbrev pub may_read_at : State → ℕ → ℕ → Bool
may_read_at s i place =
    eqb (post_at s place).owner i || (has_bit (user_at s i).friends (post_at s place).owner || eqb (post_at s place).visibility 1)

-- kinds with a post
abbrev pub is_post_kind : ℕ → Bool
is_post_kind kind = (leb 0x0402 kind && leb kind 0x0405) || (leb 0x0504 kind && leb kind 0x0508)

-- kinds with a pending registration
abbrev pub is_pending_kind : ℕ → Bool
is_pending_kind kind = eqb kind 0x0202 || eqb kind 0x0502
