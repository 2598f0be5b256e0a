-- Records with a field replaced that no change replaces alone: what the writing laws speak of.
use Prim.Native.Nat.{ℕ}
use mathlib.Core.List.{List}
use Rattle.model.specs.State.{User, Post, Pending}

abbrev pub with_user_number : User → ℕ → User
with_user_number u x = record { number = x; password = u.password; friends = u.friends; requests = u.requests; name = u.name; info = u.info }

abbrev pub with_post_number : Post → ℕ → Post
with_post_number p x = record { number = x; picture = p.picture; owner = p.owner; visibility = p.visibility; title = p.title; text = p.text }

abbrev pub with_owner : Post → ℕ → Post
with_owner p x = record { number = p.number; picture = p.picture; owner = x; visibility = p.visibility; title = p.title; text = p.text }

abbrev pub with_pending_number : Pending → ℕ → Pending
with_pending_number p x = record { number = x; note = p.note }

abbrev pub with_pending_note : Pending → List ℕ → Pending
with_pending_note p x = record { number = p.number; note = x }
