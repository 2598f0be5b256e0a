-- What a state says of a staff number and of a post number.
use Rattle.std.specs.Prelude.{ℕ, List, Bool, ◌||◌, eqb}
use Rattle.layout.specs.Search.{index_of}
use Rattle.layout.specs.Bits.{has_bit}
use Rattle.model.specs.Lists.{contains}
use Rattle.model.specs.State.{User, Post, State, user_numbers, post_numbers, pending_numbers, user_at, post_at, note_at}

-- ---- whether there is such a user, post or pending registration, and where

unfoldable pub is_registered : State → ℕ → Bool
is_registered s u = contains u (user_numbers s)

unfoldable pub is_post : State → ℕ → Bool
is_post s n = contains n (post_numbers s)

unfoldable pub is_pending : State → ℕ → Bool
is_pending s v = contains v (pending_numbers s)

unfoldable pub user_slot : State → ℕ → ℕ
user_slot s u = index_of u (user_numbers s)

unfoldable pub post_place : State → ℕ → ℕ
post_place s n = index_of n (post_numbers s)

unfoldable pub pending_place : State → ℕ → ℕ
pending_place s v = index_of v (pending_numbers s)

unfoldable pub user_numbered : State → ℕ → User
user_numbered s u = user_at s (user_slot s u)

unfoldable pub post_numbered : State → ℕ → Post
post_numbered s n = post_at s (post_place s n)

-- ---- friendship, requests, posts

-- "bit j: slot j is a friend", "bit j: slot j has requested this user"
unfoldable pub are_friends : State → ℕ → ℕ → Bool
are_friends s u v = has_bit (user_numbered s u).friends (user_slot s v)

unfoldable pub has_requested : State → ℕ → ℕ → Bool
has_requested s v u = has_bit (user_numbered s u).requests (user_slot s v)

-- the note of v's request to u
unfoldable pub note_of_request : State → ℕ → ℕ → List ℕ
note_of_request s v u = note_at s (user_slot s u) (user_slot s v)

unfoldable pub owner_of : State → Post → User
owner_of s p = user_at s p.owner

unfoldable pub is_owner : State → ℕ → ℕ → Bool
is_owner s u n = eqb (post_numbered s n).owner (user_slot s u)

-- "for the owner, the owner's friends and, if the post is public, every registered user"; "visibility (1 byte: 0 friends, 1 public)"
unfoldable pub may_read : State → ℕ → ℕ → Bool
may_read s u n = is_owner s u n || (has_bit (user_numbered s u).friends (post_numbered s n).owner || eqb (post_numbered s n).visibility 1)
