-- What functions that read the records of a sound board return: a field of a record, and what follows from the place of a number.
use Prim.Native.Nat.{ℕ, ◌≤◌, ◌<◌}
use mathlib.Core.Path.{◌≡◌, sym, ap, ap₂, ◌∙◌}
use mathlib.Core.List.{List}
use mathlib.Core.Bool.{Bool, cond}
use lib.ListN.{length, get_or, get_or-eq_default}
use lib.Dec.{eqb, ltb}
use borrow.Table.Steps.{cases}
use borrow.Author.Tests.{ltb-true, ltb-false}
use Rattle.layout.specs.Bits.{has_bit}
use Rattle.model.specs.State.{User, Post, State, no_user, no_post, user_at, post_at}
use Rattle.model.specs.Lookups.{user_slot, post_place, user_numbered, post_numbered, are_friends, has_requested, is_owner, may_read}
use Rattle.access.specs.Rights.{may_read_at}

-- ---- a field of record i, which is 0 where there is no such record

module _ {A : Type 0} (f : A → ℕ) (d : A) (z : f d ≡ 0) (xs : List A) (i : ℕ) where
  pub field_beyond : length xs ≤ i → 0 ≡ f (get_or xs i d)
  field_beyond h = sym (ap f (get_or-eq_default xs d h) ∙ z)

  field_of : {x r : ℕ} → (i < length xs → x ≡ f (get_or xs i d)) → r ≡ cond (ltb i (length xs)) x 0 → r ≡ f (get_or xs i d)
  field_of {x = x} inside q =
      cases (ltb i (length xs))
      (λ t. q ∙ ap (λ (s : Bool). cond s x 0) t ∙ inside (ltb-true i (length xs) t))
      (λ t. q ∙ ap (λ (s : Bool). cond s x 0) t ∙ field_beyond (ltb-false i (length xs) t))

module _ (s : State) (i : ℕ) {x r : ℕ} where
  pub user-field : (f : User → ℕ) → f no_user ≡ 0 → (i < length s.users → x ≡ f (user_at s i)) → r ≡ cond (ltb i (length s.users)) x 0
      → r ≡ f (user_at s i)
  unfolding user_at
  user-field f z = field_of f no_user z s.users i

  pub post-field : (f : Post → ℕ) → f no_post ≡ 0 → (i < length s.posts → x ≡ f (post_at s i)) → r ≡ cond (ltb i (length s.posts)) x 0
      → r ≡ f (post_at s i)
  unfolding post_at
  post-field f z = field_of f no_post z s.posts i

-- ---- a field of the record with a number

pub numbered_user : {A : Type 0} (s : State) (u : ℕ) (f : User → A) {i : ℕ} {x : A} → i ≡ user_slot s u → x ≡ f (user_at s i)
    → x ≡ f (user_numbered s u)
unfolding user_numbered
numbered_user s u f e q = q ∙ ap (λ (k : ℕ). f (user_at s k)) e

pub numbered_post : {A : Type 0} (s : State) (n : ℕ) (f : Post → A) {i : ℕ} {x : A} → i ≡ post_place s n → x ≡ f (post_at s i)
    → x ≡ f (post_numbered s n)
unfolding post_numbered
numbered_post s n f e q = q ∙ ap (λ (k : ℕ). f (post_at s k)) e

-- ---- rows and rights by slots, which are those of the numbers

module _ (s : State) (u : ℕ) {i : ℕ} (e : i ≡ user_slot s u) where
  module _ (v : ℕ) {j : ℕ} (q : j ≡ user_slot s v) where
    pub friends_at : has_bit (user_at s i).friends j ≡ are_friends s u v
    unfolding are_friends user_numbered
    friends_at = ap₂ (λ (x y : ℕ). has_bit (user_at s x).friends y) e q

    pub requested_at : has_bit (user_at s i).requests j ≡ has_requested s v u
    unfolding has_requested user_numbered
    requested_at = ap₂ (λ (x y : ℕ). has_bit (user_at s x).requests y) e q

  module _ (n : ℕ) {place : ℕ} (q : place ≡ post_place s n) where
    pub owner_at : eqb (post_at s place).owner i ≡ is_owner s u n
    unfolding is_owner post_numbered
    owner_at = ap₂ (λ (x y : ℕ). eqb (post_at s y).owner x) e q

    pub reader_at : may_read_at s i place ≡ may_read s u n
    unfolding may_read is_owner user_numbered post_numbered
    reader_at = ap₂ (may_read_at s) e q
