-- What holds of an accepted action: no row refuses it (`none_applies`), and so the users, posts and pending registrations that it names
-- have their places in the tables.
use Prim.Native.Nat.{ℕ, zero, suc, ◌<◌}
use mathlib.Core.Path.{◌≡◌, refl, sym, ap, ◌∙◌, subst}
use mathlib.Core.List.{List, [], ◌∷◌, map}
use mathlib.Core.Bool.{Bool, true, false, cond}
use mathlib.Core.Option.{some, none, some-ne-none}
use lib.ListN.{length, get_or, length-map, get_or-map}
use lib.Dec.{eqb}
use borrow.Author.Tests.{ltb-true, eqb-true, eqb-false, eq-eqb, ne_eqb}
use Rattle.layout.specs.Search.{index_of}
use Rattle.model.specs.Lists.{contains}
use Rattle.model.specs.State.{User, Post, Pending, State, no_user, user_numbers, post_numbers, pending_numbers, user_at}
use Rattle.model.specs.Lookups.{is_registered, is_post, is_pending, user_slot, post_place, pending_place, user_numbered}
use Rattle.model.specs.Actions.{unsound_board}
use Rattle.model.specs.Refusals.{RefusalRow, first_cause}
use Rattle.model.proofs.ListLaws.{contained_found, index_injective}

-- ---- rows

-- row i does not apply, and neither does the default that `get_or` gives behind the last row
pub none_applies : (rows : List RefusalRow) → first_cause rows ≡ none → (i : ℕ) → (get_or rows i (unsound_board, false)).1 ≡ false
unfolding first_cause
none_applies [] e i = refl
none_applies (c ∷ cs) e i = by_test c.1 refl e i (none_applies cs)
  where
    by_test : (t : Bool) → c.1 ≡ t → cond t (some c.0) (first_cause cs) ≡ none → (i : ℕ)
        → (first_cause cs ≡ none → (j : ℕ) → (get_or cs j (unsound_board, false)).1 ≡ false) → (get_or (c ∷ cs) i (unsound_board, false)).1 ≡ false
    by_test true q f i rest = absurd (some-ne-none c.0 f)
    by_test false q f zero rest = q
    by_test false q f (suc i) rest = rest f i

-- ---- places

-- a number that a table contains has a place in it
place_of : {A : Type 0} (number : A → ℕ) (xs : List A) (x : ℕ) → contains x (map number xs) ≡ true → index_of x (map number xs) < length xs
unfolding contains
place_of number xs x e =
    let i : ℕ = index_of x (map number xs) in
    subst (λ (n : ℕ). i < n) (length-map xs number) (ltb-true i (length (map number xs)) e)

module _ (s : State) (x : ℕ) where
  pub slot_below : is_registered s x ≡ true → user_slot s x < length s.users
  unfolding is_registered user_slot user_numbers
  slot_below e = place_of (λ (u : User). u.number) s.users x e

  pub post-below : is_post s x ≡ true → post_place s x < length s.posts
  unfolding is_post post_place post_numbers
  post-below e = place_of (λ (p : Post). p.number) s.posts x e

  pub pending-below : is_pending s x ≡ true → pending_place s x < length s.pending
  unfolding is_pending pending_place pending_numbers
  pending-below e = place_of (λ (p : Pending). p.number) s.pending x e

  -- the user at a number's slot has that number
  pub slot_number : is_registered s x ≡ true → (user_numbered s x).number ≡ x
  unfolding is_registered user_slot user_numbers user_numbered user_at
  slot_number e = sym (get_or-map (λ (u : User). u.number) s.users (user_slot s x) no_user) ∙ contained_found x (user_numbers s) e

-- numbers with the same slot are the same
pub slot_injective : (s : State) (u v : ℕ) → is_registered s u ≡ true → is_registered s v ≡ true → user_slot s u ≡ user_slot s v → u ≡ v
unfolding user_numbered
slot_injective s u v e f q = sym (slot_number s u e) ∙ ap (λ (i : ℕ). (user_at s i).number) q ∙ slot_number s v f

-- so the slots say whether the numbers are the same, if one of them is registered
pub slot_test : (s : State) (u v : ℕ) → is_registered s u ≡ true → eqb (user_slot s v) (user_slot s u) ≡ eqb u v
unfolding is_registered user_slot
slot_test s u v e = by_test (eqb u v) refl
  where
    by_test : (t : Bool) → eqb u v ≡ t → eqb (user_slot s v) (user_slot s u) ≡ t
    by_test true q = eq-eqb (user_slot s v) (user_slot s u) (ap (user_slot s) (sym (eqb-true u v q)))
    by_test false q = ne_eqb (user_slot s v) (user_slot s u) (λ h. eqb-false u v q (index_injective u v (user_numbers s) e (sym h)))
