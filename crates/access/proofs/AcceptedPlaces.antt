-- Where the records stand that an accepted action names. The rows that kinds share do not apply, so the users, the post and the pending
-- registration are there, and the places that the code finds for them are used ones of their tables (`PlaceWithin`).
use Prim.Native.Nat.{ℕ, ◌≤◌, ◌<◌}
use native.Mathlib.Omega.{arith}
use mathlib.Core.Path.{◌≡◌, sym, ◌∙◌}
use mathlib.Core.List.{List, [], ◌∷◌, ◌++◌}
use mathlib.Core.Bool.{Bool, true, not}
use lib.ListN.{length}
use lib.Dec.{eqb}
use borrow.Table.Steps.{cases}
use borrow.Author.Tests.{eqb-true, eqb-false, not-false}
use Rattle.model.specs.State.{State, user_limit, post_limit, pending_limit}
use Rattle.model.specs.Board.{decode}
use Rattle.model.specs.Lookups.{is_registered, is_post, is_pending, user_slot, post_place, pending_place, user_numbered}
use Rattle.model.specs.Actions.{Cause, unknown_sender, wrong_password, user_missing, post_missing, pending_missing}
use Rattle.model.specs.Refusals.{RefusalRow, first_number, right_of, lacks_right, after_login, post_rows, user_rows, pending_rows}
use Rattle.model.proofs.AcceptedLaws.{none_applies, slot_below, post-below, pending-below}
use Rattle.model.proofs.SoundnessTheorems.{SoundState}
use Rattle.access.proofs.RefusalLaws.{no_number, rows_pass, rows_refuse}
use Rattle.model.proofs.SoundBoards.{users-limit, posts-limit, pending-limit}

-- ---- rows that do not apply

-- neither do the first ones, nor those behind them
rows-passed : (xs ys : List RefusalRow) → first_number (xs ++ ys) ≡ 0 → (first_number xs ≡ 0) × (first_number ys ≡ 0)
rows-passed xs ys e =
    cases (eqb (first_number xs) 0)
    (λ t. let z = eqb-true (first_number xs) 0 t in (z, sym (rows_pass xs ys z) ∙ e))
    (λ t. let n = eqb-false (first_number xs) 0 t in absurd (n (sym (rows_refuse xs ys n) ∙ e)))

-- a first row whose test was expected to hold
test_passed : (cause : Cause) (t : Bool) (rows : List RefusalRow) → first_number ((cause, not t) ∷ rows) ≡ 0 → t ≡ true
test_passed cause t rows e = not-false t (none_applies ((cause, not t) ∷ rows) (no_number ((cause, not t) ∷ rows) e) 0)

module _ (s : State) (u p : ℕ) where
  login-passed : (rows : List RefusalRow) → first_number (after_login s u p rows) ≡ 0 → is_registered s u ≡ true
  unfolding after_login
  login-passed rows e = test_passed unknown_sender (is_registered s u) ((wrong_password, not (eqb (user_numbered s u).password p)) ∷ rows) e

  -- what follows the login does not apply either
  behind-login : (rows : List RefusalRow) → first_number (after_login s u p rows) ≡ 0 → first_number rows ≡ 0
  unfolding after_login
  behind-login rows e = (rows-passed (after_login s u p []) rows e).1

  user-passed : (v : ℕ) → first_number (user_rows s u p v []) ≡ 0 → (is_registered s u ≡ true) × (is_registered s v ≡ true)
  unfolding user_rows
  user-passed v e =
      let row : List RefusalRow = (user_missing, not (is_registered s v)) ∷ [] in
      (login-passed row e, test_passed user_missing (is_registered s v) [] (behind-login row e))

  post-passed : (kind n : ℕ) → first_number (post_rows s kind u p n) ≡ 0 → is_post s n ≡ true
  unfolding post_rows
  post-passed kind n e =
      let lacking : List RefusalRow = lacks_right s (right_of kind) u n in
      test_passed post_missing (is_post s n) lacking (behind-login ((post_missing, not (is_post s n)) ∷ lacking) e)

  pending-passed : (kind v : ℕ) → first_number (pending_rows s kind u p v []) ≡ 0 → is_pending s v ≡ true
  unfolding pending_rows
  pending-passed kind v e =
      let lacking : List RefusalRow = lacks_right s (right_of kind) u v in
      let row : List RefusalRow = (pending_missing, not (is_pending s v)) ∷ [] in
      test_passed pending_missing (is_pending s v) [] (rows-passed lacking row (behind-login (lacking ++ row) e)).1

-- ---- places

-- place i is one of a table's used records, and of those that it has room for
pub record PlaceWithin (i count limit : ℕ) : Type 0 where
  pub used : i < count
  pub room : i < limit

-- a user's slot on board b
abbrev pub SlotWithin : List ℕ → ℕ → Type 0
SlotWithin b i = PlaceWithin i (length (decode b).users) user_limit

place-within : {i place count limit : ℕ} → i ≡ place → place < count → count ≤ limit → PlaceWithin i count limit
place-within e h l = record { used = omega arith; room = omega arith }

-- i is the place that was found
registered_slot_within : {b : List ℕ} → SoundState b → (u : ℕ) → is_registered (decode b) u ≡ true → {i : ℕ} → i ≡ user_slot (decode b) u → SlotWithin b i
registered_slot_within {b = b} w u h e = place-within e (slot_below (decode b) u h) (users-limit w)

-- where the rows give no refusal
module _ {b : List ℕ} (w : SoundState b) (u p : ℕ) {i : ℕ} where
  pub sender_slot_within : 0 ≡ first_number (after_login (decode b) u p []) → i ≡ user_slot (decode b) u → SlotWithin b i
  sender_slot_within f e = registered_slot_within w u (login-passed (decode b) u p [] (sym f)) e

  -- the sender's slot, and the other user's
  pub slots-within : (v : ℕ) → 0 ≡ first_number (user_rows (decode b) u p v []) → i ≡ user_slot (decode b) u → {j : ℕ} → j ≡ user_slot (decode b) v
      → SlotWithin b i × SlotWithin b j
  slots-within v f e q =
      let there = user-passed (decode b) u p v (sym f) in
      (registered_slot_within w u there.0 e, registered_slot_within w v there.1 q)

  pub post-place-within : (kind n : ℕ) → 0 ≡ first_number (post_rows (decode b) kind u p n) → i ≡ post_place (decode b) n
      → PlaceWithin i (length (decode b).posts) post_limit
  post-place-within kind n f e = place-within e (post-below (decode b) n (post-passed (decode b) u p kind n (sym f))) (posts-limit w)

  pub pending-place-within : (kind v : ℕ) → 0 ≡ first_number (pending_rows (decode b) kind u p v []) → i ≡ pending_place (decode b) v
      → PlaceWithin i (length (decode b).pending) pending_limit
  pending-place-within kind v f e =
      place-within e (pending-below (decode b) v (pending-passed (decode b) u p kind v (sym f))) (pending-limit w)
