-- The rules of a state one by one, in the form in which the proof that a step keeps them uses them (`rules_of`, `keeps-rules`).
use Prim.Native.Nat.{ℕ, ◌^◌, ◌<◌}
use native.Mathlib.Omega.{arith}
use mathlib.Core.Path.{◌≡◌, refl, sym, ap, ◌∙◌}
use mathlib.Core.List.{List, [], ◌∷◌}
use mathlib.Core.Bool.{Bool, true, false, not, ◌&&◌, ◌||◌}
use lib.ListN.{length, get_or}
use lib.Dec.{eqb, leb, ltb, lit<}
use borrow.Author.Tests.{eqb-true, eq-eqb, ne_eqb, ltb-true, lt-ltb, not-true}
use borrow.Table.Steps.{cases}
use Rattle.layout.specs.Bits.{bit_at, has_bit}
use Rattle.layout.proofs.BooleanLaws.{and_left, and_right, and_both}
use Rattle.model.specs.Lists.{for_all, all_true, all_below, contains, distinct}
use Rattle.model.specs.State.{User, Post, State, user_limit, user_numbers, post_numbers, pending_numbers, no_user, user_at, note_at}
use Rattle.model.specs.Soundness.{numbers_not_zero, numbers_distinct, pending_not_registered, friends_symmetric, no_own_bit, bits_below_count, notes_requested, owners_registered, visibility_valid, friends_not_requested, state_clauses}
use Rattle.model.proofs.StateRules.{nothing_without_users, keeps_rules}
use Rattle.model.proofs.ListLaws.{all_at, all_by, true_at, below_at, below_by, length_nil}
use Rattle.model.proofs.BoardTheorems.{FittingState}

-- a state that a sound board encodes: it fits the board and keeps the rules
pub record ValidState (s : State) : Type 0 where
  pub fits : FittingState s
  pub keeps : keeps_rules s ≡ true

pub record Rules (s : State) : Type 0 where
  pub nothing_else : nothing_without_users s ≡ true
  pub users_not_zero : for_all (ltb 0) (user_numbers s) ≡ true
  pub posts_not_zero : for_all (ltb 0) (post_numbers s) ≡ true
  pub pending_not_zero : for_all (ltb 0) (pending_numbers s) ≡ true
  pub users-distinct : distinct (user_numbers s) ≡ true
  pub posts-distinct : distinct (post_numbers s) ≡ true
  pub pending-distinct : distinct (pending_numbers s) ≡ true
  pub pending-unregistered : for_all (λ (x : ℕ). not (contains x (user_numbers s))) (pending_numbers s) ≡ true
  pub symmetric : (i j : ℕ) → i < length s.users → j < length s.users → bit_at (user_at s i).friends j ≡ bit_at (user_at s j).friends i
  pub not_own-friend : (i : ℕ) → i < length s.users → has_bit (user_at s i).friends i ≡ false
  pub not_own-request : (i : ℕ) → i < length s.users → has_bit (user_at s i).requests i ≡ false
  pub friends-below : (i : ℕ) → i < length s.users → (user_at s i).friends < 2 ^ length s.users
  pub requests-below : (i : ℕ) → i < length s.users → (user_at s i).requests < 2 ^ length s.users
  pub unrequested_empty : (i j : ℕ) → i < user_limit → j < user_limit → has_bit (user_at s i).requests j ≡ false → note_at s i j ≡ []
  pub owners : for_all (λ (p : Post). ltb p.owner (length s.users)) s.posts ≡ true
  pub visibilities : for_all (λ (p : Post). leb p.visibility 1) s.posts ≡ true
  pub apart : (i j : ℕ) → i < length s.users → j < user_limit → (has_bit (user_at s i).friends j && has_bit (user_at s i).requests j) ≡ false

-- where there are users, nothing need be empty
pub with_users_lem : (s : State) → 0 < length s.users → nothing_without_users s ≡ true
unfolding nothing_without_users
with_users_lem s h =
    let others : Bool = all_true (eqb (length s.posts) 0 ∷ eqb (length s.pending) 0 ∷ for_all (λ note. eqb (length note) 0) s.notes ∷ []) in
    ap (λ (t : Bool). not t || others) (ne_eqb (length s.users) 0 (λ e. omega arith))

module _ (s : State) where
  -- the tests of the clauses that go over pairs of slots, over slots, and over users
  symmetric_test : ℕ → ℕ → Bool
  symmetric_test i j = eqb (bit_at (user_at s i).friends j) (bit_at (user_at s j).friends i)

  own_test : ℕ → Bool
  own_test i = not (has_bit (user_at s i).friends i) && not (has_bit (user_at s i).requests i)

  below_test : User → Bool
  below_test u = ltb u.friends (2 ^ length s.users) && ltb u.requests (2 ^ length s.users)

  note_test : ℕ → ℕ → Bool
  note_test i j = has_bit (user_at s i).requests j || eqb (length (note_at s i j)) 0

  apart_test : User → ℕ → Bool
  apart_test u j = not (has_bit u.friends j && has_bit u.requests j)

  pub rules_of : keeps_rules s ≡ true → Rules s
  unfolding keeps_rules numbers_not_zero numbers_distinct pending_not_registered friends_symmetric no_own_bit bits_below_count notes_requested owners_registered visibility_valid friends_not_requested user_at note_at symmetric_test own_test below_test note_test apart_test
  rules_of e =
      let n : ℕ = length s.users in
      let rule : (i : ℕ) → i < 11 → get_or (nothing_without_users ∷ state_clauses) i nothing_without_users s ≡ true = λ i h.
      all_at (λ (r : State → Bool). r s) (nothing_without_users ∷ state_clauses) i nothing_without_users e h
      in
      let not_zero : List Bool = for_all (ltb 0) (user_numbers s) ∷ for_all (ltb 0) (post_numbers s) ∷ for_all (ltb 0) (pending_numbers s) ∷ [] in
      let differ : List Bool = distinct (user_numbers s) ∷ distinct (post_numbers s) ∷ distinct (pending_numbers s) ∷ [] in
      let own : (i : ℕ) → i < n → own_test i ≡ true = below_at n own_test (rule 5 (lit< tt)) in
      let below : (i : ℕ) → i < n → below_test (user_at s i) ≡ true = λ i h. all_at below_test s.users i no_user (rule 6 (lit< tt)) h in
      record {
        nothing_else = rule 0 (lit< tt);
        users_not_zero = true_at not_zero 0 (rule 1 (lit< tt)) (lit< tt);
        posts_not_zero = true_at not_zero 1 (rule 1 (lit< tt)) (lit< tt);
        pending_not_zero = true_at not_zero 2 (rule 1 (lit< tt)) (lit< tt);
        users-distinct = true_at differ 0 (rule 2 (lit< tt)) (lit< tt);
        posts-distinct = true_at differ 1 (rule 2 (lit< tt)) (lit< tt);
        pending-distinct = true_at differ 2 (rule 2 (lit< tt)) (lit< tt);
        pending-unregistered = rule 3 (lit< tt);
        symmetric = λ i j h l.
            eqb-true (bit_at (user_at s i).friends j) (bit_at (user_at s j).friends i)
            (below_at n (symmetric_test i) (below_at n (λ (k : ℕ). all_below n (symmetric_test k)) (rule 4 (lit< tt)) i h) j l);
        not_own-friend = λ i h.
            not-true (has_bit (user_at s i).friends i)
            (and_left (not (has_bit (user_at s i).friends i)) (not (has_bit (user_at s i).requests i)) (own i h));
        not_own-request = λ i h.
            not-true (has_bit (user_at s i).requests i)
            (and_right (not (has_bit (user_at s i).friends i)) (not (has_bit (user_at s i).requests i)) (own i h));
        friends-below = λ i h.
            ltb-true (user_at s i).friends (2 ^ n) (and_left (ltb (user_at s i).friends (2 ^ n)) (ltb (user_at s i).requests (2 ^ n)) (below i h));
        requests-below = λ i h.
            ltb-true (user_at s i).requests (2 ^ n) (and_right (ltb (user_at s i).friends (2 ^ n)) (ltb (user_at s i).requests (2 ^ n)) (below i h));
        unrequested_empty = λ i j h l f.
            length_nil (note_at s i j) (eqb-true (length (note_at s i j)) 0
            (sym (ap (λ (t : Bool). t || eqb (length (note_at s i j)) 0) f)
            ∙ below_at user_limit (note_test i) (below_at user_limit (λ (k : ℕ). all_below user_limit (note_test k)) (rule 7 (lit< tt)) i h) j l));
        owners = rule 8 (lit< tt);
        visibilities = rule 9 (lit< tt);
        apart = λ i j h l.
            not-true (has_bit (user_at s i).friends j && has_bit (user_at s i).requests j)
            (below_at user_limit (apart_test (user_at s i)) (all_at (λ (u : User). all_below user_limit (apart_test u)) s.users i no_user (rule 10 (lit< tt)) h) j l);
      }

  pub keeps-rules : Rules s → keeps_rules s ≡ true
  unfolding keeps_rules for_all all_true numbers_not_zero numbers_distinct pending_not_registered friends_symmetric no_own_bit bits_below_count notes_requested owners_registered visibility_valid friends_not_requested user_at note_at symmetric_test own_test below_test note_test apart_test
  keeps-rules r =
      let n : ℕ = length s.users in
      and_both r.nothing_else
      (and_both (and_both r.users_not_zero (and_both r.posts_not_zero (and_both r.pending_not_zero refl)))
      (and_both (and_both r.users-distinct (and_both r.posts-distinct (and_both r.pending-distinct refl)))
      (and_both r.pending-unregistered
      (and_both (below_by n (λ (i : ℕ). all_below n (symmetric_test i)) (λ i h. below_by n (symmetric_test i) (λ j l.
      eq-eqb (bit_at (user_at s i).friends j) (bit_at (user_at s j).friends i) (r.symmetric i j h l))))
      (and_both (below_by n own_test (λ i h. and_both (ap not (r.not_own-friend i h)) (ap not (r.not_own-request i h))))
      (and_both (all_by below_test s.users no_user (λ i h.
      and_both (lt-ltb (user_at s i).friends (2 ^ n) (r.friends-below i h)) (lt-ltb (user_at s i).requests (2 ^ n) (r.requests-below i h))))
      (and_both (below_by user_limit (λ (i : ℕ). all_below user_limit (note_test i)) (λ i h. below_by user_limit (note_test i) (requested i h)))
      (and_both r.owners
      (and_both r.visibilities
      (and_both (all_by (λ (u : User). all_below user_limit (apart_test u)) s.users no_user (λ i h.
      below_by user_limit (apart_test (user_at s i)) (λ j l. ap not (r.apart i j h l)))) refl))))))))))
    where
      requested : (i : ℕ) → i < user_limit → (j : ℕ) → j < user_limit → note_test i j ≡ true
      requested i h j l =
          cases (has_bit (user_at s i).requests j)
          (λ e. ap (λ (t : Bool). t || eqb (length (note_at s i j)) 0) e)
          (λ e. ap (λ (t : Bool). t || eqb (length (note_at s i j)) 0) e ∙ ap (λ (x : List ℕ). eqb (length x) 0) (r.unrequested_empty i j h l e))
