-- CoSMed's safety properties (the CoSMed paper, section 5.1) on every valid state: that of any sound board (`valid-board` of
-- StepTheorems), so each state that a journal leads to from the empty board (`reached_valid` of Invariant):
--     owner-registered       1. the owner of an existing post is an existing user
--     friendship_symmetric   2. friendship is symmetric
--     friends-distinct, requests-distinct   3. the lists of friends and of friend requests contain no duplicates
--     requested_not_friends  4. with a pending request between two, they are not friends
use Prim.Native.Nat.{ℕ, zero, suc, ◌^◌, ◌≤◌, ◌<◌}
use native.Mathlib.Nat.{le_of_lt, le_refl}
use native.Mathlib.Omega.{arith}
use mathlib.Core.Path.{◌≡◌, refl, sym, ap, ◌∙◌}
use mathlib.Core.List.{List, [], ◌∷◌, ◌++◌, map, map-append, append-nil}
use mathlib.Core.Bool.{Bool, true, false, cond, ◌&&◌, and-true, true≢false}
use lib.ListN.{length, get_or, length-map, get_or-map}
use lib.Dec.{eqb, ltb}
use borrow.Table.Steps.{cases}
use borrow.Author.Tests.{ltb-true, ltb-false}
use Rattle.layout.specs.Search.{index_of}
use Rattle.layout.specs.Bits.{has_bit, set_places}
use Rattle.layout.proofs.BooleanLaws.{apply_cond}
use Rattle.layout.proofs.BitLaws.{has_beyond, has_below}
use Rattle.model.specs.Lists.{contains, distinct}
use Rattle.model.specs.State.{User, Post, State, user_limit, no_user, no_post, user_numbers, user_at, post_at}
use Rattle.model.specs.Lookups.{is_registered, is_post, user_slot, post_place, user_numbered, post_numbered, are_friends, has_requested, owner_of}
use Rattle.model.specs.Answers.{users_in}
use Rattle.model.proofs.ListLaws.{all_at, contained_at, absent_add, distinct_places, distinct_add}
use Rattle.model.proofs.RecordTheorems.{user_codec}
use Rattle.model.proofs.TableRecordLaws.{fits_count}
use Rattle.model.proofs.RuleLaws.{ValidState, Rules, rules_of}
use Rattle.model.proofs.AcceptedLaws.{post-below}
use Rattle.model.proofs.Invariant.{all_friends-below, all_requests-below, all_symmetric, all_apart}

-- ---- 1. owners

-- the number of the user in a used slot is registered
slot_registered : (s : State) (i : ℕ) → i < length s.users → is_registered s (user_at s i).number ≡ true
unfolding is_registered user_numbers user_at
slot_registered s i h =
    let ns : List ℕ = map (λ (u : User). u.number) s.users in
    ap (λ (x : ℕ). contains x ns) (sym (get_or-map (λ (u : User). u.number) s.users i no_user)) ∙ contained_at ns i (rw length-map h)

-- the slot of an owner is used
pub owner-below : (s : State) → ValidState s → (n : ℕ) → is_post s n ≡ true → (post_numbered s n).owner < length s.users
unfolding post_numbered post_at
owner-below s valid n e =
    ltb-true (get_or s.posts (post_place s n) no_post).owner (length s.users)
    (all_at (λ (p : Post). ltb p.owner (length s.users)) s.posts (post_place s n) no_post (rules_of s valid.keeps).owners
    (post-below s n e))

pub owner-registered : (s : State) → ValidState s → (n : ℕ) → is_post s n ≡ true → is_registered s (owner_of s (post_numbered s n)).number ≡ true
unfolding owner_of
owner-registered s valid n e = slot_registered s (post_numbered s n).owner (owner-below s valid n e)

-- ---- 2. friendship, whoever the two are

pub friendship_symmetric : (s : State) → ValidState s → (u v : ℕ) → are_friends s u v ≡ are_friends s v u
unfolding are_friends user_numbered has_bit
friendship_symmetric s valid u v = ap (λ (b : ℕ). eqb b 1) (all_symmetric s (rules_of s valid.keeps) (user_slot s u) (user_slot s v))

-- ---- 3. lists without duplicates

module _ (xs : List ℕ) (d : distinct xs ≡ true) (row : ℕ) (b : row < 2 ^ length xs) where
  at_places : ℕ → List ℕ
  at_places k = map (λ (j : ℕ). get_or xs j 0) (set_places row k)

  -- at_places grows by one number or none
  places_grow : (k : ℕ) → at_places (suc k) ≡ at_places k ++ cond (has_bit row k) (get_or xs k 0 ∷ []) []
  unfolding at_places set_places
  places_grow k =
      map-append (λ (j : ℕ). get_or xs j 0) (set_places row k) (cond (has_bit row k) (k ∷ []) [])
      ∙ ap (λ (l : List ℕ). at_places k ++ l) (apply_cond (map (λ (j : ℕ). get_or xs j 0)) (has_bit row k) (k ∷ []) [])

  places_absent : (j : ℕ) → j < length xs → (k : ℕ) → k ≤ j → contains (get_or xs j 0) (at_places k) ≡ false
  unfolding at_places set_places contains index_of
  places_absent j l zero h = refl
  places_absent j l (suc k) h = ap (contains (get_or xs j 0)) (places_grow k) ∙ by_bit (has_bit row k) (places_absent j l k (le_of_lt h))
    where
      by_bit : (t : Bool) → contains (get_or xs j 0) (at_places k) ≡ false
          → contains (get_or xs j 0) (at_places k ++ cond t (get_or xs k 0 ∷ []) []) ≡ false
      by_bit true a = absent_add (get_or xs j 0) (at_places k) (get_or xs k 0) a (distinct_places xs d k j h l)
      by_bit false a = ap (contains (get_or xs j 0)) (append-nil (at_places k)) ∙ a

  -- a set bit is below the length
  bit-place : (k : ℕ) → has_bit row k ≡ true → k < length xs
  bit-place k q = cases (ltb k (length xs)) (λ e. ltb-true k (length xs) e)
      (λ e. absurd (true≢false (sym q ∙ has_beyond row (length xs) k b (ltb-false k (length xs) e))))

  places_distinct : (k : ℕ) → distinct (at_places k) ≡ true
  unfolding at_places set_places distinct
  places_distinct zero = refl
  places_distinct (suc k) = ap distinct (places_grow k) ∙ by_bit (has_bit row k) refl (places_distinct k)
    where
      by_bit : (t : Bool) → has_bit row k ≡ t → distinct (at_places k) ≡ true → distinct (at_places k ++ cond t (get_or xs k 0 ∷ []) []) ≡ true
      by_bit true q e = distinct_add (at_places k) (get_or xs k 0) e (places_absent k (bit-place k q) k (le_refl k))
      by_bit false q e = ap distinct (append-nil (at_places k)) ∙ e

-- the users in a row of bits below the number of users
users-distinct : (s : State) → Rules s → (row : ℕ) → row < 2 ^ length s.users → distinct (users_in s row) ≡ true
unfolding users_in user_at user_numbers at_places
users-distinct s rules row b =
    let ns : List ℕ = map (λ (u : User). u.number) s.users in
    ap (λ (f : ℕ → ℕ). distinct (map f (set_places row user_limit))) (λ i j. sym (get_or-map (λ (u : User). u.number) s.users j no_user) i)
    ∙ places_distinct ns rules.users-distinct row (rw length-map b) user_limit

-- as 0605 and 0606 list them, and as 0604 does
pub friends-distinct : (s : State) → ValidState s → (u : ℕ) → distinct (users_in s (user_numbered s u).friends) ≡ true
unfolding user_numbered
friends-distinct s valid u =
    let rules = rules_of s valid.keeps in users-distinct s rules (user_at s (user_slot s u)).friends (all_friends-below s rules (user_slot s u))

pub requests-distinct : (s : State) → ValidState s → (u : ℕ) → distinct (users_in s (user_numbered s u).requests) ≡ true
unfolding user_numbered
requests-distinct s valid u =
    let rules = rules_of s valid.keeps in users-distinct s rules (user_at s (user_slot s u)).requests (all_requests-below s rules (user_slot s u))

-- ---- 4. requests and friendship exclude each other; so for 0205 "refusal 11 is never met" (document 02, change 2)

pub requested_not_friends : (s : State) → ValidState s → (u v : ℕ) → has_requested s v u ≡ true → are_friends s u v ≡ false
unfolding are_friends has_requested user_numbered
requested_not_friends s valid u v e =
    let rules = rules_of s valid.keeps in
    let i : ℕ = user_slot s u in
    let j : ℕ = user_slot s v in
    let friends : Bool = has_bit (user_at s i).friends j in
    let there : j < length s.users = has_below (user_at s i).requests (length s.users) j (all_requests-below s rules i) e in
    sym (and-true friends) ∙ ap (λ (t : Bool). friends && t) (sym e)
    ∙ all_apart s rules i j (omega (arith, fits_count user_codec user_limit s.users valid.fits.users))
