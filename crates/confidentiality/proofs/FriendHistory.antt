-- What the history says of friendship and of requests is what the state says (`friends_agree_empty`, `friends_agree_next`), and a friendship
-- comes from a request that was accepted and has not been ended since (`friends-traced-empty`, `friends-traced-next`). In between: what an
-- accepted message of each kind does to the rows of bits (`FriendEffect`).
use Prim.Native.Nat.{ℕ, ◌^◌, ◌<◌}
use native.Mathlib.Omega.{arith}
use mathlib.Core.Path.{◌≡◌, refl, sym, ap, ap₂, ◌∙◌}
use mathlib.Core.Logic.{◌⊎◌, inl, inr}
use mathlib.Core.List.{List, [], ◌∷◌, ◌++◌, map, map-append}
use mathlib.Core.Bool.{Bool, true, false, not, cond, ◌&&◌, ◌||◌, and_comm, false≢true}
use mathlib.Core.Option.{none}
use lib.ListN.{length, get_or, length-set, length-map, get_or-eq_default}
use lib.Dec.{eqb, leb}
use borrow.Author.Tests.{eqb-true, eq-eqb, not-false}
use Rattle.layout.specs.Search.{index_of}
use Rattle.layout.specs.Bits.{bit_at, has_bit, set_bit, clear_bit}
use Rattle.layout.proofs.BooleanLaws.{and_left, and_right, and_both, or_neither}
use Rattle.layout.proofs.BitLaws.{has_beyond}
use Rattle.reader.specs.Fields.{FieldValue}
use Rattle.reader.specs.Kinds.{kinds}
use Rattle.reader.specs.Messages.{Content, content, message_content}
use Rattle.model.specs.Lists.{for_all, contains}
use Rattle.model.specs.State.{User, State, user_limit, no_user, user_numbers, user_at, empty_state}
use Rattle.model.specs.StateUpdates.{with_password, with_friends, with_requests, with_name, with_info}
use Rattle.model.specs.Lookups.{is_registered, user_slot, user_numbered, are_friends, has_requested}
use Rattle.model.specs.Actions.{c_friend_req, c_friend, d_friend, u_user, Action, number_arg, string_arg, action_named}
use Rattle.model.specs.Refusals.{first_cause, change_refusals, after_login, user_rows}
use Rattle.model.specs.Changes.{update_user, set_note, write_request, write_friend, add_user, update_post, add_request, remove_request, add_friends, remove_friends, remove_requests, accept_request, apply_change}
use Rattle.model.specs.Step.{step_state}
use Rattle.model.proofs.RecordTheorems.{user_codec}
use Rattle.model.proofs.TableRecordLaws.{fits_count}
use Rattle.model.proofs.ListLaws.{SamePlace, place_added, at_same-place, field_add}
use Rattle.model.proofs.AcceptedLaws.{none_applies, slot_below, slot_test}
use Rattle.model.proofs.RowInvariant.{BitWrite, set_writes, clear_writes, field-kept, numbers-kept, bits-written, request-numbers, friend-numbers, request-removed-kept, requests-removed-numbers, requests-removed-kept}
use Rattle.model.proofs.RuleLaws.{ValidState, rules_of}
use Rattle.model.proofs.Invariant.{all_friends-below, all_requests-below}
use Rattle.confidentiality.specs.Traces.{is_accepted}
use Rattle.confidentiality.specs.History.{History, is_kind, user_field, target_field, is_between, befriended}
use Rattle.confidentiality.specs.Accountability.{is_from_to, FriendshipTraced}
use Rattle.confidentiality.proofs.Alignment.{next_history}
use Rattle.confidentiality.proofs.HistoryLaws.{Occurs, occurs_now, occurs_before}
use Rattle.confidentiality.proofs.KindCases.{ForKinds, ◌also◌}
use Rattle.confidentiality.proofs.AcceptedKinds.{AfterAccepted, after_change, queries, query-kind, by_accepted, after_step}

-- v has requested u: a 0204 of v to u, and no 0205 between the two since
unfoldable pub requested : ℕ → ℕ → History → Bool
requested v u [] = false
requested v u (m ∷ h) = cond (is_from_to 0x0204 v u m) true (cond (is_between 0x0205 u v m) false (requested v u h))

-- ---- rows that stay, while users may be added

-- each number has the slot in t that it has in s, or in both one behind the used slots of s, which has the rows of `no_user` and no bit in a row
abbrev SameSlots : State → State → Type 0
SameSlots s t = (x : ℕ) → SamePlace (length s.users) (user_slot t x) (user_slot s x)

abbrev SameRows : (User → ℕ) → State → State → Type 0
SameRows row s t = (i : ℕ) → row (user_at t i) ≡ row (user_at s i)

module _ (s t : State) (valid : ValidState s) (slots : SameSlots s t) where
  bits-kept : (row : User → ℕ) → ((i : ℕ) → row (user_at s i) < 2 ^ length s.users) → SameRows row s t
      → (x y : ℕ) → has_bit (row (user_at t (user_slot t x))) (user_slot t y) ≡ has_bit (row (user_at s (user_slot s x))) (user_slot s y)
  unfolding user_at
  bits-kept row below rows x y =
      let n : ℕ = length s.users in
      let kept : ℕ = row (user_at s (user_slot s x)) in
      ap (λ (z : ℕ). has_bit z (user_slot t y))
      (rows (user_slot t x)
      ∙ ap row (at_same-place (user_at s) no_user n (λ i h. get_or-eq_default s.users no_user h) (user_slot t x) (user_slot s x) (slots x)))
      ∙ at_same-place (has_bit kept) false n (λ i h. has_beyond kept n i (below (user_slot s x)) h) (user_slot t y) (user_slot s y) (slots y)

  friends-kept : SameRows (λ u. u.friends) s t → (a b : ℕ) → are_friends t a b ≡ are_friends s a b
  unfolding are_friends user_numbered
  friends-kept rows a b = bits-kept (λ u. u.friends) (all_friends-below s (rules_of s valid.keeps)) rows a b

  requests-kept : SameRows (λ u. u.requests) s t → (v u : ℕ) → has_requested t v u ≡ has_requested s v u
  unfolding has_requested user_numbered
  requests-kept rows v u = bits-kept (λ a. a.requests) (all_requests-below s (rules_of s valid.keeps)) rows u v

-- users of the same numbers
same-slots : (s t : State) → user_numbers t ≡ user_numbers s → SameSlots s t
unfolding user_slot
same-slots s t e x = inl (ap (index_of x) e)

module _ (s : State) (valid : ValidState s) where
  -- writing requests keeps friendships, and the other way round
  requests_keep_friends : (f : ℕ → ℕ → ℕ) (i j : ℕ) (note : List ℕ) (a b : ℕ)
      → are_friends (set_note (write_request f s i j) i j note) a b ≡ are_friends s a b
  unfolding set_note user_numbers user_at
  requests_keep_friends f i j note a b =
      let g : User → User = λ (y : User). with_requests y (f y.requests j) in
      let t : State = set_note (write_request f s i j) i j note in
      friends-kept s t valid (same-slots s t (request-numbers f s i j)) (field-kept s i g (λ y. y.friends) (λ y. refl)) a b

  friends_keep_requests : (f : ℕ → ℕ → ℕ) (i j : ℕ) (v u : ℕ) → has_requested (write_friend f (write_friend f s i j) j i) v u ≡ has_requested s v u
  friends_keep_requests f i j v u =
      let g : ℕ → User → User = λ (k : ℕ) (y : User). with_friends y (f y.friends k) in
      let s₁ : State = write_friend f s i j in
      let t : State = write_friend f s₁ j i in
      requests-kept s t valid (same-slots s t (friend-numbers f s i j))
      (λ k. field-kept s₁ j (g i) (λ y. y.requests) (λ y. refl) k ∙ field-kept s i (g j) (λ y. y.requests) (λ y. refl) k) v u

-- ---- a bit written

-- two tests that give the same value are one
either : (p q x y : Bool) → cond q x (cond p x y) ≡ cond (p || q) x y
either true true x y = refl
either true false x y = refl
either false q x y = refl

module _ {f : ℕ → ℕ → ℕ} {value : ℕ} (w : BitWrite f value) (s : State) (valid : ValidState s) (u v : ℕ) (ru : is_registered s u ≡ true)
    (rv : is_registered s v ≡ true) where
  abbrev own_slot : ℕ
  own_slot = user_slot s u

  abbrev other_slot : ℕ
  other_slot = user_slot s v

  -- a slot fits in a row
  slot_lt : (x : ℕ) → is_registered s x ≡ true → user_slot s x < 32
  slot_lt x r = omega (arith, slot_below s x r, fits_count user_codec user_limit s.users valid.fits.users)

  -- the request of v to u
  requests-written : (note : List ℕ) (a b : ℕ) → has_requested (set_note (write_request f s own_slot other_slot) own_slot other_slot note) a b
      ≡ cond (eqb u b && eqb v a) (eqb value 1) (has_requested s a b)
  unfolding has_requested user_numbered user_at set_note update_user user_numbers user_slot
  requests-written note a b =
      let t : State = write_request f s own_slot other_slot in
      ap (λ (ns : List ℕ). has_bit (user_at t (index_of b ns)).requests (index_of a ns)) (request-numbers f s own_slot other_slot)
      ∙ bits-written w s own_slot other_slot (λ (y : User). with_requests y (f y.requests other_slot)) (λ y. y.requests) (slot_below s u ru)
      (slot_lt v rv) (λ y. refl) (user_slot s b) (user_slot s a)
      ∙ ap₂ (λ (p q : Bool). cond (p && q) (eqb value 1) (has_bit (user_at s (user_slot s b)).requests (user_slot s a)))
      (slot_test s u b ru) (slot_test s v a rv)

  -- the friendship of u and v, on both sides
  friends-written : (a b : ℕ) → are_friends (write_friend f (write_friend f s own_slot other_slot) other_slot own_slot) a b
      ≡ cond (eqb u a && eqb v b || eqb u b && eqb v a) (eqb value 1) (are_friends s a b)
  unfolding are_friends user_numbered update_user user_slot
  friends-written a b =
      let x : Bool = eqb value 1 in
      let g : ℕ → User → User = λ (slot : ℕ) (y : User). with_friends y (f y.friends slot) in
      let s₁ : State = write_friend f s own_slot other_slot in
      let t : State = write_friend f s₁ other_slot own_slot in
      let k : ℕ = user_slot s a in
      let m : ℕ = user_slot s b in
      let old : Bool = are_friends s a b in
      ap (λ (ns : List ℕ). has_bit (user_at t (index_of a ns)).friends (index_of b ns)) (friend-numbers f s own_slot other_slot)
      ∙ bits-written w s₁ other_slot own_slot (g own_slot) (λ y. y.friends) (rw length-set (slot_below s v rv)) (slot_lt u ru) (λ y. refl) k m
      ∙ ap (cond (eqb k other_slot && eqb m own_slot) x)
      (bits-written w s own_slot other_slot (g other_slot) (λ y. y.friends) (slot_below s u ru) (slot_lt v rv) (λ y. refl) k m)
      ∙ ap₂ (λ (p q : Bool). cond (p && q) x (cond (eqb k own_slot && eqb m other_slot) x old)) (slot_test s v a rv) (slot_test s u b ru)
      ∙ ap₂ (λ (p q : Bool). cond (eqb v a && eqb u b) x (cond (p && q) x old)) (slot_test s u a ru) (slot_test s v b rv)
      ∙ ap (λ (p : Bool). cond p x (cond (eqb u a && eqb v b) x old)) (and_comm (eqb v a) (eqb u b))
      ∙ either (eqb u a && eqb v b) (eqb u b && eqb v a) x old

-- the requests of u and v to each other removed
module _ (s : State) (valid : ValidState s) (u v : ℕ) (ru : is_registered s u ≡ true) (rv : is_registered s v ≡ true) where
  -- the first of the two removed
  abbrev once : State
  once = remove_request s (user_slot s u) (user_slot s v)

  once-valid : ValidState once
  once-valid = request-removed-kept s valid (user_slot s u) (user_slot s v) (slot_below s u ru) (slot_below s v rv)

  removed_keep_friends : (a b : ℕ) → are_friends (remove_requests s (user_slot s u) (user_slot s v)) a b ≡ are_friends s a b
  unfolding remove_requests remove_request
  removed_keep_friends a b =
      requests_keep_friends once once-valid clear_bit (user_slot s v) (user_slot s u) [] a b
      ∙ requests_keep_friends s valid clear_bit (user_slot s u) (user_slot s v) [] a b

  requested_after_removal : (a b : ℕ) → has_requested (remove_requests s (user_slot s u) (user_slot s v)) a b
      ≡ cond (eqb u b && eqb v a || eqb u a && eqb v b) false (has_requested s a b)
  unfolding remove_requests remove_request is_registered user_slot user_numbers set_note
  requested_after_removal a b =
      let numbers : user_numbers once ≡ user_numbers s = request-numbers clear_bit s (user_slot s u) (user_slot s v) in
      ap (λ (ns : List ℕ). has_requested (remove_request once (index_of v ns) (index_of u ns)) a b) (sym numbers)
      ∙ requests-written clear_writes once once-valid v u (ap (contains v) numbers ∙ rv) (ap (contains u) numbers ∙ ru) [] a b
      ∙ ap₂ (λ (t x : Bool). cond t false x) (and_comm (eqb v b) (eqb u a)) (requests-written clear_writes s valid u v ru rv [] a b)
      ∙ either (eqb u b && eqb v a) (eqb u a && eqb v b) false (has_requested s a b)

-- ---- what an accepted message does

-- what the step from s to t says of friendship and of requests, where c is the accepted message: as `befriended` and `requested` do
record FriendEffect (c : Content) (s t : State) : Type 0 where
  friends_after : (a b : ℕ) → are_friends t a b ≡ cond (is_between 0x0205 a b c) true (cond (is_between 0x0301 a b c) false (are_friends s a b))
  requested_after : (v u : ℕ)
      → has_requested t v u ≡ cond (is_from_to 0x0204 v u c) true (cond (is_between 0x0205 u v c) false (has_requested s v u))
  -- only a request is accepted
  request-before : is_kind 0x0205 c ≡ true → has_requested s (target_field c) (user_field c) ≡ true

-- 0204, 0205 and 0301 speak of friendship
abbrev about_friends : Content → Bool
about_friends c = is_kind 0x0204 c || (is_kind 0x0205 c || is_kind 0x0301 c)

module _ (s : State) (valid : ValidState s) where
  -- the other kinds keep the rows
  no_effect : {c : Content} {t : State} → about_friends c ≡ false → SameSlots s t → SameRows (λ u. u.friends) s t → SameRows (λ u. u.requests) s t
      → FriendEffect c s t
  unfolding is_between is_from_to
  no_effect {c} {t} e slots friends requests =
      let first = or_neither (is_kind 0x0204 c) (is_kind 0x0205 c || is_kind 0x0301 c) e in
      let later = or_neither (is_kind 0x0205 c) (is_kind 0x0301 c) first.1 in
      record {
        friends_after = λ a b. rw (later.0, later.1) (friends-kept s t valid slots friends a b);
        requested_after = λ v u. rw (first.0, later.0) (requests-kept s t valid slots requests v u);
        request-before = λ q. absurd (false≢true (sym later.0 ∙ q));
      }

  same-users : {c : Content} {t : State} → about_friends c ≡ false → t.users ≡ s.users → FriendEffect c s t
  unfolding user_numbers user_at
  same-users {c} {t} e q =
      no_effect e (same-slots s t (ap (map (λ (u : User). u.number)) q))
      (λ i. ap (λ (us : List User). (get_or us i no_user).friends) q)
      (λ i. ap (λ (us : List User). (get_or us i no_user).requests) q)

  user_added_lem : {c : Content} {t : State} (y : User) → about_friends c ≡ false → t.users ≡ s.users ++ (y ∷ []) → y.friends ≡ 0 → y.requests ≡ 0
      → FriendEffect c s t
  unfolding user_numbers user_at user_slot
  user_added_lem {c} {t} y e q f r =
      let number : User → ℕ = λ u. u.number in
      let numbers : map number t.users ≡ map number s.users ++ (y.number ∷ []) = ap (map number) q ∙ map-append number s.users (y ∷ []) in
      no_effect e
      (λ x. rw (numbers, ← length-map s.users number) (place_added x (map number s.users) (y.number ∷ [])))
      (λ i. ap (λ (us : List User). (get_or us i no_user).friends) q ∙ field_add (λ u. u.friends) s.users y no_user f i)
      (λ i. ap (λ (us : List User). (get_or us i no_user).requests) q ∙ field_add (λ u. u.requests) s.users y no_user r i)

  module _ (vs : List FieldValue) where
    abbrev user : ℕ
    user = number_arg vs 0

    abbrev target : ℕ
    target = number_arg vs 2

    request-effect : (p : ℕ) (note : List ℕ) → first_cause (change_refusals s (c_friend_req user p target note)) ≡ none
        → FriendEffect (content 0x0204 vs) s (apply_change s (c_friend_req user p target note))
    unfolding change_refusals user_rows after_login apply_change add_request is_between is_from_to is_kind
    request-effect p note e =
        let passes = none_applies (change_refusals s (c_friend_req user p target note)) e in
        let ru = not-false (is_registered s user) (passes 0) in
        let rv = not-false (is_registered s target) (passes 2) in
        record {
          friends_after = requests_keep_friends s valid set_bit (user_slot s target) (user_slot s user) note;
          requested_after = λ a b.
              requests-written set_writes s valid target user rv ru note a b
              ∙ ap (λ (t : Bool). cond t true (has_requested s a b)) (and_comm (eqb target b) (eqb user a));
          request-before = λ q. absurd (false≢true q);
        }

    accept_effect : (p : ℕ) → first_cause (change_refusals s (c_friend user p target)) ≡ none
        → FriendEffect (content 0x0205 vs) s (apply_change s (c_friend user p target))
    unfolding change_refusals user_rows after_login apply_change accept_request add_friends is_between is_from_to is_kind is_registered user_slot
    accept_effect p e =
        let passes = none_applies (change_refusals s (c_friend user p target)) e in
        let ru = not-false (is_registered s user) (passes 0) in
        let rv = not-false (is_registered s target) (passes 2) in
        let i : ℕ = user_slot s user in
        let j : ℕ = user_slot s target in
        let t : State = remove_requests s i j in
        let kept = requests-removed-kept s valid i j (slot_below s user ru) (slot_below s target rv) in
        let numbers : user_numbers t ≡ user_numbers s = requests-removed-numbers s i j in
        record {
          friends_after = λ a b.
              ap (λ (ns : List ℕ). are_friends (add_friends t (index_of user ns) (index_of target ns)) a b) (sym numbers)
              ∙ friends-written set_writes t kept user target (ap (contains user) numbers ∙ ru) (ap (contains target) numbers ∙ rv) a b
              ∙ ap (cond (eqb user a && eqb target b || eqb user b && eqb target a) true) (removed_keep_friends s valid user target ru rv a b);
          requested_after = λ a b. friends_keep_requests t kept set_bit i j a b ∙ requested_after_removal s valid user target ru rv a b;
          request-before = λ q. not-false (has_requested s target user) (passes 3);
        }

    end_effect : (p : ℕ) → first_cause (change_refusals s (d_friend user p target)) ≡ none
        → FriendEffect (content 0x0301 vs) s (apply_change s (d_friend user p target))
    unfolding change_refusals user_rows after_login apply_change remove_friends is_between is_from_to is_kind
    end_effect p e =
        let passes = none_applies (change_refusals s (d_friend user p target)) e in
        let ru = not-false (is_registered s user) (passes 0) in
        let rv = not-false (is_registered s target) (passes 2) in
        record {
          friends_after = friends-written clear_writes s valid user target ru rv;
          requested_after = friends_keep_requests s valid clear_bit (user_slot s user) (user_slot s target);
          request-before = λ q. absurd (false≢true q);
        }

-- ---- all kinds

module _ (s : State) (valid : ValidState s) where
  abbrev Effect : Content → Action → Type 0
  Effect = AfterAccepted s (λ c t. FriendEffect c s t)

  kind_effects : ForKinds Effect kinds
  unfolding kinds action_named is_kind apply_change add_user update_post
  kind_effects =
      (λ vs. after_change (λ e. user_added_lem s valid _ refl refl refl refl)) also (λ vs. after_change (λ e. same-users s valid refl refl))
      also (λ vs. after_change (λ e. user_added_lem s valid _ refl refl refl refl)) also (λ vs. after_change (λ e. same-users s valid refl refl))
      also (λ vs. after_change (request-effect s valid vs (number_arg vs 1) (string_arg vs 3)))
      also (λ vs. after_change (accept_effect s valid vs (number_arg vs 1))) also (λ vs. after_change (end_effect s valid vs (number_arg vs 1)))
      also (λ vs. after_change (λ e. user-effect vs))
      also (λ vs. after_change (λ e. same-users s valid refl refl)) also (λ vs. after_change (λ e. same-users s valid refl refl))
      also (λ vs. after_change (λ e. same-users s valid refl refl)) also (λ vs. after_change (λ e. same-users s valid refl refl))
      also queries s (λ c t. FriendEffect c s t) read_only
    where
      user-effect : (vs : List FieldValue) → FriendEffect (content 0x0401 vs) s
          (apply_change s (u_user (number_arg vs 0) (number_arg vs 1) (number_arg vs 2) (string_arg vs 3) (string_arg vs 4)))
      user-effect vs =
          let i : ℕ = user_slot s (number_arg vs 0) in
          let g : User → User = λ (a : User). with_info (with_name (with_password a (number_arg vs 2)) (string_arg vs 3)) (string_arg vs 4) in
          no_effect s valid refl (same-slots s (update_user s i g) (numbers-kept s i g refl))
          (field-kept s i g (λ a. a.friends) (λ a. refl)) (field-kept s i g (λ a. a.requests) (λ a. refl))

      read_only : (k : ℕ) (vs : List FieldValue) → leb 0x0501 k ≡ true → FriendEffect (content k vs) s s
      read_only k vs e = same-users s valid (rw (query-kind k 0x0204 e refl, query-kind k 0x0205 e refl, query-kind k 0x0301 e refl)) refl

  accepted-effect : (m : List ℕ) → is_accepted m s ≡ true → FriendEffect (message_content m) s (step_state m s).state
  accepted-effect = by_accepted s (λ c t. FriendEffect c s t) kind_effects

-- ---- history and state agree

pub record FriendsAgree (h : History) (s : State) : Type 0 where
  pub friends-same : (a b : ℕ) → befriended a b h ≡ are_friends s a b
  pub requested-same : (v u : ℕ) → requested v u h ≡ has_requested s v u

pub friends_agree_empty : FriendsAgree [] empty_state
unfolding befriended requested are_friends has_requested user_numbered user_at user_slot user_numbers empty_state index_of has_bit bit_at
friends_agree_empty = record { friends-same = λ a b. refl; requested-same = λ v u. refl }

agree_after : (c : Content) (h : History) (s t : State) → FriendEffect c s t → FriendsAgree h s → FriendsAgree (c ∷ h) t
unfolding befriended requested
agree_after c h s t effect agree = record {
  friends-same = λ a b.
      ap (λ (x : Bool). cond (is_between 0x0205 a b c) true (cond (is_between 0x0301 a b c) false x)) (agree.friends-same a b)
      ∙ sym (effect.friends_after a b);
  requested-same = λ v u.
      ap (λ (x : Bool). cond (is_from_to 0x0204 v u c) true (cond (is_between 0x0205 u v c) false x)) (agree.requested-same v u)
      ∙ sym (effect.requested_after v u);
}

pub friends_agree_next : (m : List ℕ) (h : History) (s : State) → ValidState s → FriendsAgree h s
    → FriendsAgree (next_history is_accepted step_state m h s) (step_state m s).state
friends_agree_next m h s valid agree =
    after_step FriendsAgree m h s agree (λ e. agree_after (message_content m) h s (step_state m s).state (accepted-effect s valid m e) agree)

-- ---- where a friendship comes from

-- a request with no 0205 between the two since
abbrev RequestTraced : ℕ → ℕ → History → Type 0
RequestTraced v u h = Occurs (λ (m : Content). is_from_to 0x0204 v u m ≡ true) (λ (m : Content). not (is_between 0x0205 u v m)) h

request-traced : (v u : ℕ) (h : History) → requested v u h ≡ true → RequestTraced v u h
unfolding requested
request-traced v u [] e = absurd (false≢true e)
request-traced v u (m ∷ h) e = by_test (is_from_to 0x0204 v u m) refl (is_between 0x0205 u v m) refl e (request-traced v u h)
  where
    by_test : (p : Bool) → is_from_to 0x0204 v u m ≡ p → (q : Bool) → is_between 0x0205 u v m ≡ q → cond p true (cond q false (requested v u h)) ≡ true
        → (requested v u h ≡ true → RequestTraced v u h) → RequestTraced v u (m ∷ h)
    by_test true i q k e later = occurs_now m i
    by_test false i true k e later = absurd (false≢true e)
    by_test false i false k e later = occurs_before m (ap not k) (later e)

pub record FriendsTraced (h : History) : Type 0 where
  pub friendship_traced : (a b : ℕ) → befriended a b h ≡ true → FriendshipTraced a b h

pub friends-traced-empty : FriendsTraced []
unfolding befriended
friends-traced-empty = record { friendship_traced = λ a b e. absurd (false≢true e) }

-- a further message, which accepts only what was requested
traced_after : (c : Content) (h : History) → (is_kind 0x0205 c ≡ true → requested (target_field c) (user_field c) h ≡ true) → FriendsTraced h
    → FriendsTraced (c ∷ h)
unfolding befriended is_between is_from_to for_all
traced_after c h request-before traced = record { friendship_traced = λ a b. by_test a b (is_between 0x0205 a b c) refl (is_between 0x0301 a b c) refl }
  where
    named_two : (a b : ℕ) (p : Bool) → (eqb (user_field c) a && eqb (target_field c) b) ≡ p → (p || eqb (user_field c) b && eqb (target_field c) a) ≡ true
        → ((target_field c ≡ a) × (user_field c ≡ b)) ⊎ ((target_field c ≡ b) × (user_field c ≡ a))
    named_two a b true e q = inr (
      eqb-true (target_field c) b (and_right (eqb (user_field c) a) (eqb (target_field c) b) e),
      eqb-true (user_field c) a (and_left (eqb (user_field c) a) (eqb (target_field c) b) e),
    )
    named_two a b false e q = inl (
      eqb-true (target_field c) a (and_right (eqb (user_field c) b) (eqb (target_field c) a) q),
      eqb-true (user_field c) b (and_left (eqb (user_field c) b) (eqb (target_field c) a) q),
    )

    by_test : (a b : ℕ) (p : Bool) → is_between 0x0205 a b c ≡ p → (q : Bool) → is_between 0x0301 a b c ≡ q
        → cond p true (cond q false (befriended a b h)) ≡ true → FriendshipTraced a b (c ∷ h)
    by_test a b true i q j e =
        let u : ℕ = user_field c in
        let v : ℕ = target_field c in
        let two : Bool = eqb u a && eqb v b || eqb u b && eqb v a in
        let k = and_left (is_kind 0x0205 c) two i in
        let r = request-traced v u h (request-before k) in
        record {
          requester = v;
          accepter = u;
          since = [];
          acceptance = c;
          meanwhile = r.since;
          request = r.message;
          before = r.before;
          splits = ap (λ (l : History). c ∷ l) r.splits;
          these_two = named_two a b (eqb u a && eqb v b) refl (and_right (is_kind 0x0205 c) two i);
          is_request = r.holds;
          is_acceptance = and_both k (and_both (eq-eqb u u refl) (eq-eqb v v refl));
          unanswered = r.pass;
          not_ended = refl;
        }
    by_test a b false i true j e = absurd (false≢true e)
    by_test a b false i false j e =
        let t = traced.friendship_traced a b e in
        record {
          requester = t.requester;
          accepter = t.accepter;
          since = c ∷ t.since;
          acceptance = t.acceptance;
          meanwhile = t.meanwhile;
          request = t.request;
          before = t.before;
          splits = ap (λ (l : History). c ∷ l) t.splits;
          these_two = t.these_two;
          is_request = t.is_request;
          is_acceptance = t.is_acceptance;
          unanswered = t.unanswered;
          not_ended = and_both (ap not j) t.not_ended;
        }

pub friends-traced-next : (m : List ℕ) (h : History) (s : State) → ValidState s → FriendsAgree h s → FriendsTraced h
    → FriendsTraced (next_history is_accepted step_state m h s)
friends-traced-next m h s valid agree traced =
    let c : Content = message_content m in
    after_step (λ g t. FriendsTraced g) m h s traced (λ e.
    traced_after c h (λ k. agree.requested-same (target_field c) (user_field c) ∙ (accepted-effect s valid m e).request-before k) traced)
