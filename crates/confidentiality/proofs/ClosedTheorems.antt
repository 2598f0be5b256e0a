-- What is closed: a post is closed to a set if and only if the step lets no registered member of the set read it (`closed_unreadable`).
-- So the windows, which are read off the messages, are those in which the kernel keeps the text from the set.
use Prim.Native.Nat.{ℕ, ◌<◌}
use mathlib.Core.Path.{◌≡◌, refl, sym, ap, ap₂, ◌∙◌}
use mathlib.Core.List.{List, map}
use mathlib.Core.Bool.{Bool, true, false, not, cond, ◌&&◌, ◌||◌, true≢false, and-true, or-false, or_assoc}
use mathlib.Core.Option.{some, none}
use lib.ListN.{length, get_or, length-map, get_or-map}
use lib.Dec.{eqb}
use borrow.Table.Steps.{cases}
use Rattle.layout.specs.Search.{index_of}
use Rattle.layout.specs.Bits.{has_bit}
use Rattle.layout.proofs.BooleanLaws.{and_both}
use Rattle.model.specs.Lists.{for_all, contains}
use Rattle.model.specs.State.{User, State, no_user, user_numbers, user_at}
use Rattle.model.specs.Lookups.{is_registered, is_post, user_slot, user_numbered, post_numbered, are_friends, owner_of, is_owner, may_read}
use Rattle.model.specs.Changes.{update_post}
use Rattle.model.proofs.ListLaws.{all_at, all_by, all_both, contained_at, all_contained, distinct_index}
use Rattle.model.proofs.RuleLaws.{ValidState, Rules, rules_of}
use Rattle.model.proofs.AcceptedLaws.{slot_test}
use Rattle.model.proofs.SafetyTheorems.{owner-below}
use Rattle.confidentiality.specs.History.{History, registered, owner, befriended, is_public, owns_or_befriends, closed_to}
use Rattle.confidentiality.proofs.RedactLaws.{redact, post_redacted, reader_redacted}
use Rattle.confidentiality.proofs.PostHistory.{PostsAgree, owner_number}
use Rattle.confidentiality.proofs.FriendHistory.{FriendsAgree}

-- ---- tests of all members of a list

same_truth : (a b : Bool) → (a ≡ true → b ≡ true) → (b ≡ true → a ≡ true) → a ≡ b
same_truth true b f g = sym (f refl)
same_truth false true f g = g refl
same_truth false false f g = refl

-- two tests that say the same of the numbers that a list contains
all_same : (p q : ℕ → Bool) (xs : List ℕ) → ((x : ℕ) → contains x xs ≡ true → p x ≡ q x) → for_all p xs ≡ for_all q xs
all_same p q xs f =
    same_truth (for_all p xs) (for_all q xs) (λ e. all_by q xs 0 (λ i h. sym (f (get_or xs i 0) (contained_at xs i h)) ∙ all_at p xs i 0 e h))
    (λ e. all_by p xs 0 (λ i h. f (get_or xs i 0) (contained_at xs i h) ∙ all_at q xs i 0 e h))

-- two lists that contain the same numbers
same_members : (p : ℕ → Bool) (xs ys : List ℕ) → ((x : ℕ) → contains x xs ≡ contains x ys) → for_all p xs ≡ for_all p ys
same_members p xs ys f =
    same_truth (for_all p xs) (for_all p ys)
    (λ e. all_by p ys 0 (λ i h. all_contained p xs (get_or ys i 0) e (f (get_or ys i 0) ∙ contained_at ys i h)))
    (λ e. all_by p xs 0 (λ i h. all_contained p ys (get_or xs i 0) e (sym (f (get_or xs i 0)) ∙ contained_at xs i h)))

-- the two parts of the definition as one test of each member: near the post, or the post public
one_test : (observers near : ℕ → Bool) (public : Bool) (xs : List ℕ)
    → (for_all (λ (u : ℕ). not (observers u && near u)) xs && (not public || for_all (λ (u : ℕ). not (observers u)) xs))
    ≡ for_all (λ (u : ℕ). not (observers u && (near u || public))) xs
one_test observers near true xs =
    all_both (λ (u : ℕ). not (observers u && near u)) (λ (u : ℕ). not (observers u)) xs
    ∙ (λ i. for_all (λ (u : ℕ). by_tests (observers u) (near u) i) xs)
  where
    by_tests : (w a : Bool) → (not (w && a) && not w) ≡ not (w && (a || true))
    by_tests true true = refl
    by_tests true false = refl
    by_tests false a = refl
one_test observers near false xs =
    and-true (for_all (λ (u : ℕ). not (observers u && near u)) xs)
    ∙ (λ i. for_all (λ (u : ℕ). not (observers u && sym (or-false (near u)) i)) xs)

-- ---- the right to read

-- the user in a used slot is found there
slot_found : (s : State) → Rules s → (i : ℕ) → i < length s.users → user_slot s (user_at s i).number ≡ i
unfolding user_slot user_at user_numbers
slot_found s rules i h =
    let ns : List ℕ = map (λ (u : User). u.number) s.users in
    ap (λ (x : ℕ). index_of x ns) (sym (get_or-map (λ (u : User). u.number) s.users i no_user))
    ∙ distinct_index ns rules.users-distinct i (rw length-map h)

module _ (h : History) (s : State) (valid : ValidState s) (posts : PostsAgree h s) (friends : FriendsAgree h s) (n : ℕ) where
  abbrev owner_slot : ℕ
  owner_slot = (post_numbered s n).owner

  abbrev owner_user : ℕ
  owner_user = (owner_of s (post_numbered s n)).number

  owner_slot_lem : is_post s n ≡ true → user_slot s owner_user ≡ owner_slot
  unfolding owner_of
  owner_slot_lem e = slot_found s (rules_of s valid.keeps) owner_slot (owner-below s valid n e)

  owner_test : (u : ℕ) → is_registered s u ≡ true → is_post s n ≡ true → eqb u owner_user ≡ is_owner s u n
  unfolding is_owner
  owner_test u r e = sym (slot_test s u owner_user r) ∙ ap (λ (i : ℕ). eqb i (user_slot s u)) (owner_slot_lem e)

  friend_test : (u : ℕ) → is_post s n ≡ true → befriended u owner_user h ≡ has_bit (user_numbered s u).friends owner_slot
  unfolding are_friends
  friend_test u e = friends.friends-same u owner_user ∙ ap (has_bit (user_numbered s u).friends) (owner_slot_lem e)

  -- what the history grants a registered user, the step grants
  right_same : (u : ℕ) → is_registered s u ≡ true → (owns_or_befriends (owner n h) u h || is_public n h) ≡ (is_post s n && may_read s u n)
  unfolding owns_or_befriends owner_number may_read
  right_same u r = rw (posts.owner-same n, posts.public_same n) (by_post (is_post s n) refl)
    where
      by_post : (t : Bool) → is_post s n ≡ t
          → (owns_or_befriends (cond t (some owner_user) none) u h || (t && eqb (post_numbered s n).visibility 1)) ≡ (t && may_read s u n)
      by_post true e =
          ap₂ (λ (a b : Bool). (a || b) || eqb (post_numbered s n).visibility 1) (owner_test u r e) (friend_test u e)
          ∙ or_assoc (is_owner s u n) (has_bit (user_numbered s u).friends owner_slot) (eqb (post_numbered s n).visibility 1)
      by_post false e = refl

-- no registered member of the set may read post n
unfoldable pub unreadable : (ℕ → Bool) → ℕ → State → Bool
unreadable observers n s = for_all (λ (u : ℕ). not (observers u && (is_post s n && may_read s u n))) (user_numbers s)

pub closed_unreadable : (observers : ℕ → Bool) (n : ℕ) (h : History) (s : State) → ValidState s → PostsAgree h s → FriendsAgree h s
    → closed_to observers n h ≡ unreadable observers n s
unfolding closed_to unreadable is_registered
closed_unreadable observers n h s valid posts friends =
    let near : ℕ → Bool = λ (u : ℕ). owns_or_befriends (owner n h) u h in
    let may : ℕ → Bool = λ (u : ℕ). is_post s n && may_read s u n in
    one_test observers near (is_public n h) (registered h)
    ∙ all_same (λ (u : ℕ). not (observers u && (near u || is_public n h))) (λ (u : ℕ). not (observers u && may u)) (registered h)
    (λ u c. ap (λ (t : Bool). not (observers u && t)) (right_same h s valid posts friends n u (sym (posts.registered-same u) ∙ c)))
    ∙ same_members (λ (u : ℕ). not (observers u && may u)) (registered h) (user_numbers s) posts.registered-same

-- a registered member that may read a post finds it open
pub readable_open : (observers : ℕ → Bool) (n : ℕ) (s : State) (u : ℕ) → observers u ≡ true → is_registered s u ≡ true → is_post s n ≡ true
    → may_read s u n ≡ true → unreadable observers n s ≡ false
unfolding unreadable is_registered
readable_open observers n s u w r p m =
    cases (unreadable observers n s)
    (λ e. absurd (true≢false (sym (all_contained (λ (v : ℕ). not (observers v && (is_post s n && may_read s v n))) (user_numbers s) u e r)
    ∙ ap not (and_both w (and_both p m)))))
    (λ e. e)

-- whether a post is unreadable does not depend on a text
pub unreadable-redact : (observers : ℕ → Bool) (n k : ℕ) (s : State) → unreadable observers k (redact n s) ≡ unreadable observers k s
unfolding unreadable user_numbers redact update_post
unreadable-redact observers n k s =
    λ i. for_all (λ (u : ℕ). not (observers u && (post_redacted n s k i && reader_redacted n s u k i))) (user_numbers s)
