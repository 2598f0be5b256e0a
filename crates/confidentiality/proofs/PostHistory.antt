-- What the history says of users and posts is what the state says: `PostsAgree` holds of the empty state (`posts_agree_empty`) and is kept
-- by every step (`posts_agree_next`). It comes from what one accepted message does (`UsersAndPosts`), shown kind by kind over the columns of
-- the tables.
use Prim.Native.Nat.{ℕ}
use mathlib.Core.Path.{◌≡◌, refl, sym, ap, ap₂, ◌∙◌}
use mathlib.Core.List.{List, [], ◌∷◌, ◌++◌, map, map-append}
use mathlib.Core.Bool.{Bool, true, false, false≢true, cond, ◌&&◌, ◌||◌, or_comm, or-false}
use mathlib.Core.Option.{Option, some, none}
use lib.ListN.{length, get_or, set, length-map, get_or-map, get_or-append}
use lib.Seq.{map-set_same}
use lib.Dec.{eqb, ltb, leb}
use borrow.Author.Tests.{ltb-true, eqb-true, not-false}
use Rattle.layout.specs.Search.{index_of}
use Rattle.layout.specs.Bits.{set_bit, clear_bit}
use Rattle.layout.proofs.BooleanLaws.{and_left, or_neither, apply_cond}
use Rattle.reader.specs.Fields.{FieldValue}
use Rattle.reader.specs.Kinds.{kinds}
use Rattle.reader.specs.Messages.{Content, content, message_content}
use Rattle.model.specs.Lists.{for_all, contains, remove_at}
use Rattle.model.specs.State.{User, Post, State, empty_state, no_user, no_post, user_numbers, post_numbers, user_at, post_at}
use Rattle.model.specs.StateUpdates.{with_posts, with_pending, with_password, with_name, with_info, with_picture, with_visibility, with_title, with_text}
use Rattle.model.specs.Lookups.{is_registered, is_post, user_slot, post_place, pending_place, user_numbered, post_numbered, owner_of, is_owner}
use Rattle.model.specs.Actions.{Change, change, start_sys, c_nu_req, c_user, c_post, c_friend_req, c_friend, d_friend, u_user, u_title_post, u_text_post, u_img_post, u_vis_post, number_arg, string_arg, action_named}
use Rattle.model.specs.Refusals.{right_of, lacks_right, after_login, post_rows, change_refusals, first_cause}
use Rattle.model.specs.Changes.{add_user, update_user, update_post, set_note, write_request, write_friend, add_request, remove_request, add_friends, remove_friends, remove_requests, accept_request, apply_change}
use Rattle.model.specs.Step.{step_state}
use Rattle.model.proofs.ListLaws.{all_map, contains_cons, contains_append, contained_found, map-set}
use Rattle.model.proofs.RuleLaws.{ValidState, rules_of}
use Rattle.model.proofs.AcceptedLaws.{none_applies, slot_number}
use Rattle.model.proofs.RowInvariant.{numbers-kept, request-numbers, friend-numbers}
use Rattle.confidentiality.specs.Traces.{is_accepted}
use Rattle.confidentiality.specs.History.{History, is_kind, is_about, user_field, target_field, visibility_field, registered, owner, is_public}
use Rattle.confidentiality.proofs.Alignment.{next_history}
use Rattle.confidentiality.proofs.KindCases.{ForKinds, ◌also◌}
use Rattle.confidentiality.proofs.AcceptedKinds.{AfterAccepted, after_change, queries, query-kind, by_accepted, after_step}
use Rattle.confidentiality.proofs.LookupLaws.{value_in, value_add, value_set, value_passes}

-- ---- what the state says

-- the number of the owner of post n, if there is such a post
unfoldable pub owner_number : State → ℕ → Option ℕ
owner_number s n = cond (is_post s n) (some (owner_of s (post_numbered s n)).number) none

abbrev pub is_public_post : State → ℕ → Bool
is_public_post s n = is_post s n && eqb (post_numbered s n).visibility 1

pub record PostsAgree (h : History) (s : State) : Type 0 where
  pub registered-same : (u : ℕ) → contains u (registered h) ≡ is_registered s u
  pub owner-same : (n : ℕ) → owner n h ≡ owner_number s n
  pub public_same : (n : ℕ) → is_public n h ≡ is_public_post s n

-- what it says of them depends on these columns of the tables of users and posts
record Columns : Type 0 where
  users : List ℕ
  posts : List ℕ
  owners : List ℕ
  visibilities : List ℕ

unfoldable columns : State → Columns
columns s = record {
  users = user_numbers s;
  posts = post_numbers s;
  owners = map (λ (p : Post). p.owner) s.posts;
  visibilities = map (λ (p : Post). p.visibility) s.posts;
}

-- the number of the user at a slot, and whether a visibility is public, where there are such
abbrev number_at : List ℕ → Option ℕ → Option ℕ
number_at us none = none
number_at us (some i) = some (get_or us i 0)

abbrev is_one : Option ℕ → Bool
is_one none = false
is_one (some x) = eqb x 1

unfoldable owner_in : Columns → ℕ → Option ℕ
owner_in c n = number_at c.users (value_in c.posts c.owners n)

unfoldable public_in : Columns → ℕ → Bool
public_in c n = is_one (value_in c.posts c.visibilities n)

module _ (s : State) (n : ℕ) where
  owner_in_lem : owner_number s n ≡ owner_in (columns s) n
  unfolding owner_number owner_in columns value_in owner_of is_post post_numbered post_place user_numbers post_numbers user_at post_at
  owner_in_lem =
      let o : ℕ = (post_numbered s n).owner in
      let us : List ℕ = user_numbers s in
      ap (λ (x : ℕ). cond (is_post s n) (some x) none) (sym (get_or-map (λ (u : User). u.number) s.users o no_user))
      ∙ sym (apply_cond (number_at us) (is_post s n) (some o) none)
      ∙ ap (λ (i : ℕ). number_at us (cond (is_post s n) (some i) none))
      (sym (get_or-map (λ (p : Post). p.owner) s.posts (index_of n (post_numbers s)) no_post))

  public_in_lem : is_public_post s n ≡ public_in (columns s) n
  unfolding public_in columns value_in is_post post_numbered post_place post_numbers post_at
  public_in_lem =
      let i : ℕ = index_of n (post_numbers s) in
      by_test (is_post s n)
      ∙ ap (λ (x : ℕ). is_one (cond (is_post s n) (some x) none)) (sym (get_or-map (λ (p : Post). p.visibility) s.posts i no_post))
    where
      by_test : (t : Bool) → (t && eqb (post_numbered s n).visibility 1) ≡ is_one (cond t (some (post_numbered s n).visibility) none)
      by_test true = refl
      by_test false = refl

-- ---- what one accepted message c does, from the state s to the state t

pub record UsersAndPosts (s : State) (c : Content) (t : State) : Type 0 where
  pub registered-next : (h : History) (u : ℕ) → contains u (registered h) ≡ is_registered s u → contains u (registered (c ∷ h)) ≡ is_registered t u
  pub owner-next : (n : ℕ) → owner_number t n ≡ cond (is_about 0x0203 n c) (some (user_field c)) (owner_number s n)
  pub public_next : (n : ℕ) → is_public_post t n ≡ cond (is_about 0x0405 n c) (eqb (visibility_field c) 1) (is_public_post s n)
  -- a post is made once, and made public by its owner
  pub creates_new : (n : ℕ) → is_about 0x0203 n c ≡ true → is_post s n ≡ false
  pub publishes_own : (n : ℕ) → is_about 0x0405 n c ≡ true → owner_number s n ≡ some (user_field c)

-- a message that is neither about making a post nor about its visibility, where owners and visibilities stay as they are
module _ (s : State) (c : Content) (t : State) where
  posts-kept : is_kind 0x0203 c ≡ false → is_kind 0x0405 c ≡ false
      → ((h : History) (u : ℕ) → contains u (registered h) ≡ is_registered s u → contains u (registered (c ∷ h)) ≡ is_registered t u)
      → ((n : ℕ) → owner_in (columns t) n ≡ owner_in (columns s) n) → ((n : ℕ) → public_in (columns t) n ≡ public_in (columns s) n)
      → UsersAndPosts s c t
  unfolding is_about
  posts-kept e f r o p = record {
    registered-next = r;
    owner-next = λ n. rw e (owner_in_lem t n ∙ o n ∙ sym (owner_in_lem s n));
    public_next = λ n. rw f (public_in_lem t n ∙ p n ∙ sym (public_in_lem s n));
    creates_new = λ n q. absurd (false≢true (sym e ∙ and_left (is_kind 0x0203 c) (eqb (target_field c) n) q));
    publishes_own = λ n q. absurd (false≢true (sym f ∙ and_left (is_kind 0x0405 c) (eqb (target_field c) n) q));
  }

-- 0101, 0202, 0203 and 0405 speak of the columns
abbrev about_columns : Content → Bool
about_columns c = is_kind 0x0101 c || (is_kind 0x0202 c || (is_kind 0x0203 c || is_kind 0x0405 c))

columns-kept : (s : State) (c : Content) (t : State) → about_columns c ≡ false → columns t ≡ columns s → UsersAndPosts s c t
unfolding is_registered registered columns
columns-kept s c t e k =
    let first = or_neither (is_kind 0x0101 c) (is_kind 0x0202 c || (is_kind 0x0203 c || is_kind 0x0405 c)) e in
    let second = or_neither (is_kind 0x0202 c) (is_kind 0x0203 c || is_kind 0x0405 c) first.1 in
    let last = or_neither (is_kind 0x0203 c) (is_kind 0x0405 c) second.1 in
    posts-kept s c t last.0 last.1
    (λ h u q. rw (first.0, second.0) (q ∙ ap (λ (l : Columns). contains u l.users) (sym k)))
    (λ n. ap (λ (l : Columns). owner_in l n) k) (λ n. ap (λ (l : Columns). public_in l n) k)

-- the columns with another one of users
abbrev with_user_column : State → List ℕ → Columns
with_user_column s us = record { users = us; posts = (columns s).posts; owners = (columns s).owners; visibilities = (columns s).visibilities }

module _ (s : State) where
  -- the columns of posts have one length, and owners are users
  posts-length : {B : Type 0} (f : Post → B) → length (columns s).posts ≡ length (map f s.posts)
  unfolding columns post_numbers
  posts-length f = length-map s.posts (λ (q : Post). q.number) ∙ sym (length-map s.posts f)

  owners-registered : ValidState s → for_all (λ (o : ℕ). ltb o (length (columns s).users)) (columns s).owners ≡ true
  unfolding columns user_numbers
  owners-registered valid =
      all_map (λ (o : ℕ). ltb o (length (user_numbers s))) (λ (q : Post). q.owner) s.posts
      ∙ rw length-map (rules_of s valid.keeps).owners

  -- 0101 and 0202: a user more, and the slots of the others stay
  user-columns : (w p : ℕ) → columns (add_user s w p) ≡ with_user_column s ((columns s).users ++ (w ∷ []))
  unfolding columns add_user user_numbers post_numbers
  user-columns w p =
      let user : User = record { number = w; password = p; friends = 0; requests = 0; name = []; info = [] } in
      ap (with_user_column s) (map-append (λ (u : User). u.number) s.users (user ∷ []))

  user_added_lem : ValidState s → (c : Content) (t : State) (w : ℕ) → is_kind 0x0203 c ≡ false → is_kind 0x0405 c ≡ false
      → ((h : History) → registered (c ∷ h) ≡ w ∷ registered h) → columns t ≡ with_user_column s ((columns s).users ++ (w ∷ []))
      → UsersAndPosts s c t
  unfolding is_registered columns contains index_of owner_in public_in
  user_added_lem valid c t w e f told k =
      let us : List ℕ = user_numbers s in
      posts-kept s c t e f
      (λ h u q.
      ap (contains u) (told h) ∙ contains_cons u w (registered h) ∙ ap (λ (b : Bool). eqb w u || b) q ∙ or_comm (eqb w u) (contains u us)
      ∙ ap (λ (b : Bool). contains u us || b) (sym (contains_cons u w [] ∙ or-false (eqb w u)))
      ∙ sym (contains_append u us (w ∷ [])) ∙ ap (λ (l : Columns). contains u l.users) (sym k))
      (λ n. ap (λ (l : Columns). owner_in l n) k ∙ by_owner n (value_in (columns s).posts (columns s).owners n) refl)
      (λ n. ap (λ (l : Columns). public_in l n) k)
    where
      by_owner : (n : ℕ) (o : Option ℕ) → value_in (columns s).posts (columns s).owners n ≡ o
          → number_at ((columns s).users ++ (w ∷ [])) o ≡ number_at (columns s).users o
      by_owner n none q = refl
      by_owner n (some i) q =
          ap some (get_or-append (columns s).users (w ∷ []) 0 i (ltb-true i (length (columns s).users)
          (value_passes (λ (o : ℕ). ltb o (length (columns s).users)) (columns s).posts (columns s).owners n i
          (posts-length (λ (q : Post). q.owner)) (owners-registered valid) q)))

-- the user at the slot of a registered number has that number
slot_user : (s : State) (u : ℕ) → is_registered s u ≡ true → get_or (columns s).users (user_slot s u) 0 ≡ u
unfolding columns is_registered user_slot
slot_user s u e = contained_found u (user_numbers s) e

-- 0203: a post more, of a number that is new
module _ (s : State) (vs : List FieldValue) where
  abbrev creation_of : Change
  creation_of = c_post (number_arg vs 0) (number_arg vs 1) (number_arg vs 2) (string_arg vs 3)

  post-columns : columns (apply_change s creation_of) ≡ record {
    users = (columns s).users;
    posts = (columns s).posts ++ (number_arg vs 2 ∷ []);
    owners = (columns s).owners ++ (user_slot s (number_arg vs 0) ∷ []);
    visibilities = (columns s).visibilities ++ (0 ∷ []);
  }
  unfolding columns apply_change user_numbers post_numbers
  post-columns =
      let post : Post = record {
        number = number_arg vs 2;
        picture = 0;
        owner = user_slot s (number_arg vs 0);
        visibility = 0;
        title = string_arg vs 3;
        text = [];
      } in
      λ i. record {
        users = user_numbers s;
        posts = map-append (λ (q : Post). q.number) s.posts (post ∷ []) i;
        owners = map-append (λ (q : Post). q.owner) s.posts (post ∷ []) i;
        visibilities = map-append (λ (q : Post). q.visibility) s.posts (post ∷ []) i;
      }

  post-created : first_cause (change_refusals s creation_of) ≡ none → UsersAndPosts s (content 0x0203 vs) (apply_change s creation_of)
  unfolding change_refusals after_login is_about is_kind is_registered is_post columns user_numbers post_numbers registered owner_in public_in apply_change value_in
  post-created e =
      let u : ℕ = number_arg vs 0 in
      let m : ℕ = number_arg vs 2 in
      let t : State = apply_change s creation_of in
      let l : Columns = columns s in
      let passes = none_applies (change_refusals s creation_of) e in
      let known : is_registered s u ≡ true = not-false (is_registered s u) (passes 0) in
      let new : is_post s m ≡ false = passes 2 in
      record {
        registered-next = λ h v q. q;
        owner-next = λ n.
            owner_in_lem t n ∙ ap (λ (c : Columns). owner_in c n) post-columns
            ∙ ap (number_at l.users) (value_add m (user_slot s u) n l.posts l.owners (posts-length s (λ (q : Post). q.owner)) new)
            ∙ apply_cond (number_at l.users) (eqb m n) (some (user_slot s u)) (value_in l.posts l.owners n)
            ∙ ap₂ (λ (x : ℕ) (o : Option ℕ). cond (eqb m n) (some x) o) (slot_user s u known) (sym (owner_in_lem s n));
        public_next = λ n.
            public_in_lem t n ∙ ap (λ (c : Columns). public_in c n) post-columns
            ∙ ap is_one (value_add m 0 n l.posts l.visibilities (posts-length s (λ (q : Post). q.visibility)) new)
            ∙ by_test n (eqb m n) refl new ∙ sym (public_in_lem s n);
        creates_new = λ n q. ap (is_post s) (sym (eqb-true m n q)) ∙ new;
        publishes_own = λ n q. absurd (false≢true q);
      }
    where
      by_test : (n : ℕ) (t : Bool) → eqb (number_arg vs 2) n ≡ t → contains (number_arg vs 2) (columns s).posts ≡ false
          → is_one (cond t (some 0) (value_in (columns s).posts (columns s).visibilities n))
          ≡ is_one (value_in (columns s).posts (columns s).visibilities n)
      by_test n true q new =
          ap (λ (b : Bool). is_one (cond b (some (get_or (columns s).visibilities (index_of n (columns s).posts) 0)) none))
          (sym (ap (λ (k : ℕ). contains k (columns s).posts) (sym (eqb-true (number_arg vs 2) n q)) ∙ new))
      by_test n false q new = refl

-- 0402 to 0405: a post changed, but not its number and owner
module _ (s : State) (m : ℕ) (y : Post) (number : y.number ≡ (post_numbered s m).number) (owned : y.owner ≡ (post_numbered s m).owner) where
  update_columns : (xs : List ℕ) → map (λ (q : Post). q.visibility) (set s.posts (post_place s m) y) ≡ xs
      → columns (with_posts s (set s.posts (post_place s m) y))
      ≡ record { users = (columns s).users; posts = (columns s).posts; owners = (columns s).owners; visibilities = xs }
  unfolding columns user_numbers post_numbers post_numbered post_at
  update_columns xs e =
      λ i. record {
        users = user_numbers s;
        posts = map-set_same (λ (q : Post). q.number) s.posts (post_place s m) y no_post number i;
        owners = map-set_same (λ (q : Post). q.owner) s.posts (post_place s m) y no_post owned i;
        visibilities = e i;
      }

  post-kept : y.visibility ≡ (post_numbered s m).visibility → columns (with_posts s (set s.posts (post_place s m) y)) ≡ columns s
  unfolding columns post_numbered post_at
  post-kept e = update_columns (columns s).visibilities (map-set_same (λ (q : Post). q.visibility) s.posts (post_place s m) y no_post e)

-- 0405, by the owner
module _ (s : State) (vs : List FieldValue) where
  abbrev visibility_change : Change
  visibility_change = u_vis_post (number_arg vs 0) (number_arg vs 1) (number_arg vs 2) (number_arg vs 3)

  visibility-changed : first_cause (change_refusals s visibility_change) ≡ none → UsersAndPosts s (content 0x0405 vs) (apply_change s visibility_change)
  unfolding change_refusals post_rows after_login lacks_right right_of is_about is_kind is_post is_registered is_owner owner_number owner_of columns user_numbers post_numbers post_place registered owner_in public_in apply_change update_post user_numbered contains index_of
  visibility-changed e =
      let u : ℕ = number_arg vs 0 in
      let m : ℕ = number_arg vs 2 in
      let x : ℕ = number_arg vs 3 in
      let t : State = apply_change s visibility_change in
      let l : Columns = columns s in
      let passes = none_applies (change_refusals s visibility_change) e in
      let known : is_registered s u ≡ true = not-false (is_registered s u) (passes 0) in
      let there : is_post s m ≡ true = not-false (is_post s m) (passes 2) in
      let own : (post_numbered s m).owner ≡ user_slot s u = eqb-true (post_numbered s m).owner (user_slot s u) (not-false (is_owner s u m) (passes 3)) in
      let k = update_columns s m (with_visibility (post_numbered s m) x) refl refl (set l.visibilities (post_place s m) x)
      (map-set (λ (q : Post). q.visibility) s.posts (post_place s m) (with_visibility (post_numbered s m) x)) in
      record {
        registered-next = λ h v q. q;
        owner-next = λ n. owner_in_lem t n ∙ ap (λ (c : Columns). owner_in c n) k ∙ sym (owner_in_lem s n);
        public_next = λ n.
            public_in_lem t n ∙ ap (λ (c : Columns). public_in c n) k
            ∙ ap is_one (value_set m x n l.posts l.visibilities (posts-length s (λ (q : Post). q.visibility)) there)
            ∙ apply_cond is_one (eqb m n) (some x) (value_in l.posts l.visibilities n)
            ∙ ap (cond (eqb m n) (eqb x 1)) (sym (public_in_lem s n));
        creates_new = λ n q. absurd (false≢true q);
        publishes_own = λ n q.
            ap (owner_number s) (sym (eqb-true m n q))
            ∙ ap₂ (λ (b : Bool) (i : ℕ). cond b (some (user_at s i).number) none) there own
            ∙ ap some (slot_number s u known);
      }

-- 0204 to 0401: a user changed, but not the number
user-kept : (s : State) (i : ℕ) (f : User → User) → (f (user_at s i)).number ≡ (user_at s i).number → columns (update_user s i f) ≡ columns s
unfolding columns update_user post_numbers
user-kept s i f e = ap (with_user_column s) (numbers-kept s i f e)

-- rows of bits written, on one side or on both
module _ (write : ℕ → ℕ → ℕ) (s : State) (i j : ℕ) where
  request-row-kept : columns (write_request write s i j) ≡ columns s
  unfolding columns update_user post_numbers
  request-row-kept = ap (with_user_column s) (request-numbers write s i j)

  friend-rows-kept : columns (write_friend write (write_friend write s i j) j i) ≡ columns s
  unfolding columns update_user post_numbers
  friend-rows-kept = ap (with_user_column s) (friend-numbers write s i j)

-- ---- all kinds

module _ (s : State) (valid : ValidState s) where
  unchanged : (c : Content) (ch : Change) → about_columns c ≡ false → columns (apply_change s ch) ≡ columns s
      → AfterAccepted s (UsersAndPosts s) c (change ch)
  unchanged c ch o k = after_change (λ e. columns-kept s c (apply_change s ch) o k)

  kinds_recorded : ForKinds (AfterAccepted s (UsersAndPosts s)) kinds
  unfolding kinds action_named apply_change is_kind registered columns user_numbers post_numbers add_request remove_request set_note add_friends remove_friends remove_requests accept_request update_post
  kinds_recorded =
      first_user
      also (λ vs. unchanged (content 0x0201 vs) (c_nu_req (number_arg vs 0) (string_arg vs 1)) refl refl)
      also new-user
      also (λ vs. after_change (post-created s vs))
      also (λ vs.
      unchanged (content 0x0204 vs) (c_friend_req (number_arg vs 0) (number_arg vs 1) (number_arg vs 2) (string_arg vs 3)) refl
      (request-row-kept set_bit s (user_slot s (number_arg vs 2)) (user_slot s (number_arg vs 0))))
      also (λ vs.
      let i : ℕ = user_slot s (number_arg vs 0) in
      let j : ℕ = user_slot s (number_arg vs 2) in
      unchanged (content 0x0205 vs) (c_friend (number_arg vs 0) (number_arg vs 1) (number_arg vs 2)) refl
      (friend-rows-kept set_bit (remove_requests s i j) i j ∙ request-row-kept clear_bit (remove_request s i j) j i ∙ request-row-kept clear_bit s i j))
      also (λ vs.
      unchanged (content 0x0301 vs) (d_friend (number_arg vs 0) (number_arg vs 1) (number_arg vs 2)) refl
      (friend-rows-kept clear_bit s (user_slot s (number_arg vs 0)) (user_slot s (number_arg vs 2))))
      also (λ vs.
      unchanged (content 0x0401 vs) (u_user (number_arg vs 0) (number_arg vs 1) (number_arg vs 2) (string_arg vs 3) (string_arg vs 4)) refl
      (user-kept s (user_slot s (number_arg vs 0))
      (λ (a : User). with_info (with_name (with_password a (number_arg vs 2)) (string_arg vs 3)) (string_arg vs 4)) refl))
      also (λ vs.
      unchanged (content 0x0402 vs) (u_title_post (number_arg vs 0) (number_arg vs 1) (number_arg vs 2) (string_arg vs 3)) refl
      (post-kept s (number_arg vs 2) (with_title (post_numbered s (number_arg vs 2)) (string_arg vs 3)) refl refl refl))
      also (λ vs.
      unchanged (content 0x0403 vs) (u_text_post (number_arg vs 0) (number_arg vs 1) (number_arg vs 2) (string_arg vs 3)) refl
      (post-kept s (number_arg vs 2) (with_text (post_numbered s (number_arg vs 2)) (string_arg vs 3)) refl refl refl))
      also (λ vs.
      unchanged (content 0x0404 vs) (u_img_post (number_arg vs 0) (number_arg vs 1) (number_arg vs 2) (number_arg vs 3)) refl
      (post-kept s (number_arg vs 2) (with_picture (post_numbered s (number_arg vs 2)) (number_arg vs 3)) refl refl refl))
      also (λ vs. after_change (visibility-changed s vs))
      also queries s (UsersAndPosts s) read_only
    where
      first_user : (vs : List FieldValue)
          → AfterAccepted s (UsersAndPosts s) (content 0x0101 vs) (change (start_sys (number_arg vs 0) (number_arg vs 1)))
      first_user vs =
          after_change (λ e.
          user_added_lem s valid (content 0x0101 vs) (add_user s (number_arg vs 0) (number_arg vs 1)) (number_arg vs 0) refl refl (λ h. refl)
          (user-columns s (number_arg vs 0) (number_arg vs 1)))

      new-user : (vs : List FieldValue)
          → AfterAccepted s (UsersAndPosts s) (content 0x0202 vs) (change (c_user (number_arg vs 0) (number_arg vs 1) (number_arg vs 2) (number_arg vs 3)))
      new-user vs =
          let rest : State = with_pending s (remove_at (pending_place s (number_arg vs 2)) s.pending) in
          after_change (λ e.
          user_added_lem s valid (content 0x0202 vs) (add_user rest (number_arg vs 2) (number_arg vs 3)) (number_arg vs 2) refl refl (λ h. refl)
          (user-columns rest (number_arg vs 2) (number_arg vs 3)))

      read_only : (k : ℕ) (vs : List FieldValue) → leb 0x0501 k ≡ true → UsersAndPosts s (content k vs) s
      read_only k vs e =
          columns-kept s (content k vs) s
          (rw (query-kind k 0x0101 e refl, query-kind k 0x0202 e refl, query-kind k 0x0203 e refl) (query-kind k 0x0405 e refl)) refl

  pub accepted_recorded : (m : List ℕ) → is_accepted m s ≡ true → UsersAndPosts s (message_content m) (step_state m s).state
  accepted_recorded = by_accepted s (UsersAndPosts s) kinds_recorded

-- ---- along a run

pub posts_agree_empty : PostsAgree [] empty_state
unfolding registered owner is_public empty_state is_registered is_post owner_number user_numbers post_numbers contains index_of
posts_agree_empty = record { registered-same = λ u. refl; owner-same = λ n. refl; public_same = λ n. refl }

pub posts_agree_next : (m : List ℕ) (h : History) (s : State) → ValidState s → PostsAgree h s
    → PostsAgree (next_history is_accepted step_state m h s) (step_state m s).state
unfolding owner is_public
posts_agree_next m h s valid a =
    after_step PostsAgree m h s a (λ e.
    let c : Content = message_content m in
    let r = accepted_recorded s valid m e in
    record {
      registered-same = λ u. r.registered-next h u (a.registered-same u);
      owner-same = λ n. ap (cond (is_about 0x0203 n c) (some (user_field c))) (a.owner-same n) ∙ sym (r.owner-next n);
      public_same = λ n. ap (cond (is_about 0x0405 n c) (eqb (visibility_field c) 1)) (a.public_same n) ∙ sym (r.public_next n);
    })
