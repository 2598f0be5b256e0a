-- The step does not depend on the text of a post, but for the 0505 that reads it. On any state:
--     redact_number, redact-state, redact-answer   with the text emptied the step gives the same number, the same state but for the text,
--                                                  and the same answer, unless it is the text
--     text_updated, text_kept                      an accepted update changes the text and nothing else; no other action changes the text
--     redact_restores                              the text and the state with the text emptied determine the state
use Prim.Native.Nat.{ℕ, zero, suc, ◌≤◌}
use mathlib.Core.Path.{◌≡◌, refl, sym, ap, ap₂, ◌∙◌}
use mathlib.Core.List.{List, [], ◌∷◌, ◌++◌, map, map-append, flatten}
use mathlib.Core.Bool.{Bool, true, false, not, ◌&&◌, ◌||◌}
use mathlib.Core.Option.{Option, some, none}
use lib.Dec.{eqb, leb}
use lib.ListN.{length, get_or, set, length-map, length-set, get_or-eq_default}
use lib.Seq.{map-set_same, set_out, set-get_or, get_or-set_same, get_or-set_other}
use borrow.Table.Steps.{cases}
use borrow.Author.Tests.{ltb-false, eqb-false, not-false}
use Rattle.layout.specs.Search.{index_of}
use Rattle.layout.specs.Bits.{has_bit}
use Rattle.layout.specs.Numbers.{to_le_bytes}
use Rattle.layout.specs.StringFields.{string_bytes}
use Rattle.reader.specs.Frames.{frame_bytes}
use Rattle.model.specs.Lists.{contains}
use Rattle.model.specs.State.{Post, State, post_limit, no_post, user_numbers, post_numbers, pending_numbers, user_at, post_at, pending_at, notes_to, note_at, is_admin}
use Rattle.model.specs.StateUpdates.{with_posts, with_picture, with_visibility, with_title, with_text}
use Rattle.model.specs.Lookups.{is_registered, is_post, is_pending, user_slot, post_place, pending_place, user_numbered, post_numbered, are_friends, has_requested, note_of_request, owner_of, is_owner, may_read}
use Rattle.model.specs.Actions.{Cause, malformed, post_number_used, posts_full, post_missing, not_owner, not_entitled, Action, change, query, refused}
use Rattle.model.specs.Actions.{Change, start_sys, c_nu_req, c_user, c_post, c_friend_req, c_friend, d_friend, u_user, u_title_post, u_text_post, u_img_post, u_vis_post}
use Rattle.model.specs.Actions.{Query, r_user, r_nu_req, r_am_i_admin, r_title_post, r_text_post, r_img_post, r_vis_post, r_owner_post, r_friend_req_to_me, r_friend_req_from_me, l_pending_u_reqs, l_all_users, l_all_posts, l_friend_reqs, l_friends, l_friends_of}
use Rattle.model.specs.Refusals.{RefusalRow, Right, admin_right, owner_right, reader_right, friend_right, no_right, right_of, lacks_right, after_login, post_rows, user_rows, pending_rows, change_refusals, query_refusals, first_cause}
use Rattle.model.specs.Changes.{add_user, update_user, update_post, set_note, add_request, remove_request, add_friends, remove_friends, remove_requests, accept_request, apply_change}
use Rattle.model.specs.Answers.{counted_list, staff_list, post_entry, users_in, answer_body}
use Rattle.model.specs.Step.{Response, respond, step_action}
use Rattle.model.proofs.ListLaws.{index_injective, place_added, at_same-place, field-set, field_add}
use Rattle.model.proofs.AcceptedLaws.{none_applies, post-below}
use Rattle.model.proofs.RefusalTheorems.{action_rows, accepted-action}

-- ---- definitions

-- the state with the text of post n emptied; a state without post n is itself
unfoldable pub redact : ℕ → State → State
redact n s = update_post s n (λ (p : Post). with_text p [])

-- the text of post n; empty where there is no such post
unfoldable pub text_of : ℕ → State → List ℕ
text_of n s = (post_numbered s n).text

-- the action is an update of the text of post n
unfoldable pub updates_text : ℕ → Action → Bool
updates_text n (change (start_sys u p)) = false
updates_text n (change (c_nu_req u note)) = false
updates_text n (change (c_user u p v p2)) = false
updates_text n (change (c_post u p k title)) = false
updates_text n (change (c_friend_req u p v note)) = false
updates_text n (change (c_friend u p v)) = false
updates_text n (change (d_friend u p v)) = false
updates_text n (change (u_user u p p2 name info)) = false
updates_text n (change (u_title_post u p k title)) = false
updates_text n (change (u_text_post u p k text)) = eqb k n
updates_text n (change (u_img_post u p k picture)) = false
updates_text n (change (u_vis_post u p k visibility)) = false
updates_text n (query q) = false
updates_text n (refused r) = false

-- the action reads the text of post n
unfoldable pub reads_text : ℕ → Action → Bool
reads_text n (change c) = false
reads_text n (query (r_user u p v)) = false
reads_text n (query (r_nu_req u p v)) = false
reads_text n (query (r_am_i_admin u p)) = false
reads_text n (query (r_title_post u p k)) = false
reads_text n (query (r_text_post u p k)) = eqb k n
reads_text n (query (r_img_post u p k)) = false
reads_text n (query (r_vis_post u p k)) = false
reads_text n (query (r_owner_post u p k)) = false
reads_text n (query (r_friend_req_to_me u p v)) = false
reads_text n (query (r_friend_req_from_me u p v)) = false
reads_text n (query (l_pending_u_reqs u p)) = false
reads_text n (query (l_all_users u p)) = false
reads_text n (query (l_all_posts u p)) = false
reads_text n (query (l_friend_reqs u p)) = false
reads_text n (query (l_friends u p)) = false
reads_text n (query (l_friends_of u p v)) = false
reads_text n (refused r) = false

-- ---- a function applied at a place of a list; outside the list nothing changes

module _ {A : Type 0} (d : A) where
  abbrev apply_at : (A → A) → ℕ → List A → List A
  apply_at f i xs = set xs i (f (get_or xs i d))

  -- f, then g, at one place is g after f
  apply_twice : (f g h : A → A) → ((x : A) → g (f x) ≡ h x) → (i : ℕ) (xs : List A) → apply_at g i (apply_at f i xs) ≡ apply_at h i xs
  apply_twice f g h e i [] = refl
  apply_twice f g h e zero (x ∷ xs) = ap (λ (y : A). y ∷ xs) (e x)
  apply_twice f g h e (suc i) (x ∷ xs) = ap (λ (ys : List A). x ∷ ys) (apply_twice f g h e i xs)

  -- what f removes at place i has no effect on g at any place, once f is applied again
  apply_between : (f g : A → A) → ((x : A) → f (f x) ≡ f x) → ((x : A) → f (g (f x)) ≡ f (g x)) → (i j : ℕ) (xs : List A)
      → apply_at f i (apply_at g j (apply_at f i xs)) ≡ apply_at f i (apply_at g j xs)
  apply_between f g e q i j [] = refl
  apply_between f g e q zero zero (x ∷ xs) = ap (λ (y : A). y ∷ xs) (q x)
  apply_between f g e q zero (suc j) (x ∷ xs) = ap (λ (y : A). y ∷ apply_at g j xs) (e x)
  apply_between f g e q (suc i) zero (x ∷ xs) = ap (λ (ys : List A). g x ∷ ys) (apply_twice f f f e i xs)
  apply_between f g e q (suc i) (suc j) (x ∷ xs) = ap (λ (ys : List A). x ∷ ys) (apply_between f g e q i j xs)

  -- an added element that f leaves
  apply_added : (f : A → A) (y : A) → f y ≡ y → (i : ℕ) (xs : List A) → apply_at f i (xs ++ (y ∷ [])) ≡ apply_at f i xs ++ (y ∷ [])
  apply_added f y e zero [] = ap (λ (z : A). z ∷ []) e
  apply_added f y e (suc i) [] = refl
  apply_added f y e zero (x ∷ xs) = refl
  apply_added f y e (suc i) (x ∷ xs) = ap (λ (ys : List A). x ∷ ys) (apply_added f y e i xs)

-- ---- an update of a post that leaves its number

abbrev set_text : List ℕ → Post → Post
set_text t p = with_text p t

module _ (s : State) (k : ℕ) (g : Post → Post) (same : (p : Post) → (g p).number ≡ p.number) where
  -- a field that it leaves is the same in all posts
  post-fields-kept : {A : Type 0} (f : Post → A) → ((p : Post) → f (g p) ≡ f p) → map f (update_post s k g).posts ≡ map f s.posts
  unfolding update_post post_numbered post_at
  post-fields-kept f e = map-set_same f s.posts (post_place s k) (g (post_numbered s k)) no_post (e (post_numbered s k))

  post-numbers-kept : post_numbers (update_post s k g) ≡ post_numbers s
  unfolding post_numbers
  post-numbers-kept = post-fields-kept (λ (p : Post). p.number) same

  place_kept : (n : ℕ) → post_place (update_post s k g) n ≡ post_place s n
  unfolding post_place
  place_kept n = ap (index_of n) post-numbers-kept

  post-field-kept : {A : Type 0} (f : Post → A) → ((p : Post) → f (g p) ≡ f p) → (n : ℕ)
      → f (post_numbered (update_post s k g) n) ≡ f (post_numbered s n)
  unfolding update_post post_numbered post_at
  post-field-kept f e n =
      ap (λ (i : ℕ). f (post_at (update_post s k g) i)) (place_kept n)
      ∙ field-set f s.posts (post_place s k) (g (post_numbered s k)) no_post (e (post_numbered s k)) (post_place s n)

  -- another update of the same post behind it
  update_twice : (f h : Post → Post) → ((p : Post) → f (g p) ≡ h p) → update_post (update_post s k g) k f ≡ update_post s k h
  unfolding update_post post_numbered post_at
  update_twice f h e =
      ap (λ (i : ℕ). with_posts s (apply_at no_post f i (update_post s k g).posts)) (place_kept k)
      ∙ ap (with_posts s) (apply_twice no_post g f h e (post_place s k) s.posts)

-- ---- the text that an update writes

text_written : (n : ℕ) (t : List ℕ) (s : State) → is_post s n ≡ true → text_of n (update_post s n (set_text t)) ≡ t
unfolding text_of update_post post_numbered post_at
text_written n t s present =
    ap (λ (i : ℕ). (post_at (update_post s n (set_text t)) i).text) (place_kept s n (set_text t) (λ p. refl) n)
    ∙ ap (λ (p : Post). p.text) (get_or-set_same s.posts (post_place s n) (with_text (post_numbered s n) t) no_post (post-below s n present))

-- a place outside the numbers of the posts is outside the posts
posts-outside : (s : State) (i : ℕ) → length (post_numbers s) ≤ i → length s.posts ≤ i
unfolding post_numbers
posts-outside s i h = rw (← length-map s.posts (λ (p : Post). p.number)) h

-- an update of the text of another post leaves it
text_other : (n k : ℕ) (t : List ℕ) (s : State) → (k ≡ n → ⊥) → text_of n (update_post s k (set_text t)) ≡ text_of n s
unfolding text_of update_post post_numbered post_at post_place contains
text_other n k t s differ =
    let ns : List ℕ = post_numbers s in
    let y : Post = with_text (post_numbered s k) t in
    ap (λ (i : ℕ). (post_at (update_post s k (set_text t)) i).text) (place_kept s k (set_text t) (λ p. refl) n)
    ∙ ap (λ (p : Post). p.text) (cases (contains k ns)
    (λ e. get_or-set_other s.posts (index_of k ns) (index_of n ns) y no_post (λ q. differ (index_injective k n ns e (sym q))))
    (λ e. ap (λ (ps : List Post). get_or ps (index_of n ns) no_post)
    (set_out s.posts (index_of k ns) y (posts-outside s (index_of k ns) (ltb-false (index_of k ns) (length ns) e)))))

-- ---- a new post

-- as 0203 adds it, without a text
abbrev new_post : ℕ → ℕ → List ℕ → Post
new_post k owner title = record { number = k; picture = 0; owner = owner; visibility = 0; title = title; text = [] }

module _ (n : ℕ) (s : State) (k owner : ℕ) (title : List ℕ) where
  abbrev post_added : State
  post_added = with_posts s (s.posts ++ (new_post k owner title ∷ []))

  numbers_added : post_numbers post_added ≡ post_numbers s ++ (k ∷ [])
  unfolding post_numbers
  numbers_added = map-append (λ (p : Post). p.number) s.posts (new_post k owner title ∷ [])

  text_added : text_of n post_added ≡ text_of n s
  unfolding text_of post_place post_numbered post_at
  text_added =
      let ps : List Post = s.posts in
      ap (λ (ns : List ℕ). (post_at post_added (index_of n ns)).text) numbers_added
      ∙ field_add (λ (p : Post). p.text) ps (new_post k owner title) no_post refl (index_of n (post_numbers s ++ (k ∷ [])))
      ∙ at_same-place (λ (i : ℕ). (get_or ps i no_post).text) [] (length (post_numbers s))
      (λ i h. ap (λ (p : Post). p.text) (get_or-eq_default ps no_post (posts-outside s i h))) _ _ (place_added n (post_numbers s) (k ∷ []))

  redact_added : redact n post_added ≡ with_posts s ((redact n s).posts ++ (new_post k owner title ∷ []))
  unfolding redact update_post post_place post_numbered post_at
  redact_added =
      let ps : List Post = s.posts in
      ap (λ (ns : List ℕ). with_posts s (apply_at no_post (set_text []) (index_of n ns) post_added.posts)) numbers_added
      ∙ ap (with_posts s) (apply_added no_post (set_text []) (new_post k owner title) refl (index_of n (post_numbers s ++ (k ∷ []))) ps
      ∙ ap (λ (l : List Post). l ++ (new_post k owner title ∷ []))
      (at_same-place (λ (i : ℕ). apply_at no_post (set_text []) i ps) ps (length (post_numbers s))
      (λ i h. set_out ps i (set_text [] (get_or ps i no_post)) (posts-outside s i h)) _ _ (place_added n (post_numbers s) (k ∷ []))))

-- ---- the redacted state: numbers, places and the fields beside the text stay, so the rows that refuse, the changes and the answers do

redact_twice : (n : ℕ) (s : State) → redact n (redact n s) ≡ redact n s
unfolding redact
redact_twice n s = update_twice s n (set_text []) (λ p. refl) (set_text []) (set_text []) (λ p. refl)

module _ (n : ℕ) (s : State) where
  numbers_redacted : post_numbers (redact n s) ≡ post_numbers s
  unfolding redact
  numbers_redacted = post-numbers-kept s n (set_text []) (λ p. refl)

  place_redacted : (k : ℕ) → post_place (redact n s) k ≡ post_place s k
  unfolding post_place
  place_redacted k = ap (index_of k) numbers_redacted

  length_redacted : length (redact n s).posts ≡ length s.posts
  unfolding redact update_post
  length_redacted = length-set s.posts (post_place s n) (with_text (post_numbered s n) [])

  field_redacted : {A : Type 0} (f : Post → A) → ((p : Post) → f (with_text p []) ≡ f p) → (k : ℕ)
      → f (post_numbered (redact n s) k) ≡ f (post_numbered s k)
  unfolding redact
  field_redacted f e k = post-field-kept s n (set_text []) (λ p. refl) f e k

  -- whether there is a post, and who may read it
  pub post_redacted : (k : ℕ) → is_post (redact n s) k ≡ is_post s k
  unfolding is_post
  post_redacted k = ap (contains k) numbers_redacted

  pub reader_redacted : (u k : ℕ) → may_read (redact n s) u k ≡ may_read s u k
  unfolding may_read is_owner user_numbered user_slot user_numbers user_at redact update_post
  reader_redacted u k =
      let friend : ℕ → Bool = has_bit (user_numbered s u).friends in
      field_redacted (λ (p : Post). eqb p.owner (user_slot s u) || (friend p.owner || eqb p.visibility 1)) (λ p. refl) k

  -- the rows that refuse an action
  right_redacted : (r : Right) (u x : ℕ) → lacks_right (redact n s) r u x ≡ lacks_right s r u x
  unfolding lacks_right is_owner may_read is_admin are_friends user_numbered user_slot user_numbers user_at redact update_post
  right_redacted admin_right u x = refl
  right_redacted owner_right u x =
      field_redacted (λ (p : Post). (not_owner, not (eqb p.owner (user_slot s u))) ∷ []) (λ p. refl) x
  right_redacted reader_right u x = ap (λ (t : Bool). (not_entitled, not t) ∷ []) (reader_redacted u x)
  right_redacted friend_right u x = refl
  right_redacted no_right u x = refl

  post-rows_redacted : (kind u p k : ℕ) → post_rows (redact n s) kind u p k ≡ post_rows s kind u p k
  unfolding post_rows after_login is_registered is_post user_numbered user_slot user_numbers user_at redact update_post
  post-rows_redacted kind u p k =
      ap₂ (λ (ns : List ℕ) (rows : List RefusalRow). after_login s u p ((post_missing, not (contains k ns)) ∷ rows))
      numbers_redacted (right_redacted (right_of kind) u k)

  change_refusals_redacted : (c : Change) → change_refusals (redact n s) c ≡ change_refusals s c
  unfolding change_refusals pending_rows user_rows lacks_right after_login is_admin is_registered is_post is_pending are_friends has_requested user_numbered user_slot user_numbers pending_numbers user_at redact update_post right_of contains index_of
  change_refusals_redacted (start_sys u p) = refl
  change_refusals_redacted (c_nu_req u note) = refl
  change_refusals_redacted (c_user u p v p2) = refl
  change_refusals_redacted (c_post u p k title) =
      ap₂ (λ (ns : List ℕ) (m : ℕ). after_login s u p ((post_number_used, contains k ns) ∷ (posts_full, leb post_limit m) ∷ []))
      numbers_redacted length_redacted
  change_refusals_redacted (c_friend_req u p v note) = refl
  change_refusals_redacted (c_friend u p v) = refl
  change_refusals_redacted (d_friend u p v) = refl
  change_refusals_redacted (u_user u p p2 name info) = refl
  change_refusals_redacted (u_title_post u p k title) = post-rows_redacted 0x0402 u p k
  change_refusals_redacted (u_text_post u p k text) = post-rows_redacted 0x0403 u p k
  change_refusals_redacted (u_img_post u p k picture) = post-rows_redacted 0x0404 u p k
  change_refusals_redacted (u_vis_post u p k visibility) = post-rows_redacted 0x0405 u p k

  query_refusals_redacted : (q : Query) → query_refusals (redact n s) q ≡ query_refusals s q
  unfolding query_refusals pending_rows user_rows lacks_right after_login is_admin is_registered is_pending are_friends has_requested user_numbered user_slot user_numbers pending_numbers user_at redact update_post right_of contains index_of
  query_refusals_redacted (r_user u p v) = refl
  query_refusals_redacted (r_nu_req u p v) = refl
  query_refusals_redacted (r_am_i_admin u p) = refl
  query_refusals_redacted (r_title_post u p k) = post-rows_redacted 0x0504 u p k
  query_refusals_redacted (r_text_post u p k) = post-rows_redacted 0x0505 u p k
  query_refusals_redacted (r_img_post u p k) = post-rows_redacted 0x0506 u p k
  query_refusals_redacted (r_vis_post u p k) = post-rows_redacted 0x0507 u p k
  query_refusals_redacted (r_owner_post u p k) = post-rows_redacted 0x0508 u p k
  query_refusals_redacted (r_friend_req_to_me u p v) = refl
  query_refusals_redacted (r_friend_req_from_me u p v) = refl
  query_refusals_redacted (l_pending_u_reqs u p) = refl
  query_refusals_redacted (l_all_users u p) = refl
  query_refusals_redacted (l_all_posts u p) = refl
  query_refusals_redacted (l_friend_reqs u p) = refl
  query_refusals_redacted (l_friends u p) = refl
  query_refusals_redacted (l_friends_of u p v) = refl

  -- an update of any post that leaves the number, on the redacted state
  update_redacted : (k : ℕ) (g : Post → Post) → ((p : Post) → (g p).number ≡ p.number)
      → ((p : Post) → with_text (g (with_text p [])) [] ≡ with_text (g p) [])
      → redact n (update_post (redact n s) k g) ≡ redact n (update_post s k g)
  unfolding redact update_post post_numbered post_at
  update_redacted k g same e =
      ap₂ (λ (i j : ℕ). with_posts s (apply_at no_post (set_text []) i (apply_at no_post g j (redact n s).posts)))
      (place_kept (redact n s) k g same n ∙ place_redacted n) (place_redacted k)
      ∙ ap (with_posts s) (apply_between no_post (set_text []) g (λ p. refl) e (post_place s n) (post_place s k) s.posts)
      ∙ ap (λ (i : ℕ). with_posts s (apply_at no_post (set_text []) i (update_post s k g).posts)) (sym (place_kept s k g same n))

-- what an accepted change makes of the redacted state
change_redacted : (n : ℕ) (s : State) (c : Change) → redact n (apply_change (redact n s) c) ≡ redact n (apply_change s c)
unfolding apply_change add_user update_user set_note add_request remove_request add_friends remove_friends remove_requests accept_request redact update_post post_place post_numbered post_numbers post_at user_slot pending_place user_numbers pending_numbers user_at
change_redacted n s (start_sys u p) = redact_twice n (apply_change s (start_sys u p))
change_redacted n s (c_nu_req u note) = redact_twice n (apply_change s (c_nu_req u note))
change_redacted n s (c_user u p v p2) = redact_twice n (apply_change s (c_user u p v p2))
change_redacted n s (c_post u p k title) =
    let i : ℕ = user_slot s u in
    redact_added n (redact n s) k i title ∙ ap (λ (t : State). with_posts s (t.posts ++ (new_post k i title ∷ []))) (redact_twice n s)
    ∙ sym (redact_added n s k i title)
change_redacted n s (c_friend_req u p v note) = redact_twice n (apply_change s (c_friend_req u p v note))
change_redacted n s (c_friend u p v) = redact_twice n (apply_change s (c_friend u p v))
change_redacted n s (d_friend u p v) = redact_twice n (apply_change s (d_friend u p v))
change_redacted n s (u_user u p p2 name info) = redact_twice n (apply_change s (u_user u p p2 name info))
change_redacted n s (u_title_post u p k title) = update_redacted n s k (λ (a : Post). with_title a title) (λ a. refl) (λ a. refl)
change_redacted n s (u_text_post u p k text) = update_redacted n s k (set_text text) (λ a. refl) (λ a. refl)
change_redacted n s (u_img_post u p k picture) = update_redacted n s k (λ (a : Post). with_picture a picture) (λ a. refl) (λ a. refl)
change_redacted n s (u_vis_post u p k visibility) = update_redacted n s k (λ (a : Post). with_visibility a visibility) (λ a. refl) (λ a. refl)

-- the body of an answer, but for that of the 0505 that reads the text
answer_redacted : (n : ℕ) (s : State) (q : Query) → reads_text n (query q) ≡ false → answer_body (redact n s) q ≡ answer_body s q
unfolding answer_body reads_text counted_list staff_list post_entry users_in owner_of note_of_request note_at notes_to pending_at pending_place pending_numbers is_admin user_numbered user_slot user_numbers user_at redact update_post text_of
answer_redacted n s (r_user u p v) e = refl
answer_redacted n s (r_nu_req u p v) e = refl
answer_redacted n s (r_am_i_admin u p) e = refl
answer_redacted n s (r_title_post u p k) e = field_redacted n s (λ (a : Post). string_bytes a.title) (λ a. refl) k
answer_redacted n s (r_text_post u p k) e = ap string_bytes (text_other k n [] s (λ q. eqb-false k n e (sym q)))
answer_redacted n s (r_img_post u p k) e = field_redacted n s (λ (a : Post). to_le_bytes 4 a.picture) (λ a. refl) k
answer_redacted n s (r_vis_post u p k) e = field_redacted n s (λ (a : Post). to_le_bytes 1 a.visibility) (λ a. refl) k
answer_redacted n s (r_owner_post u p k) e = field_redacted n s (λ (a : Post). to_le_bytes 4 (user_at s a.owner).number) (λ a. refl) k
answer_redacted n s (r_friend_req_to_me u p v) e = refl
answer_redacted n s (r_friend_req_from_me u p v) e = refl
answer_redacted n s (l_pending_u_reqs u p) e = refl
answer_redacted n s (l_all_users u p) e = refl
answer_redacted n s (l_all_posts u p) e =
    ap₂ (λ (m : ℕ) (entries : List (List ℕ)). to_le_bytes 2 m ++ flatten entries) (length_redacted n s)
    (post-fields-kept s n (set_text []) (λ a. refl) (post_entry s) (λ a. refl))
answer_redacted n s (l_friend_reqs u p) e = refl
answer_redacted n s (l_friends u p) e = refl
answer_redacted n s (l_friends_of u p v) e = refl

-- ---- the step

-- responses that differ in the text of post n at most, and in the answer if one was accepted and `reads`
record Alike (n : ℕ) (reads : Bool) (r₁ r₂ : Response State) : Type 0 where
  number : r₁.number ≡ r₂.number
  state : redact n r₁.state ≡ redact n r₂.state
  answer : (eqb r₂.number 0 && reads) ≡ false → r₁.answer ≡ r₂.answer

respond_alike : (n : ℕ) (s next₁ next₂ : State) (body₁ body₂ : List ℕ) → redact n next₁ ≡ redact n next₂ → (reads : Bool)
    → (reads ≡ false → body₁ ≡ body₂) → (c : Option Cause) → Alike n reads (respond c (redact n s) next₁ body₁) (respond c s next₂ body₂)
unfolding respond
respond_alike n s next₁ next₂ body₁ body₂ e reads q none = record { number = refl; state = e; answer = λ h. ap (frame_bytes 0) (q h) }
respond_alike n s next₁ next₂ body₁ body₂ e reads q (some cause) = record { number = refl; state = redact_twice n s; answer = λ h. refl }

step_alike : (n : ℕ) (s : State) (a : Action) → Alike n (reads_text n a) (step_action (redact n s) a) (step_action s a)
unfolding step_action
step_alike n s (change c) =
    rw (change_refusals_redacted n s c)
    (respond_alike n s (apply_change (redact n s) c) (apply_change s c) [] [] (change_redacted n s c) (reads_text n (change c)) (λ e. refl)
    (first_cause (change_refusals s c)))
step_alike n s (query q) =
    rw (query_refusals_redacted n s q)
    (respond_alike n s (redact n s) s (answer_body (redact n s) q) (answer_body s q) (redact_twice n s) (reads_text n (query q))
    (answer_redacted n s q) (first_cause (query_refusals s q)))
step_alike n s (refused r) =
    respond_alike n s (redact n s) s [] [] (redact_twice n s) (reads_text n (refused r)) (λ e. refl) (some (malformed r))

pub redact_number : (n : ℕ) (s : State) (a : Action) → (step_action (redact n s) a).number ≡ (step_action s a).number
redact_number n s a = (step_alike n s a).number

pub redact-state : (n : ℕ) (s : State) (a : Action) → redact n (step_action (redact n s) a).state ≡ redact n (step_action s a).state
redact-state n s a = (step_alike n s a).state

pub redact-answer : (n : ℕ) (s : State) (a : Action) → (eqb (step_action s a).number 0 && reads_text n a) ≡ false
    → (step_action (redact n s) a).answer ≡ (step_action s a).answer
redact-answer n s a = (step_alike n s a).answer

-- ---- the text after a step

pub text_updated : (n u p : ℕ) (t : List ℕ) (s : State) → (step_action s (change (u_text_post u p n t))).number ≡ 0
    → (text_of n (step_action s (change (u_text_post u p n t))).state ≡ t)
    × (redact n (step_action s (change (u_text_post u p n t))).state ≡ redact n s)
unfolding step_action respond action_rows change_refusals apply_change post_rows after_login redact
text_updated n u p t s h =
    let e = accepted-action s (change (u_text_post u p n t)) h in
    let present : is_post s n ≡ true = not-false (is_post s n) (none_applies (post_rows s 0x0403 u p n) e 2) in
    rw e (text_written n t s present, update_twice s n (set_text t) (λ a. refl) (set_text []) (set_text []) (λ a. refl))

-- other changes leave it
text_unchanged : (n : ℕ) (s : State) (c : Change) → updates_text n (change c) ≡ false → text_of n (apply_change s c) ≡ text_of n s
unfolding apply_change updates_text add_user update_user set_note add_request remove_request add_friends remove_friends remove_requests accept_request text_of post_numbered post_place post_numbers post_at
text_unchanged n s (start_sys u p) e = refl
text_unchanged n s (c_nu_req u note) e = refl
text_unchanged n s (c_user u p v p2) e = refl
text_unchanged n s (c_post u p k title) e = text_added n s k (user_slot s u) title
text_unchanged n s (c_friend_req u p v note) e = refl
text_unchanged n s (c_friend u p v) e = refl
text_unchanged n s (d_friend u p v) e = refl
text_unchanged n s (u_user u p p2 name info) e = refl
text_unchanged n s (u_title_post u p k title) e =
    post-field-kept s k (λ (a : Post). with_title a title) (λ a. refl) (λ (a : Post). a.text) (λ a. refl) n
text_unchanged n s (u_text_post u p k text) e = text_other n k text s (eqb-false k n e)
text_unchanged n s (u_img_post u p k picture) e =
    post-field-kept s k (λ (a : Post). with_picture a picture) (λ a. refl) (λ (a : Post). a.text) (λ a. refl) n
text_unchanged n s (u_vis_post u p k visibility) e =
    post-field-kept s k (λ (a : Post). with_visibility a visibility) (λ a. refl) (λ (a : Post). a.text) (λ a. refl) n

-- a text that the next state keeps, unless `updates` holds
respond_text : (n : ℕ) (s next : State) (body : List ℕ) (updates : Bool) → (updates ≡ false → text_of n next ≡ text_of n s) → (c : Option Cause)
    → (eqb (respond c s next body).number 0 && updates) ≡ false → text_of n (respond c s next body).state ≡ text_of n s
unfolding respond
respond_text n s next body updates e none h = e h
respond_text n s next body updates e (some cause) h = refl

pub text_kept : (n : ℕ) (s : State) (a : Action) → (eqb (step_action s a).number 0 && updates_text n a) ≡ false
    → text_of n (step_action s a).state ≡ text_of n s
unfolding step_action
text_kept n s (change c) =
    respond_text n s (apply_change s c) [] (updates_text n (change c)) (text_unchanged n s c) (first_cause (change_refusals s c))
text_kept n s (query q) = respond_text n s s (answer_body s q) (updates_text n (query q)) (λ e. refl) (first_cause (query_refusals s q))
text_kept n s (refused r) = respond_text n s s [] (updates_text n (refused r)) (λ e. refl) (some (malformed r))

-- ---- the text and the redacted state give the state back

write-back : (n : ℕ) (s : State) → update_post (redact n s) n (set_text (text_of n s)) ≡ s
unfolding redact text_of update_post post_numbered post_at
write-back n s =
    let write : Post → Post = set_text (text_of n s) in
    update_twice s n (set_text []) (λ p. refl) write write (λ p. refl) ∙ ap (with_posts s) (set-get_or s.posts (post_place s n) no_post)

pub redact_restores : (n : ℕ) (s₁ s₂ : State) → redact n s₁ ≡ redact n s₂ → text_of n s₁ ≡ text_of n s₂ → s₁ ≡ s₂
redact_restores n s₁ s₂ e q =
    sym (write-back n s₁) ∙ ap₂ (λ (r : State) (t : List ℕ). update_post r n (set_text t)) e q ∙ write-back n s₂
