-- The invariant: the empty state is valid (`empty-valid`), and a step on a valid state gives a valid state (`step_valid`), because an accepted
-- change does (`change-valid`); so every state that a journal leads to is valid (`reached_valid`). The kinds that change rows of bits are in
-- RowInvariant.
use Prim.Native.Nat.{ℕ, ◌+◌, ◌^◌, ◌≤◌, ◌<◌, zero-le}
use native.Mathlib.Nat.{lt_of_lt_of_le}
use native.Mathlib.Omega.{arith}
use mathlib.Core.Path.{◌≡◌, refl, sym, ap, ap₂, ◌∙◌, subst}
use mathlib.Core.List.{List, [], ◌∷◌, ◌++◌, map, map-append}
use mathlib.Core.Bool.{Bool, true, false, not, ◌&&◌}
use mathlib.Core.Option.{Option, some, none}
use lib.ListN.{length, get_or, set, length-append, length-set, get_or-eq_default}
use lib.Seq.{map-set_same}
use lib.Dec.{eqb, leb, ltb, lit<}
use lib.Pow.{pow_pos, pow_mono}
use borrow.Author.Tests.{ltb-true, ltb-false, lt-ltb, leb-true, leb-false, le-leb, eqb-true, eqb-false, not-true, not-false}
use borrow.Table.Steps.{cases}
use Rattle.layout.specs.Search.{index_of}
use Rattle.layout.specs.Bits.{bit_at, has_bit}
use Rattle.layout.specs.StringFields.{is_string}
use Rattle.layout.proofs.BooleanLaws.{and_both}
use Rattle.layout.proofs.BitLaws.{bit_beyond, has_beyond}
use Rattle.reader.specs.Fields.{name_limit, info_limit, title_limit, text_limit}
use Rattle.model.specs.Lists.{for_all, contains, distinct, remove_at}
use Rattle.model.specs.State.{User, Post, Pending, State, user_limit, post_limit, pending_limit, no_user, no_post, user_numbers, post_numbers, pending_numbers, user_at, post_at, note_at, notes_to, empty_state}
use Rattle.model.specs.StateUpdates.{with_users, with_posts, with_pending, with_password, with_name, with_info, with_picture, with_visibility, with_title, with_text}
use Rattle.model.specs.Board.{StoredField, unsigned, string, user_fields, post_fields, pending_fields}
use Rattle.model.specs.Lookups.{is_registered, is_post, is_pending, user_slot, post_place, pending_place, post_numbered}
use Rattle.model.specs.Answers.{answer_body}
use Rattle.model.specs.Actions.{Cause, malformed, Change, start_sys, c_nu_req, c_user, c_post, c_friend_req, c_friend, d_friend, u_user, u_title_post, u_text_post, u_img_post, u_vis_post, Action, change, query, refused, action_of}
use Rattle.model.specs.Refusals.{right_of, lacks_right, after_login, post_rows, pending_rows, change_refusals, query_refusals, first_cause}
use Rattle.model.specs.Changes.{add_user, update_user, update_post, apply_change}
use Rattle.model.specs.Step.{respond, step_action, step_state}
use Rattle.model.specs.Replay.{frames_of, run_of}
use Rattle.model.proofs.StateRules.{stored_fits, table_fits}
use Rattle.model.proofs.ListLaws.{all_at, all_append, all_set, all_weaken, all_remove, all_contained, none_in_add, distinct_add, distinct_remove, removed_absent, map_remove, field-set, field_add}
use Rattle.model.proofs.RecordLaws.{RecordCodec}
use Rattle.model.proofs.RecordTheorems.{user_codec, post_codec, pending_codec}
use Rattle.model.proofs.TableRecordLaws.{record_fits, codec_fits, fits_count, fits_records, fits-set, fits_add, fits_remove}
use Rattle.model.proofs.WritingLaws.{fits-users}
use Rattle.model.proofs.EmptyBoard.{no_users, empty-fits, empty-keeps}
use Rattle.model.proofs.BoardTheorems.{fitting}
use Rattle.model.proofs.JournalLaws.{last_state, run-keeps}
use Rattle.model.proofs.ActionLaws.{ValidNumber, ChangeFits, ActionFits, action-fits}
use Rattle.model.proofs.AcceptedLaws.{none_applies, slot_below, post-below}
use Rattle.model.proofs.RowInvariant.{friend-request-valid, friend-valid, unfriend_valid}
use Rattle.model.proofs.RuleLaws.{ValidState, Rules, with_users_lem, rules_of, keeps-rules}

-- ---- the numbers of a table with a further record

module _ {A : Type 0} (number : A → ℕ) (xs : List A) (x : A) where
  numbers_added : map number (xs ++ (x ∷ [])) ≡ map number xs ++ (number x ∷ [])
  numbers_added = map-append number xs (x ∷ [])

  not_zero_added : for_all (ltb 0) (map number xs) ≡ true → 0 < number x → for_all (ltb 0) (map number (xs ++ (x ∷ []))) ≡ true
  unfolding for_all
  not_zero_added e h =
      ap (for_all (ltb 0)) numbers_added ∙ all_append (ltb 0) (map number xs) (number x ∷ []) ∙ and_both e (and_both (lt-ltb 0 (number x) h) refl)

  distinct_added : distinct (map number xs) ≡ true → contains (number x) (map number xs) ≡ false → distinct (map number (xs ++ (x ∷ []))) ≡ true
  distinct_added e n = ap distinct numbers_added ∙ distinct_add (map number xs) (number x) e n

-- a record of a table that fits has room for its fields
record-fits : {A : Type 0} (c : RecordCodec A) (limit : ℕ) (xs : List A) → codec_fits c limit xs ≡ true → (i : ℕ) (d : A) → i < length xs
    → record_fits c (get_or xs i d) ≡ true
record-fits c limit xs f i d h = all_at (record_fits c) xs i d (fits_records c limit xs f) h

-- ---- rows of all slots: an unused one has the rows of `no_user`, which are zero

no_bit : (j : ℕ) → bit_at 0 j ≡ 0
no_bit j = bit_beyond 0 0 j (lit< tt) zero-le

not_set : (j : ℕ) → has_bit 0 j ≡ false
not_set j = has_beyond 0 0 j (lit< tt) zero-le

module _ (s : State) (r : Rules s) where
  abbrev count : ℕ
  count = length s.users

  every_slot : (holds : ℕ → User → Type 0) → ((i : ℕ) → i < count → holds i (user_at s i)) → ((i : ℕ) → count ≤ i → holds i no_user)
      → (i : ℕ) → holds i (user_at s i)
  unfolding user_at
  every_slot holds used unused i =
      cases (ltb i count) (λ e. used i (ltb-true i count e))
      (λ e. let h = ltb-false i count e in subst (holds i) (sym (get_or-eq_default s.users no_user h)) (unused i h))

  pub all_friends-below : (i : ℕ) → (user_at s i).friends < 2 ^ length s.users
  all_friends-below = every_slot (λ i u. u.friends < 2 ^ count) r.friends-below (λ i h. pow_pos count)

  pub all_requests-below : (i : ℕ) → (user_at s i).requests < 2 ^ length s.users
  all_requests-below = every_slot (λ i u. u.requests < 2 ^ count) r.requests-below (λ i h. pow_pos count)

  no_own-friend : (i : ℕ) → has_bit (user_at s i).friends i ≡ false
  no_own-friend = every_slot (λ i u. has_bit u.friends i ≡ false) r.not_own-friend (λ i h. not_set i)

  no_own-request : (i : ℕ) → has_bit (user_at s i).requests i ≡ false
  no_own-request = every_slot (λ i u. has_bit u.requests i ≡ false) r.not_own-request (λ i h. not_set i)

  pub all_symmetric : (i j : ℕ) → bit_at (user_at s i).friends j ≡ bit_at (user_at s j).friends i
  all_symmetric =
      every_slot (λ i u. (j : ℕ) → bit_at u.friends j ≡ bit_at (user_at s j).friends i)
      (λ i h. every_slot (λ j u. bit_at (user_at s i).friends j ≡ bit_at u.friends i) (λ j l. r.symmetric i j h l)
      (λ j l. bit_beyond (user_at s i).friends count j (all_friends-below i) l ∙ sym (no_bit i)))
      (λ i h j. no_bit j ∙ sym (bit_beyond (user_at s j).friends count i (all_friends-below j) h))

  -- a request row has no bit of a friend
  pub all_apart : (i j : ℕ) → j < user_limit → (has_bit (user_at s i).friends j && has_bit (user_at s i).requests j) ≡ false
  all_apart i j l =
      every_slot (λ i u. (has_bit u.friends j && has_bit u.requests j) ≡ false) (λ i h. r.apart i j h l)
      (λ i h. ap (λ (t : Bool). t && has_bit 0 j) (not_set j)) i

-- ---- users

abbrev numbers_of : List User → List ℕ
numbers_of us = map (λ (u : User). u.number) us

-- other users, at least as many, with the same rows in all slots
record UsersKept (s : State) (us : List User) : Type 0 where
  fits : table_fits user_limit user_fields us ≡ true
  more : length s.users ≤ length us
  present : 0 < length us
  not_zero : for_all (ltb 0) (numbers_of us) ≡ true
  differ : distinct (numbers_of us) ≡ true
  unregistered : for_all (λ (x : ℕ). not (contains x (numbers_of us))) (pending_numbers s) ≡ true
  same-friends : (i : ℕ) → (get_or us i no_user).friends ≡ (get_or s.users i no_user).friends
  same-requests : (i : ℕ) → (get_or us i no_user).requests ≡ (get_or s.users i no_user).requests

valid-users : (s : State) → ValidState s → (us : List User) → UsersKept s us → ValidState (with_users s us)
unfolding user_numbers post_numbers pending_numbers user_at note_at notes_to
valid-users s v us k =
    let r = rules_of s v.keeps in
    let wider : 2 ^ length s.users ≤ 2 ^ length us = pow_mono k.more in
    record {
      fits = fits-users s v.fits us k.fits;
      keeps = keeps-rules (with_users s us) (record {
        nothing_else = with_users_lem (with_users s us) k.present;
        users_not_zero = k.not_zero;
        posts_not_zero = r.posts_not_zero;
        pending_not_zero = r.pending_not_zero;
        users-distinct = k.differ;
        posts-distinct = r.posts-distinct;
        pending-distinct = r.pending-distinct;
        pending-unregistered = k.unregistered;
        symmetric = λ i j h l.
            ap (λ (row : ℕ). bit_at row j) (k.same-friends i) ∙ all_symmetric s r i j ∙ sym (ap (λ (row : ℕ). bit_at row i) (k.same-friends j));
        not_own-friend = λ i h. ap (λ (row : ℕ). has_bit row i) (k.same-friends i) ∙ no_own-friend s r i;
        not_own-request = λ i h. ap (λ (row : ℕ). has_bit row i) (k.same-requests i) ∙ no_own-request s r i;
        friends-below = λ i h. omega (arith, k.same-friends i, all_friends-below s r i, wider);
        requests-below = λ i h. omega (arith, k.same-requests i, all_requests-below s r i, wider);
        unrequested_empty = λ i j h l e. r.unrequested_empty i j h l (ap (λ (row : ℕ). has_bit row j) (sym (k.same-requests i)) ∙ e);
        owners = all_weaken (λ (p : Post). ltb p.owner (length s.users)) (λ (p : Post). ltb p.owner (length us))
            (λ p e. lt-ltb p.owner (length us) (lt_of_lt_of_le (ltb-true p.owner (length s.users) e) k.more)) s.posts r.owners;
        visibilities = r.visibilities;
        apart = λ i j h l.
            ap₂ (λ (friends requests : ℕ). has_bit friends j && has_bit requests j) (k.same-friends i) (k.same-requests i) ∙ all_apart s r i j l;
      });
    }

-- ---- posts and pending registrations

record PostsKept (s : State) (ps : List Post) : Type 0 where
  fits : table_fits post_limit post_fields ps ≡ true
  not_zero : for_all (ltb 0) (map (λ (p : Post). p.number) ps) ≡ true
  differ : distinct (map (λ (p : Post). p.number) ps) ≡ true
  owners : for_all (λ (p : Post). ltb p.owner (length s.users)) ps ≡ true
  visibilities : for_all (λ (p : Post). leb p.visibility 1) ps ≡ true

record PendingKept (s : State) (ks : List Pending) : Type 0 where
  fits : table_fits pending_limit pending_fields ks ≡ true
  not_zero : for_all (ltb 0) (map (λ (p : Pending). p.number) ks) ≡ true
  differ : distinct (map (λ (p : Pending). p.number) ks) ≡ true
  unregistered : for_all (λ (x : ℕ). not (contains x (user_numbers s))) (map (λ (p : Pending). p.number) ks) ≡ true

module _ (s : State) (v : ValidState s) where
  own-posts : PostsKept s s.posts
  unfolding post_numbers
  own-posts =
      let r = rules_of s v.keeps in
      record { fits = v.fits.posts; not_zero = r.posts_not_zero; differ = r.posts-distinct; owners = r.owners; visibilities = r.visibilities }

  own-pending : PendingKept s s.pending
  unfolding pending_numbers
  own-pending =
      let r = rules_of s v.keeps in
      record { fits = v.fits.pending; not_zero = r.pending_not_zero; differ = r.pending-distinct; unregistered = r.pending-unregistered }

  valid_tables : 0 < length s.users → (ps : List Post) → PostsKept s ps → (ks : List Pending) → PendingKept s ks
      → ValidState (record { users = s.users; posts = ps; pending = ks; notes = s.notes })
  unfolding user_numbers post_numbers pending_numbers user_at note_at notes_to
  valid_tables present ps p ks k =
      let r = rules_of s v.keeps in
      let t : State = record { users = s.users; posts = ps; pending = ks; notes = s.notes } in
      record {
        fits = record { users = v.fits.users; posts = p.fits; pending = k.fits; notes = v.fits.notes; full = v.fits.full };
        keeps = keeps-rules t (record {
          nothing_else = with_users_lem t present;
          users_not_zero = r.users_not_zero;
          posts_not_zero = p.not_zero;
          pending_not_zero = k.not_zero;
          users-distinct = r.users-distinct;
          posts-distinct = p.differ;
          pending-distinct = k.differ;
          pending-unregistered = k.unregistered;
          symmetric = r.symmetric;
          not_own-friend = r.not_own-friend;
          not_own-request = r.not_own-request;
          friends-below = r.friends-below;
          requests-below = r.requests-below;
          unrequested_empty = r.unrequested_empty;
          owners = p.owners;
          visibilities = p.visibilities;
          apart = r.apart;
        });
      }

-- ---- the kinds

module _ (s : State) (v : ValidState s) where
  -- a new user, neither registered nor pending
  added_user-valid : (u p : ℕ) → ValidNumber u → p < 2 ^ 64 → length s.users < user_limit → is_registered s u ≡ false → is_pending s u ≡ false
      → ValidState (add_user s u p)
  unfolding add_user for_all user_fields stored_fits is_string is_registered is_pending user_numbers
  added_user-valid u p n h room new other =
      let r = rules_of s v.keeps in
      let user : User = record { number = u; password = p; friends = 0; requests = 0; name = []; info = [] } in
      let us : List User = s.users ++ (user ∷ []) in
      let l : length us ≡ length s.users + 1 = length-append s.users (user ∷ []) in
      let number : User → ℕ = λ a. a.number in
      valid-users s v us (record {
        fits = fits_add user_codec user_limit s.users v.fits.users user room
            (and_both (lt-ltb u (256 ^ 4) n.below) (and_both (lt-ltb p (256 ^ 8) h) refl));
        more = omega arith;
        present = omega arith;
        not_zero = not_zero_added number s.users user r.users_not_zero n.positive;
        differ = distinct_added number s.users user r.users-distinct new;
        unregistered = ap (λ (ns : List ℕ). for_all (λ (x : ℕ). not (contains x ns)) (pending_numbers s)) (numbers_added number s.users user)
            ∙ none_in_add (numbers_of s.users) (pending_numbers s) u r.pending-unregistered other;
        same-friends = field_add (λ (a : User). a.friends) s.users user no_user refl;
        same-requests = field_add (λ (a : User). a.requests) s.users user no_user refl;
      })

module _ (s : State) (v : ValidState s) where
  -- a pending registration added
  registration-request-valid : (u : ℕ) (note : List ℕ) → ChangeFits (c_nu_req u note) → first_cause (change_refusals s (c_nu_req u note)) ≡ none
      → ValidState (apply_change s (c_nu_req u note))
  unfolding change_refusals apply_change for_all pending_fields stored_fits is_registered is_pending user_numbers pending_numbers
  registration-request-valid u note f e =
      let r = rules_of s v.keeps in
      let passes = none_applies (change_refusals s (c_nu_req u note)) e in
      let number : Pending → ℕ = λ k. k.number in
      let k : Pending = record { number = u; note = note } in
      let ks : List Pending = s.pending ++ (k ∷ []) in
      let present : length s.users ≡ 0 → ⊥ = eqb-false (length s.users) 0 (passes 0) in
      valid_tables s v (omega arith) s.posts (own-posts s v) ks (record {
        fits = fits_add pending_codec pending_limit s.pending v.fits.pending k (leb-false pending_limit (length s.pending) (passes 3))
            (and_both (lt-ltb u (256 ^ 4) f.0.below) (and_both f.1 refl));
        not_zero = not_zero_added number s.pending k r.pending_not_zero f.0.positive;
        differ = distinct_added number s.pending k r.pending-distinct (passes 2);
        unregistered = ap (for_all (λ (x : ℕ). not (contains x (user_numbers s)))) (numbers_added number s.pending k)
            ∙ all_append (λ (x : ℕ). not (contains x (user_numbers s))) (pending_numbers s) (u ∷ [])
            ∙ and_both r.pending-unregistered (and_both (ap not (passes 1)) refl);
      })

  -- a pending registration removed
  without_pending-valid : (i : ℕ) → 0 < length s.users → ValidState (with_pending s (remove_at i s.pending))
  unfolding remove_at pending_numbers
  without_pending-valid i present =
      let r = rules_of s v.keeps in
      let number : Pending → ℕ = λ k. k.number in
      let numbers : map number (remove_at i s.pending) ≡ remove_at i (pending_numbers s) = map_remove number i s.pending in
      let unregistered : ℕ → Bool = λ x. not (contains x (user_numbers s)) in
      valid_tables s v present s.posts (own-posts s v) (remove_at i s.pending) (record {
        fits = fits_remove pending_codec pending_limit s.pending v.fits.pending i;
        not_zero = ap (for_all (ltb 0)) numbers ∙ all_remove (ltb 0) i (pending_numbers s) r.pending_not_zero;
        differ = ap distinct numbers ∙ distinct_remove i (pending_numbers s) r.pending-distinct;
        unregistered = ap (for_all unregistered) numbers ∙ all_remove unregistered i (pending_numbers s) r.pending-unregistered;
      })

  -- a post added
  post-valid : (u p n : ℕ) (title : List ℕ) → ChangeFits (c_post u p n title) → first_cause (change_refusals s (c_post u p n title)) ≡ none
      → ValidState (apply_change s (c_post u p n title))
  unfolding change_refusals after_login apply_change for_all post_fields stored_fits is_string is_post post_numbers
  post-valid u p n title f e =
      let r = rules_of s v.keeps in
      let passes = none_applies (change_refusals s (c_post u p n title)) e in
      let slot = slot_below s u (not-false (is_registered s u) (passes 0)) in
      let few = fits_count user_codec user_limit s.users v.fits.users in
      let number : Post → ℕ = λ q. q.number in
      let q : Post = record { number = n; picture = 0; owner = user_slot s u; visibility = 0; title = title; text = [] } in
      let ps : List Post = s.posts ++ (q ∷ []) in
      valid_tables s v (omega arith) ps (record {
        fits = fits_add post_codec post_limit s.posts v.fits.posts q (leb-false post_limit (length s.posts) (passes 3))
            (and_both (lt-ltb n (256 ^ 4) f.2.below) (and_both refl
            (and_both (lt-ltb (user_slot s u) (256 ^ 2) (omega arith)) (and_both refl (and_both f.3 refl)))));
        not_zero = not_zero_added number s.posts q r.posts_not_zero f.2.positive;
        differ = distinct_added number s.posts q r.posts-distinct (passes 2);
        owners = all_append (λ (a : Post). ltb a.owner (length s.users)) s.posts (q ∷ [])
            ∙ and_both r.owners (and_both (lt-ltb (user_slot s u) (length s.users) slot) refl);
        visibilities = all_append (λ (a : Post). leb a.visibility 1) s.posts (q ∷ []) ∙ and_both r.visibilities refl;
      }) s.pending (own-pending s v)

  -- field k of a post changed, which is not its number or owner
  post-field-valid : (kind u p n : ℕ) → first_cause (post_rows s kind u p n) ≡ none → (k : ℕ) (field : StoredField) → stored_fits field ≡ true
      → (y : Post) → post_fields y ≡ set (post_fields (post_numbered s n)) k field → y.number ≡ (post_numbered s n).number
      → y.owner ≡ (post_numbered s n).owner → ((post_numbered s n).visibility ≤ 1 → y.visibility ≤ 1)
      → ValidState (with_posts s (set s.posts (post_place s n) y))
  unfolding post_rows after_login post_numbers post_numbered post_at
  post-field-valid kind u p n e k field fit y changed number owner visible =
      let r = rules_of s v.keeps in
      let passes = none_applies (post_rows s kind u p n) e in
      let slot = slot_below s u (not-false (is_registered s u) (passes 0)) in
      let i : ℕ = post_place s n in
      let h = post-below s n (not-false (is_post s n) (passes 2)) in
      let numbers = map-set_same (λ (a : Post). a.number) s.posts i y no_post number in
      let owned : Post → Bool = λ a. ltb a.owner (length s.users) in
      let visibility : Post → Bool = λ a. leb a.visibility 1 in
      let old = leb-true (get_or s.posts i no_post).visibility 1 (all_at visibility s.posts i no_post r.visibilities h) in
      valid_tables s v (omega arith) (set s.posts i y) (record {
        fits = fits-set post_codec post_limit s.posts v.fits.posts i y
            (ap (for_all stored_fits) changed ∙ all_set stored_fits (post_fields (get_or s.posts i no_post)) k field
            (record-fits post_codec post_limit s.posts v.fits.posts i no_post h) fit);
        not_zero = ap (for_all (ltb 0)) numbers ∙ r.posts_not_zero;
        differ = ap distinct numbers ∙ r.posts-distinct;
        owners = all_set owned s.posts i y r.owners
            (ap (λ (o : ℕ). ltb o (length s.users)) owner ∙ all_at owned s.posts i no_post r.owners h);
        visibilities = all_set visibility s.posts i y r.visibilities (le-leb y.visibility 1 (visible old));
      }) s.pending (own-pending s v)

  -- a user with another password, name and info
  update_valid : (u p p2 : ℕ) (name info : List ℕ) → ChangeFits (u_user u p p2 name info)
      → first_cause (change_refusals s (u_user u p p2 name info)) ≡ none → ValidState (apply_change s (u_user u p p2 name info))
  unfolding change_refusals after_login apply_change update_user user_at user_fields stored_fits user_numbers
  update_valid u p p2 name info f e =
      let r = rules_of s v.keeps in
      let i : ℕ = user_slot s u in
      let h = slot_below s u (not-false (is_registered s u) (none_applies (change_refusals s (u_user u p p2 name info)) e 0)) in
      let a : User = user_at s i in
      let y : User = with_info (with_name (with_password a p2) name) info in
      let l = length-set s.users i y in
      let numbers = map-set_same (λ (b : User). b.number) s.users i y no_user refl in
      let old = record-fits user_codec user_limit s.users v.fits.users i no_user h in
      let one = all_set stored_fits (user_fields a) 1 (unsigned 8 p2) old (lt-ltb p2 (256 ^ 8) f.2) in
      let two = all_set stored_fits (user_fields (with_password a p2)) 4 (string name_limit name) one f.3 in
      valid-users s v (set s.users i y) (record {
        fits = fits-set user_codec user_limit s.users v.fits.users i y
            (all_set stored_fits (user_fields (with_name (with_password a p2) name)) 5 (string info_limit info) two f.4);
        more = omega arith;
        present = omega arith;
        not_zero = ap (for_all (ltb 0)) numbers ∙ r.users_not_zero;
        differ = ap distinct numbers ∙ r.users-distinct;
        unregistered = ap (λ (ns : List ℕ). for_all (λ (x : ℕ). not (contains x ns)) (pending_numbers s)) numbers ∙ r.pending-unregistered;
        same-friends = field-set (λ (b : User). b.friends) s.users i y no_user refl;
        same-requests = field-set (λ (b : User). b.requests) s.users i y no_user refl;
      })

  -- a pending registration is not registered, and once removed is no longer pending
  pending-new : (w : ℕ) → is_pending s w ≡ true → (ks : List Pending) → is_registered (with_pending s ks) w ≡ false
  unfolding is_registered is_pending user_numbers
  pending-new w e ks =
      let r = rules_of s v.keeps in
      not-true (contains w (user_numbers s))
      (all_contained (λ (x : ℕ). not (contains x (user_numbers s))) (pending_numbers s) w r.pending-unregistered e)

  pending-removed : (w : ℕ) → is_pending (with_pending s (remove_at (pending_place s w) s.pending)) w ≡ false
  unfolding is_pending pending_place pending_numbers
  pending-removed w =
      let r = rules_of s v.keeps in
      ap (contains w) (map_remove (λ (k : Pending). k.number) (pending_place s w) s.pending)
      ∙ removed_absent w (pending_numbers s) r.pending-distinct

  -- a pending registration made a user: it is removed first
  user-valid : (u p w p2 : ℕ) → ChangeFits (c_user u p w p2) → first_cause (change_refusals s (c_user u p w p2)) ≡ none
      → ValidState (apply_change s (c_user u p w p2))
  unfolding change_refusals pending_rows after_login lacks_right right_of contains index_of apply_change
  user-valid u p w p2 f e =
      let passes = none_applies (change_refusals s (c_user u p w p2)) e in
      let slot = slot_below s u (not-false (is_registered s u) (passes 0)) in
      let ks : List Pending = remove_at (pending_place s w) s.pending in
      added_user-valid (with_pending s ks) (without_pending-valid (pending_place s w) (omega arith)) w p2 f.2 f.3
      (leb-false user_limit (length s.users) (passes 4)) (pending-new w (not-false (is_pending s w) (passes 3)) ks) (pending-removed w)

  -- the first user
  start-valid : (u p : ℕ) → ChangeFits (start_sys u p) → first_cause (change_refusals s (start_sys u p)) ≡ none
      → ValidState (apply_change s (start_sys u p))
  unfolding change_refusals apply_change is_registered is_pending user_numbers pending_numbers empty_state contains index_of
  start-valid u p f e =
      let r = rules_of s v.keeps in
      let passes = none_applies (change_refusals s (start_sys u p)) e in
      let none_yet : length s.users ≡ 0 = eqb-true (length s.users) 0 (not-false (eqb (length s.users) 0) (passes 0)) in
      let empty : s ≡ empty_state = no_users s v.fits r.nothing_else none_yet in
      added_user-valid s v u p f.0 f.1 (omega arith) (ap (λ (t : State). is_registered t u) empty) (ap (λ (t : State). is_pending t u) empty)

-- ---- all kinds

pub change-valid : (s : State) (c : Change) → ValidState s → ChangeFits c → first_cause (change_refusals s c) ≡ none → ValidState (apply_change s c)
unfolding change_refusals apply_change update_post post_fields stored_fits
change-valid s (start_sys u p) v f e = start-valid s v u p f e
change-valid s (c_nu_req u note) v f e = registration-request-valid s v u note f e
change-valid s (c_user u p w p2) v f e = user-valid s v u p w p2 f e
change-valid s (c_post u p n title) v f e = post-valid s v u p n title f e
change-valid s (c_friend_req u p w note) v f e = friend-request-valid s u p w note v f.3 e
change-valid s (c_friend u p w) v f e = friend-valid s u p w v e
change-valid s (d_friend u p w) v f e = unfriend_valid s u p w v e
change-valid s (u_user u p p2 name info) v f e = update_valid s v u p p2 name info f e
change-valid s (u_title_post u p n title) v f e =
    post-field-valid s v 0x0402 u p n e 4 (string title_limit title) f.3 (with_title (post_numbered s n) title) refl refl refl (λ h. h)
change-valid s (u_text_post u p n text) v f e =
    post-field-valid s v 0x0403 u p n e 5 (string text_limit text) f.3 (with_text (post_numbered s n) text) refl refl refl (λ h. h)
change-valid s (u_img_post u p n picture) v f e =
    post-field-valid s v 0x0404 u p n e 1 (unsigned 4 picture) (lt-ltb picture (256 ^ 4) f.3) (with_picture (post_numbered s n) picture)
    refl refl refl (λ h. h)
change-valid s (u_vis_post u p n x) v f e =
    post-field-valid s v 0x0405 u p n e 3 (unsigned 2 x) (lt-ltb x (256 ^ 2) (omega (arith, f.3))) (with_visibility (post_numbered s n) x)
    refl refl refl (λ h. f.3)

pub step_valid : (msg : List ℕ) (s : State) → ValidState s → ValidState (step_state msg s).state
unfolding step_state step_action respond
step_valid msg s v = by_action (action_of msg) (action-fits msg)
  where
    by_change : (c : Change) → ChangeFits c → (o : Option Cause) → first_cause (change_refusals s c) ≡ o
        → ValidState (respond o s (apply_change s c) []).state
    by_change c f none e = change-valid s c v f e
    by_change c f (some cause) e = v

    by_answer : (o : Option Cause) (body : List ℕ) → ValidState (respond o s s body).state
    by_answer none body = v
    by_answer (some cause) body = v

    by_action : (a : Action) → ActionFits a → ValidState (step_action s a).state
    by_action (change c) f = by_change c f (first_cause (change_refusals s c)) refl
    by_action (query q) f = by_answer (first_cause (query_refusals s q)) (answer_body s q)
    by_action (refused refusal) f = by_answer (some (malformed refusal)) []

-- ---- every state that a journal leads to

pub empty-valid : ValidState empty_state
empty-valid = record { fits = fitting empty_state empty-fits; keeps = empty-keeps }

pub reached_valid : (j : List ℕ) → ValidState (last_state empty_state (run_of step_state empty_state j))
unfolding run_of
reached_valid j = run-keeps step_state ValidState step_valid empty_state (frames_of j) empty-valid
