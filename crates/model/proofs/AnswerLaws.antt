-- The lengths of answers, and their frames:
--     answer-short    no answer is longer than 518 bytes; 64 posts reach it (`posts-written` of CaseTheorems)
--     posts-answer    a list of posts takes 2 bytes and 8 for each post
--     answer_framed   an answer is a frame with the number that the step returns
use Prim.Native.Nat.{ℕ, ◌+◌, ◌*◌, ◌≤◌, ◌<◌}
use native.Mathlib.Nat.{zero-mul, suc-mul}
use native.Mathlib.Omega.{arith}
use mathlib.Core.Path.{◌≡◌, refl, sym, ap₂, ◌∙◌}
use mathlib.Core.List.{List, [], ◌∷◌, map, flatten}
use mathlib.Core.Option.{Option, some, none}
use lib.ListN.{length, length-append, length-map}
use lib.Dec.{lit<, lit≤}
use Rattle.layout.specs.Numbers.{to_le_bytes}
use Rattle.layout.specs.StringFields.{string_bytes}
use Rattle.layout.specs.Bits.{set_places}
use Rattle.layout.proofs.NumberLaws.{length_to}
use Rattle.layout.proofs.BitLaws.{places_le}
use Rattle.layout.proofs.StringFieldLaws.{length-string_bytes}
use Rattle.layout.proofs.TableLaws.{index_le}
use Rattle.reader.specs.Fields.{name_limit, info_limit, title_limit, text_limit, note_limit}
use Rattle.reader.specs.Frames.{frame_bytes}
use Rattle.reader.proofs.FrameLaws.{length-frame}
use Rattle.model.specs.State.{User, Post, Pending, State, user_limit, post_limit, pending_limit, user_numbers, pending_numbers, user_at, post_at, pending_at, note_at}
use Rattle.model.specs.Board.{user_fields, post_fields, pending_fields, note_fields}
use Rattle.model.specs.Lookups.{user_slot, post_place, pending_place, user_numbered, post_numbered, note_of_request}
use Rattle.model.specs.Actions.{Cause, malformed}
use Rattle.model.specs.Actions.{Query, r_user, r_nu_req, r_am_i_admin, r_title_post, r_text_post, r_img_post, r_vis_post, r_owner_post, r_friend_req_to_me, r_friend_req_from_me, l_pending_u_reqs, l_all_users, l_all_posts, l_friend_reqs, l_friends, l_friends_of}
use Rattle.model.specs.Actions.{Action, change, query, refused, action_of}
use Rattle.model.specs.Refusals.{cause_number, refusal_order, change_refusals, query_refusals, first_cause}
use Rattle.model.specs.Changes.{apply_change}
use Rattle.model.specs.Answers.{counted_list, staff_list, post_entry, users_in, answer_body}
use Rattle.model.specs.Step.{answer_limit, Response, respond, step_action, step_state}
use Rattle.model.proofs.RecordTheorems.{user_codec, post_codec, pending_codec}
use Rattle.model.proofs.TableRecordLaws.{fits_count}
use Rattle.model.proofs.BoardTheorems.{FittingState}
use Rattle.model.proofs.StoredValues.{string-short, user-fits, post-fits, pending-fits, note-fits}
use Rattle.model.proofs.RuleLaws.{ValidState}
use Rattle.model.proofs.RefusalTheorems.{rank, rank_number}

-- ---- lists with a count

module _ {A : Type 0} (entry : A → List ℕ) (width : ℕ) (e : (x : A) → length (entry x) ≡ width) where
  pub length-entries : (xs : List A) → length (flatten (map entry xs)) ≡ length xs * width
  unfolding flatten
  length-entries [] = sym (zero-mul width)
  length-entries (x ∷ xs) =
      length-append (entry x) (flatten (map entry xs)) ∙ ap₂ (λ (m n : ℕ). m + n) (e x) (length-entries xs) ∙ omega (arith, suc-mul (length xs) width)

  -- entries of one width
  pub length-counted : (xs : List A) → length (counted_list entry xs) ≡ 2 + length xs * width
  unfolding counted_list
  length-counted xs =
      length-append (to_le_bytes 2 (length xs)) (flatten (map entry xs)) ∙ ap₂ (λ (m n : ℕ). m + n) (length_to 2 (length xs)) (length-entries xs)

length-staff : (ns : List ℕ) → length (staff_list ns) ≡ 2 + length ns * 4
unfolding staff_list
length-staff ns = length-counted (to_le_bytes 4) 4 (length_to 4) ns

pub length-post : (s : State) (p : Post) → length (post_entry s p) ≡ 8
unfolding post_entry
length-post s p = simp (length-append, length_to)

-- a list of posts takes 2 bytes and 8 for each post
pub posts-answer : (s : State) → length (counted_list (post_entry s) s.posts) ≡ 2 + length s.posts * 8
posts-answer s = length-counted (post_entry s) 8 (length-post s) s.posts

-- ---- the body of each query

number_answer : (width n : ℕ) → width ≤ 514 → length (to_le_bytes width n) ≤ 514
number_answer width n h = omega (arith, length_to width n)

module _ (s : State) (f : FittingState s) where
  note-answer : (i j : ℕ) → length (string_bytes (note_at s i j)) ≤ 514
  unfolding note_fields
  note-answer i j =
      let l = length-string_bytes (note_at s i j) in
      let h = string-short (note_fields (note_at s i j)) 0 note_limit (note_at s i j) (note-fits s f i j) (lit< tt) refl in
      omega arith

  users-answer : (row : ℕ) → length (staff_list (users_in s row)) ≤ 514
  unfolding users_in
  users-answer row =
      let l = length-staff (users_in s row) in
      let m = length-map (set_places row user_limit) (λ (j : ℕ). (user_at s j).number) in
      let h = places_le row user_limit in
      omega arith

  body-short : (q : Query) → length (answer_body s q) ≤ 514
  unfolding answer_body user_numbered post_numbered note_of_request user_numbers pending_numbers user_fields post_fields pending_fields
  body-short (r_user u p v) =
      let a : User = user_at s (user_slot s v) in
      let l = length-append (string_bytes a.name) (string_bytes a.info) in
      let n = length-string_bytes a.name in
      let i = length-string_bytes a.info in
      let hn = string-short (user_fields a) 4 name_limit a.name (user-fits s f (user_slot s v)) (lit< tt) refl in
      let hi = string-short (user_fields a) 5 info_limit a.info (user-fits s f (user_slot s v)) (lit< tt) refl in
      omega arith
  body-short (r_nu_req u p v) =
      let a : Pending = pending_at s (pending_place s v) in
      let l = length-string_bytes a.note in
      let h = string-short (pending_fields a) 1 note_limit a.note (pending-fits s f (pending_place s v)) (lit< tt) refl in
      omega arith
  body-short (r_am_i_admin u p) = lit≤ tt
  body-short (r_title_post u p n) =
      let a : Post = post_at s (post_place s n) in
      let l = length-string_bytes a.title in
      let h = string-short (post_fields a) 4 title_limit a.title (post-fits s f (post_place s n)) (lit< tt) refl in
      omega arith
  body-short (r_text_post u p n) =
      let a : Post = post_at s (post_place s n) in
      let l = length-string_bytes a.text in
      let h = string-short (post_fields a) 5 text_limit a.text (post-fits s f (post_place s n)) (lit< tt) refl in
      omega arith
  body-short (r_img_post u p n) = number_answer 4 _ (lit≤ tt)
  body-short (r_vis_post u p n) = number_answer 1 _ (lit≤ tt)
  body-short (r_owner_post u p n) = number_answer 4 _ (lit≤ tt)
  body-short (r_friend_req_to_me u p v) = note-answer (user_slot s u) (user_slot s v)
  body-short (r_friend_req_from_me u p v) = note-answer (user_slot s v) (user_slot s u)
  body-short (l_pending_u_reqs u p) =
      let l = length-staff (pending_numbers s) in
      let m = length-map s.pending (λ (a : Pending). a.number) in
      let h = fits_count pending_codec pending_limit s.pending f.pending in
      omega arith
  body-short (l_all_users u p) =
      let l = length-staff (user_numbers s) in
      let m = length-map s.users (λ (a : User). a.number) in
      let h = fits_count user_codec user_limit s.users f.users in
      omega arith
  body-short (l_all_posts u p) = let h = fits_count post_codec post_limit s.posts f.posts in omega (arith, posts-answer s)
  body-short (l_friend_reqs u p) = users-answer _
  body-short (l_friends u p) = users-answer _
  body-short (l_friends_of u p v) = users-answer _

-- ---- the answer of a step

respond-short : (c : Option Cause) (s next : State) (body : List ℕ) → length body ≤ 514 → length (respond c s next body).answer ≤ answer_limit
unfolding respond
respond-short none s next body h = omega (arith, length-frame 0 body)
respond-short (some cause) s next body h = omega (arith, length-frame (cause_number cause) [])

-- "The largest is 518 bytes."
pub answer-short : (msg : List ℕ) (s : State) → ValidState s → length (step_state msg s).answer ≤ answer_limit
unfolding step_state
answer-short msg s valid = by_action (action_of msg)
  where
    by_action : (a : Action) → length (step_action s a).answer ≤ answer_limit
    by_action (change c) = unfold step_action in respond-short (first_cause (change_refusals s c)) s (apply_change s c) [] (lit≤ tt)
    by_action (query q) = unfold step_action in respond-short (first_cause (query_refusals s q)) s s (answer_body s q) (body-short s valid.fits q)
    by_action (refused refusal) = unfold step_action in respond-short (some (malformed refusal)) s s [] (lit≤ tt)

-- ---- the frame of an answer

-- "the whole frame with number and body"
pub record FramedAnswer (r : Response State) : Type 0 where
  pub body : List ℕ
  pub equal : r.answer ≡ frame_bytes r.number body
  pub in_range : r.number < 65536

cause_in_range : (c : Cause) → cause_number c < 65536
unfolding rank
cause_in_range c =
    let e = rank_number c in
    let h = index_le (cause_number c) refusal_order in
    omega arith

respond_framed : (c : Option Cause) (s next : State) (body : List ℕ) → FramedAnswer (respond c s next body)
unfolding respond
respond_framed none s next body = record { body = body; equal = refl; in_range = lit< tt }
respond_framed (some c) s next body = record { body = []; equal = refl; in_range = cause_in_range c }

pub answer_framed : (m : List ℕ) (s : State) → FramedAnswer (step_state m s)
unfolding step_state step_action
answer_framed m s = by_action (action_of m)
  where
    by_action : (a : Action) → FramedAnswer (step_action s a)
    by_action (change c) = respond_framed (first_cause (change_refusals s c)) s (apply_change s c) []
    by_action (query q) = respond_framed (first_cause (query_refusals s q)) s s (answer_body s q)
    by_action (refused refusal) = respond_framed (some (malformed refusal)) s s []
