-- The rows of the table of "The answer", 1 to 12:
--     step_number, lowest_number, number_applies   the step returns the lowest number that applies, and none otherwise
--     table-rising    the rows follow the order of the numbers
--     rights_at_ends  which right the kinds at the ends of each range ask for
--     paper_table     for each number from 6 to 12 the kinds whose rows hold it are those of the table of refusals
--     frame_number    a frame is never refused with 1, 2 or 3 on a state
use Prim.Native.Nat.{ℕ, zero, suc, ◌≤◌, ◌<◌, suc-le-suc}
use native.Mathlib.Nat.{not-suc-le-zero, le_of_suc-le-suc, le_refl, zero-lt-suc}
use native.Mathlib.Omega.{arith}
use mathlib.Core.Path.{◌≡◌, refl, sym, ap, ◌∙◌}
use mathlib.Core.List.{List, [], ◌∷◌, ◌++◌, map}
use mathlib.Core.Bool.{Bool, true, false, not, cond, ◌&&◌, ◌||◌}
use mathlib.Core.Option.{Option, some, none, none-ne-some}
use lib.ListN.{length, get_or}
use lib.Dec.{eqb, leb, ltb, lit≤}
use borrow.Author.Tests.{leb-true, le-leb, lt-ltb}
use Rattle.layout.specs.Search.{index_of}
use Rattle.layout.proofs.BooleanLaws.{and_left, and_right, and_both}
use Rattle.reader.specs.Frames.{is_frame, kind_of, body_of}
use Rattle.reader.specs.Fields.{FieldType, FieldValue, fields_fit, field_values}
use Rattle.reader.specs.Kinds
use Rattle.reader.specs.Kinds.{ActionName, KindEntry, kinds, fields_in, kind_fields, is_known}
use Rattle.reader.specs.Messages.{content, body_content, message_content, body_fits}
use Rattle.reader.specs.declared.Refusal.{Refusal}
use Rattle.reader.specs.declared.Refusal.TheVariants.{Frame, Kind, Body}
use Rattle.model.specs.Lists.{for_all, contains}
use Rattle.model.specs.State.{State}
use Rattle.model.specs.Board.{decode}
use Rattle.model.specs.Soundness.{is_sound}
use Rattle.model.specs.Actions.{Cause, malformed, unsound_board, short_buffer, users_present, users_absent, unknown_sender, wrong_password, not_admin, user_missing, post_missing, request_missing, friendship_missing, pending_missing, not_owner, not_entitled, already_registered, already_pending, post_number_used, request_to_self, already_friends, already_requested, pending_full, users_full, posts_full}
use Rattle.model.specs.Actions.{Change, start_sys, c_nu_req, c_user, c_post, c_friend_req, c_friend, d_friend, u_user, u_title_post, u_text_post, u_img_post, u_vis_post}
use Rattle.model.specs.Actions.{Query, r_user, r_nu_req, r_am_i_admin, r_title_post, r_text_post, r_img_post, r_vis_post, r_owner_post, r_friend_req_to_me, r_friend_req_from_me, l_pending_u_reqs, l_all_users, l_all_posts, l_friend_reqs, l_friends, l_friends_of}
use Rattle.model.specs.Actions.{Action, change, query, refused, action_named, action_from, action_of}
use Rattle.model.specs.Refusals.{cause_number, refusal_order, RefusalRow, admin_right, owner_right, reader_right, friend_right, no_right, right_of, lacks_right, after_login, post_rows, user_rows, pending_rows, change_refusals, query_refusals, first_cause, number_returned, first_number}
use Rattle.model.specs.Changes.{apply_change}
use Rattle.model.specs.Answers.{answer_body}
use Rattle.model.specs.Step.{answer_limit, respond, step_action, step_state, argument_refusals, write_answer, step_with, step_of}
use Rattle.model.proofs.ListLaws.{all_weaken}

-- ---- the whole table for a message, a board and a buffer

-- rows 3 to 5, as the reader tests them
unfoldable pub message_rows : List ℕ → List RefusalRow
message_rows msg =
    (malformed Frame, not (is_frame msg)) ∷ (malformed Kind, not (is_known (kind_fields (kind_of msg))))
    ∷ (malformed Body, not (body_fits (kind_fields (kind_of msg)) (body_of msg))) ∷ []

-- rows 6 to 12 of an action; a malformed message has none
unfoldable pub action_rows : State → Action → List RefusalRow
action_rows s (change c) = change_refusals s c
action_rows s (query q) = query_refusals s q
action_rows s (refused refusal) = []

unfoldable pub state_rows : List ℕ → State → List RefusalRow
state_rows msg s = message_rows msg ++ action_rows s (action_of msg)

unfoldable pub table_rows : List ℕ → List ℕ → List ℕ → List RefusalRow
table_rows msg board buffer = argument_refusals board buffer ++ state_rows msg (decode board)

-- ---- the first row that applies to a message alone is its refusal

abbrev message_cause : Action → Option Cause
message_cause (change c) = none
message_cause (query q) = none
message_cause (refused refusal) = some (malformed refusal)

named_cause : (name : ActionName) (vs : List FieldValue) → message_cause (action_named name vs) ≡ none
unfolding action_named
named_cause Kinds.start_sys vs = refl
named_cause Kinds.c_nu_req vs = refl
named_cause Kinds.c_user vs = refl
named_cause Kinds.c_post vs = refl
named_cause Kinds.c_friend_req vs = refl
named_cause Kinds.c_friend vs = refl
named_cause Kinds.d_friend vs = refl
named_cause Kinds.u_user vs = refl
named_cause Kinds.u_title_post vs = refl
named_cause Kinds.u_text_post vs = refl
named_cause Kinds.u_img_post vs = refl
named_cause Kinds.u_vis_post vs = refl
named_cause Kinds.r_user vs = refl
named_cause Kinds.r_nu_req vs = refl
named_cause Kinds.r_am_i_admin vs = refl
named_cause Kinds.r_title_post vs = refl
named_cause Kinds.r_text_post vs = refl
named_cause Kinds.r_img_post vs = refl
named_cause Kinds.r_vis_post vs = refl
named_cause Kinds.r_owner_post vs = refl
named_cause Kinds.r_friend_req_to_me vs = refl
named_cause Kinds.r_friend_req_from_me vs = refl
named_cause Kinds.l_pending_u_reqs vs = refl
named_cause Kinds.l_all_users vs = refl
named_cause Kinds.l_all_posts vs = refl
named_cause Kinds.l_friend_reqs vs = refl
named_cause Kinds.l_friends vs = refl
named_cause Kinds.l_friends_of vs = refl

-- the action of a kind in the table
known-cause : (k : ℕ) (vs : List FieldValue) (fs : List FieldType) (es : List KindEntry) → fields_in k es ≡ some fs
    → message_cause (action_from es (content k vs)) ≡ none
unfolding fields_in action_from
known-cause k vs fs [] e = absurd (none-ne-some fs e)
known-cause k vs fs (entry ∷ es) e = by_test (eqb k entry.kind) (known-cause k vs fs es) e
  where
    by_test : (b : Bool) → (fields_in k es ≡ some fs → message_cause (action_from es (content k vs)) ≡ none)
        → cond b (some entry.fields) (fields_in k es) ≡ some fs
        → message_cause (cond b (action_named entry.action vs) (action_from es (content k vs))) ≡ none
    by_test true later q = named_cause entry.action vs
    by_test false later q = later q

kind-cause : (k : ℕ) (vs : List FieldValue) (fs : List FieldType) → kind_fields k ≡ some fs → message_cause (action_from kinds (content k vs)) ≡ none
unfolding kind_fields
kind-cause k vs fs e = known-cause k vs fs kinds e

message-cause : (msg : List ℕ) → first_cause (message_rows msg) ≡ message_cause (action_of msg)
unfolding message_rows first_cause action_of message_content body_content body_fits action_from kinds
message-cause msg = by_frame (is_frame msg)
  where
    kind : ℕ
    kind = kind_of msg

    body : List ℕ
    body = body_of msg

    by_fit : (fs : List FieldType) → kind_fields kind ≡ some fs → (b : Bool)
        → cond (not b) (some (malformed Body)) none
        ≡ message_cause (action_from kinds (cond b (content kind (field_values fs body 0)) (content 5 [])))
    by_fit fs k true = sym (kind-cause kind (field_values fs body 0) fs k)
    by_fit fs k false = refl

    by_kind : (o : Option (List FieldType)) → kind_fields kind ≡ o
        → cond (not (is_known o)) (some (malformed Kind)) (cond (not (body_fits o body)) (some (malformed Body)) none)
        ≡ message_cause (action_from kinds (body_content kind o body))
    by_kind none k = refl
    by_kind (some fs) k = by_fit fs k (fields_fit fs body 0)

    by_frame : (b : Bool) → cond (not b) (some (malformed Frame)) (cond (not (is_known (kind_fields kind))) (some (malformed Kind))
        (cond (not (body_fits (kind_fields kind) body)) (some (malformed Body)) none))
        ≡ message_cause (action_from kinds (cond b (body_content kind (kind_fields kind) body) (content 3 [])))
    by_frame true = by_kind (kind_fields kind) refl
    by_frame false = refl

-- ---- the step returns the number of the first row that applies

module _ (ys : List RefusalRow) where
  pub first_none : (xs : List RefusalRow) → first_cause xs ≡ none → first_cause (xs ++ ys) ≡ first_cause ys
  unfolding first_cause
  first_none [] e = refl
  first_none (x ∷ xs) e = by_test x.1 (first_none xs) e
    where
      by_test : (b : Bool) → (first_cause xs ≡ none → first_cause (xs ++ ys) ≡ first_cause ys)
          → cond b (some x.0) (first_cause xs) ≡ none → cond b (some x.0) (first_cause (xs ++ ys)) ≡ first_cause ys
      by_test true later q = absurd (none-ne-some x.0 (sym q))
      by_test false later q = later q

  pub first_some : (xs : List RefusalRow) (c : Cause) → first_cause xs ≡ some c → first_cause (xs ++ ys) ≡ some c
  unfolding first_cause
  first_some [] c e = absurd (none-ne-some c e)
  first_some (x ∷ xs) c e = by_test x.1 (first_some xs c) e
    where
      by_test : (b : Bool) → (first_cause xs ≡ some c → first_cause (xs ++ ys) ≡ some c)
          → cond b (some x.0) (first_cause xs) ≡ some c → cond b (some x.0) (first_cause (xs ++ ys)) ≡ some c
      by_test true later q = q
      by_test false later q = later q

respond_number : (c : Option Cause) (s next : State) (body : List ℕ) → (respond c s next body).number ≡ number_returned c
unfolding respond
respond_number none s next body = refl
respond_number (some cause) s next body = refl

-- an action behind rows whose first cause is the refusal of its message
action_number : (s : State) (rows : List RefusalRow) (a : Action) → first_cause rows ≡ message_cause a
    → (step_action s a).number ≡ number_returned (first_cause (rows ++ action_rows s a))
unfolding step_action action_rows
action_number s rows (change c) e =
    respond_number (first_cause (change_refusals s c)) s (apply_change s c) [] ∙ ap number_returned (sym (first_none (change_refusals s c) rows e))
action_number s rows (query q) e =
    respond_number (first_cause (query_refusals s q)) s s (answer_body s q) ∙ ap number_returned (sym (first_none (query_refusals s q) rows e))
action_number s rows (refused refusal) e =
    respond_number (some (malformed refusal)) s s [] ∙ ap number_returned (sym (first_some [] rows (malformed refusal) e))

pub state_number : (msg : List ℕ) (s : State) → (step_state msg s).number ≡ first_number (state_rows msg s)
unfolding step_state state_rows first_number
state_number msg s = action_number s (message_rows msg) (action_of msg) (message-cause msg)

pub step_number : (msg b o : List ℕ) → (step_of msg b o).number ≡ first_number (table_rows msg b o)
unfolding step_of step_with write_answer argument_refusals first_cause first_number table_rows
step_number msg b o = by_tests (not (is_sound b)) (ltb (length o) answer_limit)
  where
    by_tests : (x y : Bool) → (step_with (cond x (some unsound_board) (cond y (some short_buffer) none)) msg b o).number
        ≡ number_returned (cond x (some unsound_board) (cond y (some short_buffer) (first_cause (state_rows msg (decode b)))))
    by_tests true y = refl
    by_tests false true = refl
    by_tests false false = state_number msg (decode b)

-- ---- the order of the rows

-- the place of a cause in the order, which is that of the numbers
unfoldable pub rank : Cause → ℕ
rank c = index_of (cause_number c) refusal_order

pub rank_number : (c : Cause) → cause_number c ≡ suc (rank c)
unfolding rank cause_number index_of
rank_number unsound_board = refl
rank_number short_buffer = refl
rank_number (malformed Frame) = refl
rank_number (malformed Kind) = refl
rank_number (malformed Body) = refl
rank_number users_present = refl
rank_number users_absent = refl
rank_number unknown_sender = refl
rank_number wrong_password = refl
rank_number not_admin = refl
rank_number user_missing = refl
rank_number post_missing = refl
rank_number request_missing = refl
rank_number friendship_missing = refl
rank_number pending_missing = refl
rank_number not_owner = refl
rank_number not_entitled = refl
rank_number already_registered = refl
rank_number already_pending = refl
rank_number post_number_used = refl
rank_number request_to_self = refl
rank_number already_friends = refl
rank_number already_requested = refl
rank_number pending_full = refl
rank_number users_full = refl
rank_number posts_full = refl

-- ---- accepted: no row applies

pub no_cause : (o : Option Cause) → number_returned o ≡ 0 → o ≡ none
no_cause none e = refl
no_cause (some cause) e = absurd (omega (arith, rank_number cause, e))

pub refused_number : (s : State) (refusal : Refusal) → (step_action s (refused refusal)).number ≡ 0 → ⊥
unfolding step_action respond
refused_number s refusal e = none-ne-some (malformed refusal) (sym (no_cause (some (malformed refusal)) e))

-- of an action, and of a message
pub accepted-action : (s : State) (a : Action) → (step_action s a).number ≡ 0 → first_cause (action_rows s a) ≡ none
unfolding step_action action_rows
accepted-action s (change c) e = let cause = first_cause (change_refusals s c) in no_cause cause (sym (respond_number cause s (apply_change s c) []) ∙ e)
accepted-action s (query q) e = let cause = first_cause (query_refusals s q) in no_cause cause (sym (respond_number cause s s (answer_body s q)) ∙ e)
accepted-action s (refused refusal) e = absurd (refused_number s refusal e)

pub accepted-message : (msg : List ℕ) (s : State) → (step_state msg s).number ≡ 0 → first_cause (state_rows msg s) ≡ none
unfolding first_number
accepted-message msg s e = no_cause (first_cause (state_rows msg s)) (sym (state_number msg s) ∙ e)

-- ---- the rows rise

-- no element is greater than a later one
unfoldable pub rising : List ℕ → Bool
rising [] = true
rising (x ∷ xs) = for_all (leb x) xs && rising xs

unfoldable pub ranks : List RefusalRow → List ℕ
ranks rows = map (λ (r : RefusalRow). rank r.0) rows

-- the rows of each kind rise, from 6 on
module _ (s : State) where
  change-rising : (c : Change) → (for_all (leb 5) (ranks (change_refusals s c)) && rising (ranks (change_refusals s c))) ≡ true
  unfolding rising ranks rank index_of contains cause_number for_all right_of lacks_right after_login post_rows user_rows pending_rows change_refusals
  change-rising (start_sys u p) = refl
  change-rising (c_nu_req u note) = refl
  change-rising (c_user u p v p2) = refl
  change-rising (c_post u p n title) = refl
  change-rising (c_friend_req u p v note) = refl
  change-rising (c_friend u p v) = refl
  change-rising (d_friend u p v) = refl
  change-rising (u_user u p p2 name info) = refl
  change-rising (u_title_post u p n title) = refl
  change-rising (u_text_post u p n text) = refl
  change-rising (u_img_post u p n picture) = refl
  change-rising (u_vis_post u p n visibility) = refl

  query-rising : (q : Query) → (for_all (leb 5) (ranks (query_refusals s q)) && rising (ranks (query_refusals s q))) ≡ true
  unfolding rising ranks rank index_of contains cause_number for_all right_of lacks_right after_login post_rows user_rows pending_rows query_refusals
  query-rising (r_user u p v) = refl
  query-rising (r_nu_req u p v) = refl
  query-rising (r_am_i_admin u p) = refl
  query-rising (r_title_post u p n) = refl
  query-rising (r_text_post u p n) = refl
  query-rising (r_img_post u p n) = refl
  query-rising (r_vis_post u p n) = refl
  query-rising (r_owner_post u p n) = refl
  query-rising (r_friend_req_to_me u p v) = refl
  query-rising (r_friend_req_from_me u p v) = refl
  query-rising (l_pending_u_reqs u p) = refl
  query-rising (l_all_users u p) = refl
  query-rising (l_all_posts u p) = refl
  query-rising (l_friend_reqs u p) = refl
  query-rising (l_friends u p) = refl
  query-rising (l_friends_of u p v) = refl

  action-rising : (a : Action) → (for_all (leb 5) (ranks (action_rows s a)) && rising (ranks (action_rows s a))) ≡ true
  unfolding action_rows ranks for_all rising
  action-rising (change c) = change-rising c
  action-rising (query q) = query-rising q
  action-rising (refused refusal) = refl

  -- no earlier place of the order than one up to 5
  action-from : (a : Action) (least : ℕ) → least ≤ 5 → for_all (leb least) (ranks (action_rows s a)) ≡ true
  action-from a least h =
      let xs : List ℕ = ranks (action_rows s a) in
      all_weaken (leb 5) (leb least) (λ x t. let l = leb-true 5 x t in le-leb least x (omega arith)) xs
      (and_left (for_all (leb 5) xs) (rising xs) (action-rising a))

pub table-rising : (msg b o : List ℕ) → rising (ranks (table_rows msg b o)) ≡ true
unfolding table_rows state_rows argument_refusals message_rows rising ranks for_all rank cause_number index_of
table-rising msg b o =
    let a : Action = action_of msg in
    let from : (least : ℕ) → least ≤ 5 → for_all (leb least) (ranks (action_rows (decode b) a)) ≡ true = action-from (decode b) a in
    let xs : List ℕ = ranks (action_rows (decode b) a) in
    and_both (from 0 (lit≤ tt)) (and_both (from 1 (lit≤ tt)) (and_both (from 2 (lit≤ tt)) (and_both (from 3 (lit≤ tt)) (and_both (from 4 (lit≤ tt))
    (and_right (for_all (leb 5) xs) (rising xs) (action-rising (decode b) a))))))

-- ---- the lowest number

-- row i; behind the last row stands one that never applies
abbrev pub nth_row : List RefusalRow → ℕ → RefusalRow
nth_row rows i = get_or rows i (unsound_board, false)

row_from : (least : ℕ) (rows : List RefusalRow) → for_all (leb least) (ranks rows) ≡ true → (i : ℕ) → i < length rows → least ≤ rank (nth_row rows i).0
unfolding ranks for_all
row_from least [] e i h = absurd (not-suc-le-zero h)
row_from least (r ∷ rows) e zero h = leb-true least (rank r.0) (and_left (leb least (rank r.0)) (for_all (leb least) (ranks rows)) e)
row_from least (r ∷ rows) e (suc i) h =
    row_from least rows (and_right (leb least (rank r.0)) (for_all (leb least) (ranks rows)) e) i (le_of_suc-le-suc h)

-- the first that applies comes in no later place of the order than any that applies
first_least : (rows : List RefusalRow) → rising (ranks rows) ≡ true → (i : ℕ) → i < length rows → (nth_row rows i).1 ≡ true
    → (c : Cause) × (first_cause rows ≡ some c) × (rank c ≤ rank (nth_row rows i).0)
unfolding rising ranks first_cause
first_least [] e i h a = absurd (not-suc-le-zero h)
first_least (r ∷ rows) e zero h a = (r.0, ap (λ (b : Bool). cond b (some r.0) (first_cause rows)) a, le_refl (rank r.0))
first_least (r ∷ rows) e (suc i) h a =
    let below : Bool = for_all (leb (rank r.0)) (ranks rows) in
    by_test r.1 (row_from (rank r.0) rows (and_left below (rising (ranks rows)) e) i (le_of_suc-le-suc h))
    (first_least rows (and_right below (rising (ranks rows)) e) i (le_of_suc-le-suc h) a)
  where
    by_test : (b : Bool) → rank r.0 ≤ rank (nth_row rows i).0
        → (c : Cause) × (first_cause rows ≡ some c) × (rank c ≤ rank (nth_row rows i).0)
        → (c : Cause) × (cond b (some r.0) (first_cause rows) ≡ some c) × (rank c ≤ rank (nth_row rows i).0)
    by_test true l t = (r.0, refl, l)
    by_test false l t = t

-- "The lowest number that applies is returned": where a row applies the step refuses, with no greater number
pub lowest_number : (msg b o : List ℕ) (i : ℕ) → i < length (table_rows msg b o) → (nth_row (table_rows msg b o) i).1 ≡ true
    → (0 < (step_of msg b o).number) × ((step_of msg b o).number ≤ cause_number (nth_row (table_rows msg b o) i).0)
unfolding first_number
lowest_number msg b o i h a =
    let least = first_least (table_rows msg b o) (table-rising msg b o) i h a in
    let number : (step_of msg b o).number ≡ cause_number least.0 = step_number msg b o ∙ ap number_returned least.1 in
    let c = rank_number least.0 in
    let r = rank_number (nth_row (table_rows msg b o) i).0 in
    let l = least.2 in
    (omega arith, omega arith)

-- "and none otherwise": a refusal is the number of a row that applies
first_applies : (rows : List RefusalRow) (c : Cause) → first_cause rows ≡ some c → (i : ℕ) × (i < length rows) × (nth_row rows i ≡ (c, true))
unfolding first_cause
first_applies [] c e = absurd (none-ne-some c e)
first_applies (r ∷ rows) c e = by_test r.1 refl (first_applies rows c) e
  where
    by_test : (b : Bool) → r.1 ≡ b → (first_cause rows ≡ some c → (i : ℕ) × (i < length rows) × (nth_row rows i ≡ (c, true)))
        → cond b (some r.0) (first_cause rows) ≡ some c → (i : ℕ) × (i < suc (length rows)) × (nth_row (r ∷ rows) i ≡ (c, true))
    by_test true t later q = let same : r.0 ≡ c = cc in (0, zero-lt-suc (length rows), λ j. (same j, t j))
    by_test false t later q = let l = later q in (suc l.0, suc-le-suc l.1, l.2)

pub number_applies : (msg b o : List ℕ) → ((step_of msg b o).number ≡ 0 → ⊥)
    → (i : ℕ) × (i < length (table_rows msg b o)) × ((nth_row (table_rows msg b o) i).1 ≡ true)
    × (cause_number (nth_row (table_rows msg b o) i).0 ≡ (step_of msg b o).number)
unfolding first_number
number_applies msg b o h = by_cause (first_cause (table_rows msg b o)) refl
  where
    by_cause : (c : Option Cause) → first_cause (table_rows msg b o) ≡ c
        → (i : ℕ) × (i < length (table_rows msg b o)) × ((nth_row (table_rows msg b o) i).1 ≡ true)
        × (cause_number (nth_row (table_rows msg b o) i).0 ≡ (step_of msg b o).number)
    by_cause none e = absurd (h (step_number msg b o ∙ ap number_returned e))
    by_cause (some cause) e =
        let row = first_applies (table_rows msg b o) cause e in (
          row.0,
          row.1,
          ap (λ (r : RefusalRow). r.1) row.2,
          ap (λ (r : RefusalRow). cause_number r.0) row.2 ∙ sym (step_number msg b o ∙ ap number_returned e),
        )

-- ---- a frame gets 0 or at least 4 on a state

later-from : (msg : List ℕ) (s : State)
    → for_all (leb 3) (ranks ((malformed Kind, not (is_known (kind_fields (kind_of msg))))
    ∷ (malformed Body, not (body_fits (kind_fields (kind_of msg)) (body_of msg))) ∷ action_rows s (action_of msg))) ≡ true
unfolding ranks for_all rank cause_number index_of
later-from msg s = action-from s (action_of msg) 3 (lit≤ tt)

pub frame_number : (msg : List ℕ) (s : State) → is_frame msg ≡ true
    → (ltb 3 (step_state msg s).number || eqb (step_state msg s).number 0) ≡ true
unfolding state_rows message_rows first_cause first_number
frame_number msg s f =
    let later : List RefusalRow = (malformed Kind, not (is_known (kind_fields (kind_of msg))))
    ∷ (malformed Body, not (body_fits (kind_fields (kind_of msg)) (body_of msg))) ∷ action_rows s (action_of msg) in
    let number : (step_state msg s).number ≡ number_returned (first_cause later) =
    state_number msg s ∙ ap (λ (b : Bool). number_returned (cond (not b) (some (malformed Frame)) (first_cause later))) f in
    rw number (by_cause later (later-from msg s) (first_cause later) refl)
  where
    by_cause : (rows : List RefusalRow) → for_all (leb 3) (ranks rows) ≡ true → (c : Option Cause) → first_cause rows ≡ c
        → (ltb 3 (number_returned c) || eqb (number_returned c) 0) ≡ true
    by_cause rows least none e = refl
    by_cause rows least (some cause) e =
        let row = first_applies rows cause e in
        let from : 3 ≤ rank (nth_row rows row.0).0 = row_from 3 rows least row.0 row.1 in
        let same : rank (nth_row rows row.0).0 ≡ rank cause = ap (λ (r : RefusalRow). rank r.0) row.2 in
        let number = rank_number cause in
        rw (lt-ltb 3 (cause_number cause) (omega arith)) refl

-- ---- the table of refusals

-- the kinds of a list that have a row with the number, whatever the state and the values of their fields
unfoldable pub kinds_refused : State → List FieldValue → ℕ → List KindEntry → List ℕ
kinds_refused s vs number [] = []
kinds_refused s vs number (e ∷ es) =
    let others : List ℕ = kinds_refused s vs number es in
    cond (contains number (map (λ (r : RefusalRow). cause_number r.0) (action_rows s (action_named e.action vs)))) (e.kind ∷ others) others

-- the rows 6 to 12 of the table of "The answer", the kinds in their order
abbrev pub refusal_table : List (ℕ × List ℕ)
refusal_table =
    -- "0101 on a board with users; 0201 on one without"
    (6, 0x0101 ∷ 0x0201 ∷ [])
    -- "other kinds: U not registered or P wrong"
    ∷ (
      7,
      0x0202 ∷ 0x0203 ∷ 0x0204 ∷ 0x0205 ∷ 0x0301 ∷ 0x0401 ∷ 0x0402 ∷ 0x0403 ∷ 0x0404 ∷ 0x0405
          ∷ 0x0501 ∷ 0x0502 ∷ 0x0503 ∷ 0x0504 ∷ 0x0505 ∷ 0x0506 ∷ 0x0507 ∷ 0x0508 ∷ 0x0509 ∷ 0x050a
          ∷ 0x0601 ∷ 0x0602 ∷ 0x0603 ∷ 0x0604 ∷ 0x0605 ∷ 0x0606 ∷ [],
    )
    -- "0202, 0502, 0601: U not the admin"
    ∷ (8, 0x0202 ∷ 0x0502 ∷ 0x0601 ∷ [])
    -- "V not registered (0202, 0502: not pending), post unknown (0402 to 0405, 0504 to 0508), no such request (0205, 0509, 050A), not
    -- friends (0301)": V stands in 0202, 0204, 0205, 0301, 0501, 0502, 0509, 050A and 0606
    ∷ (
      9,
      0x0202 ∷ 0x0204 ∷ 0x0205 ∷ 0x0301 ∷ 0x0402 ∷ 0x0403 ∷ 0x0404 ∷ 0x0405
          ∷ 0x0501 ∷ 0x0502 ∷ 0x0504 ∷ 0x0505 ∷ 0x0506 ∷ 0x0507 ∷ 0x0508 ∷ 0x0509 ∷ 0x050a ∷ 0x0606 ∷ [],
    )
    -- "0402 to 0405: not the owner; 0504 to 0507, 0606: not entitled"
    ∷ (10, 0x0402 ∷ 0x0403 ∷ 0x0404 ∷ 0x0405 ∷ 0x0504 ∷ 0x0505 ∷ 0x0506 ∷ 0x0507 ∷ 0x0606 ∷ [])
    -- "0201: registered or pending; 0203: post number used; 0204: V is U, already friends, or U's request is pending"; "for 0205 refusal 11
    -- is never met" (document 02, change 2; `never_eleven` of RequestTheorems)
    ∷ (11, 0x0201 ∷ 0x0203 ∷ 0x0204 ∷ [])
    -- "0201 with 16 pending, 0202 with 32 users, 0203 with 64 posts"
    ∷ (12, 0x0201 ∷ 0x0202 ∷ 0x0203 ∷ [])
    ∷ []

pub paper_table : (s : State) (vs : List FieldValue)
    → map (λ (row : ℕ × List ℕ). kinds_refused s vs row.0 kinds) refusal_table ≡ map (λ (row : ℕ × List ℕ). row.1) refusal_table
unfolding kinds_refused kinds action_named action_rows index_of contains cause_number right_of lacks_right after_login post_rows user_rows pending_rows change_refusals query_refusals
paper_table s vs = refl

-- the rights at both ends of each range of kinds, and next to them
pub rights_at_ends : map right_of (0 ∷ 0x0202 ∷ 0x0401 ∷ 0x0402 ∷ 0x0405 ∷ 0x0406 ∷ 0x0502 ∷ 0x0503 ∷ 0x0504 ∷ 0x0507 ∷ 0x0508 ∷ 0x0601 ∷ 0x0605 ∷ 0x0606 ∷ 0x0607 ∷ [])
    ≡ no_right ∷ admin_right ∷ no_right ∷ owner_right ∷ owner_right ∷ no_right ∷ admin_right ∷ no_right ∷ reader_right ∷ reader_right ∷ no_right ∷ admin_right
    ∷ no_right ∷ friend_right ∷ no_right ∷ []
unfolding right_of contains index_of
rights_at_ends = refl
