-- "Requests that crossed" (document 02, change 2), the statements of specs/Requests:
--     requests-removed       an accepted 0205 makes the two friends and leaves a valid state, and there friends have no request between them
--     nine_between_friends   so the row for a missing request applies to a 0205 between friends
--     never_eleven           no row that may refuse a message of kind 0205 has the number 11
--     replayed_not_friends   a replay leaves the board of a valid state
use Prim.Native.Nat.{ℕ, ◌<◌}
use native.Mathlib.Omega.{arith}
use mathlib.Core.Path.{◌≡◌, refl, sym, ap, ◌∙◌}
use mathlib.Core.Logic.{◌≢◌}
use mathlib.Core.List.{List, [], ◌∷◌}
use mathlib.Core.Bool.{Bool, true, false, not, cond, ◌&&◌, true≢false}
use mathlib.Core.Option.{Option, some, none}
use lib.ListN.{length, length-set}
use lib.Dec.{eqb}
use borrow.Author.Tests.{eqb-false, eq-eqb, not-true, not-false}
use Rattle.layout.specs.Search.{index_of}
use Rattle.layout.specs.Bits.{has_bit, set_bit}
use Rattle.layout.proofs.BooleanLaws.{and_left, and_right, and_both, cond_same, refuted}
use Rattle.layout.proofs.BitLaws.{has_below}
use Rattle.reader.specs.Frames.{is_frame, kind_of, body_of}
use Rattle.reader.specs.Fields.{FieldType, FieldValue, fields_fit, field_values}
use Rattle.reader.specs.Kinds.{kinds, kind_fields}
use Rattle.reader.specs.Messages.{Content, content, body_content, message_content}
use Rattle.model.specs.Lists.{for_all}
use Rattle.model.specs.State.{User, State, user_limit, user_numbers, user_at}
use Rattle.model.specs.StateUpdates.{with_friends}
use Rattle.model.specs.Board.{decode}
use Rattle.model.specs.Lookups.{is_registered, user_slot, user_numbered, are_friends, has_requested, note_of_request}
use Rattle.model.specs.Actions.{user_missing, request_missing, c_friend, Action, change, action_named, action_from, action_of}
use Rattle.model.specs.Refusals.{cause_number, RefusalRow, after_login, user_rows, change_refusals, first_cause, number_returned, first_number}
use Rattle.model.specs.Changes.{update_user, write_friend, add_friends, remove_requests, accept_request, apply_change}
use Rattle.model.specs.Step.{respond, step_action, step_state, argument_refusals}
use Rattle.model.specs.Replay.{replay_of}
use Rattle.model.specs.Requests.{NoRequest, RequestsRemoved, NineBetweenFriends, NeverEleven, RequestedNotFriends}
use Rattle.model.proofs.RecordTheorems.{user_codec}
use Rattle.model.proofs.TableRecordLaws.{fits_count}
use Rattle.model.proofs.AcceptedLaws.{none_applies, slot_below}
use Rattle.model.proofs.RuleLaws.{ValidState, rules_of}
use Rattle.model.proofs.RowInvariant.{set_writes, bits-written, friend-numbers, requests-removed-numbers, requests-removed-length, friend-valid}
use Rattle.model.proofs.Invariant.{all_friends-below}
use Rattle.model.proofs.RefusalTheorems.{message_rows, action_rows, state_rows, table_rows, step_number, accepted-action}
use Rattle.model.proofs.SafetyTheorems.{friendship_symmetric, requested_not_friends}
use Rattle.model.proofs.StepTheorems.{valid-board}
use Rattle.model.proofs.ReplayTheorems.{replayed-valid}

-- ---- on a valid state friends have no request between them

module _ (s : State) (valid : ValidState s) where
  -- the slot of a friend is one of the 32
  friend-below : (u v : ℕ) → are_friends s u v ≡ true → user_slot s v < user_limit
  unfolding are_friends user_numbered
  friend-below u v e =
      omega (
        arith,
        fits_count user_codec user_limit s.users valid.fits.users,
        has_below (user_at s (user_slot s u)).friends (length s.users) (user_slot s v) (all_friends-below s (rules_of s valid.keeps) (user_slot s u)) e,
      )

  no_request : (u v : ℕ) → are_friends s u v ≡ true → NoRequest s v u
  unfolding has_requested note_of_request user_numbered
  no_request u v e =
      let none : has_requested s v u ≡ false = refuted (has_requested s v u) (λ r. true≢false (sym e ∙ requested_not_friends s valid u v r)) in
      let swapped : are_friends s v u ≡ true = friendship_symmetric s valid v u ∙ e in
      (none, (rules_of s valid.keeps).unrequested_empty (user_slot s u) (user_slot s v) (friend-below v u swapped) (friend-below u v e) none)

  no_request_between : (u v : ℕ) → are_friends s u v ≡ true → NoRequest s u v × NoRequest s v u
  no_request_between u v e = (no_request v u (friendship_symmetric s valid v u ∙ e), no_request u v e)

-- ---- an accepted 0205 makes the two friends

module _ (s : State) (valid : ValidState s) (u p v : ℕ) (accepted : first_cause (change_refusals s (c_friend u p v)) ≡ none) where
  slots : (user_slot s u < length s.users) × (user_slot s v < length s.users)
  unfolding change_refusals user_rows after_login
  slots =
      let passes = none_applies (change_refusals s (c_friend u p v)) accepted in
      (slot_below s u (not-false (is_registered s u) (passes 0)), slot_below s v (not-false (is_registered s v) (passes 2)))

  -- the numbers keep their slots
  same_numbers : user_numbers (apply_change s (c_friend u p v)) ≡ user_numbers s
  unfolding apply_change accept_request add_friends
  same_numbers =
      let i : ℕ = user_slot s u in
      let j : ℕ = user_slot s v in
      friend-numbers set_bit (remove_requests s i j) i j ∙ requests-removed-numbers s i j

  now_friends : are_friends (apply_change s (c_friend u p v)) u v ≡ true
  unfolding are_friends user_numbered user_slot apply_change accept_request add_friends update_user
  now_friends =
      let i : ℕ = user_slot s u in
      let j : ℕ = user_slot s v in
      let n = fits_count user_codec user_limit s.users valid.fits.users in
      let h = slots in
      let s₁ : State = remove_requests s i j in
      let s₂ : State = write_friend set_bit s₁ i j in
      let g : ℕ → User → User = λ (k : ℕ) (a : User). with_friends a (set_bit a.friends k) in
      let first : has_bit (user_at s₂ i).friends j ≡ true =
      bits-written set_writes s₁ i j (g j) (λ a. a.friends) (rw (requests-removed-length s i j) h.0) (omega arith) (λ a. refl) i j
      ∙ ap (λ (t : Bool). cond t true (has_bit (user_at s₁ i).friends j)) (and_both (eq-eqb i i refl) (eq-eqb j j refl))
      in
      let there : j < length s₂.users = rw (length-set, requests-removed-length s i j) h.1 in
      ap (λ (ns : List ℕ). has_bit (user_at (apply_change s (c_friend u p v)) (index_of u ns)).friends (index_of v ns)) same_numbers
      ∙ bits-written set_writes s₂ j i (g i) (λ a. a.friends) there (omega arith) (λ a. refl) i j
      ∙ ap (cond (eqb i j && eqb j i) true) first ∙ cond_same (eqb i j && eqb j i) true

pub requests-removed : RequestsRemoved
unfolding RequestsRemoved step_state step_action respond action_rows
requests-removed msg b u p v bytes sound is_acceptance number =
    let s : State = decode b in
    let valid = valid-board b bytes sound in
    let accepted : first_cause (change_refusals s (c_friend u p v)) ≡ none =
    accepted-action s (change (c_friend u p v)) (ap (λ (a : Action). (step_action s a).number) (sym is_acceptance) ∙ number)
    in
    let t : State = apply_change s (c_friend u p v) in
    let friends = now_friends s valid u p v accepted in
    rw (is_acceptance, accepted) (friends, no_request_between t (friend-valid s u p v valid accepted) u v friends)

-- whoever v is: the row for a missing user and the row for a missing request have the same number
pub nine_between_friends : NineBetweenFriends
unfolding NineBetweenFriends step_state step_action respond change_refusals user_rows after_login first_cause cause_number
nine_between_friends msg b u p v bytes sound is_acceptance known password friends =
    let s : State = decode b in
    let none = (no_request s (valid-board b bytes sound) u v friends).0 in
    rw (is_acceptance, known, password, none) (by_test (is_registered s v))
  where
    by_test : (t : Bool) → (respond (cond (not t) (some user_missing) (some request_missing)) (decode b) (apply_change (decode b) (c_friend u p v)) []).number ≡ 9
    by_test true = refl
    by_test false = refl

-- ---- 0205 and the number 11

-- a row has another number than n
abbrev has_other : ℕ → RefusalRow → Bool
has_other n r = not (eqb (cause_number r.0) n)

-- a number that no row has is not returned
not_returned : (n : ℕ) → n ≢ 0 → (rows : List RefusalRow) → for_all (has_other n) rows ≡ true → first_number rows ≢ n
unfolding for_all first_cause first_number
not_returned n positive [] e = λ q. positive (sym q)
not_returned n positive (r ∷ rows) e = by_test r.1 (not_returned n positive rows (and_right (has_other n r) (for_all (has_other n) rows) e))
  where
    by_test : (t : Bool) → number_returned (first_cause rows) ≢ n → number_returned (cond t (some r.0) (first_cause rows)) ≢ n
    by_test true later = eqb-false (cause_number r.0) n (not-true (eqb (cause_number r.0) n) (and_left (has_other n r) (for_all (has_other n) rows) e))
    by_test false later = later

-- none of the rows 6 to 12 of a message of kind 0205 has 11: it is malformed, and has no such row, or it is a `c_friend`
acceptance-rows : (msg : List ℕ) (s : State) → kind_of msg ≡ 0x0205
    → for_all (has_other 11) (action_rows s (action_of msg)) ≡ true
unfolding action_of message_content body_content kinds action_from action_named action_rows change_refusals user_rows after_login for_all cause_number
acceptance-rows msg s k = by_frame (is_frame msg)
  where
    passes : Content → Bool
    passes c = for_all (has_other 11) (action_rows s (action_from kinds c))

    by_fit : (vs : List FieldValue) (t : Bool) → passes (cond t (content (kind_of msg) vs) (content 5 [])) ≡ true
    by_fit vs true = ap (λ (x : ℕ). passes (content x vs)) k
    by_fit vs false = refl

    by_fields : (fields : Option (List FieldType)) → passes (body_content (kind_of msg) fields (body_of msg)) ≡ true
    by_fields none = refl
    by_fields (some fs) = by_fit (field_values fs (body_of msg) 0) (fields_fit fs (body_of msg) 0)

    by_frame : (t : Bool) → passes (cond t (body_content (kind_of msg) (kind_fields (kind_of msg)) (body_of msg)) (content 3 [])) ≡ true
    by_frame true = by_fields (kind_fields (kind_of msg))
    by_frame false = refl

pub never_eleven : NeverEleven
unfolding NeverEleven table_rows state_rows argument_refusals message_rows for_all cause_number
never_eleven msg b o k e =
    not_returned 11 (λ q. omega arith) (table_rows msg b o) (acceptance-rows msg (decode b) k) (sym (step_number msg b o) ∙ e)

-- ---- CoSMed's fourth safety property

pub replayed_not_friends : RequestedNotFriends
unfolding RequestedNotFriends
replayed_not_friends j b o u v bytes sound e =
    let s : State = decode (replay_of j b o).board in
    let valid = replayed-valid j b o bytes sound in
    let apart = requested_not_friends s valid u v e in
    (apart, friendship_symmetric s valid v u ∙ apart)
