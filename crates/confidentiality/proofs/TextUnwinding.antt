-- The conditions of the unwinding theorem for the text of a post and the step of the model (`text_unwinding`): `low` is the state without
-- the text (`redact`), `shown` is the text. They hold too of a step with the same states whose answers depend on the message alone
-- (`fixed_unwinding`).
use Prim.Native.Nat.{ℕ}
use mathlib.Core.Path.{◌≡◌, refl, sym, ap, ◌∙◌, subst}
use mathlib.Core.List.{List, [], ◌∷◌, foldl}
use mathlib.Core.Bool.{Bool, true, false, ◌&&◌, true≢false, false≢true}
use mathlib.Core.Option
use mathlib.Core.Option.{Option, none}
use lib.ListN.{get_or}
use lib.Dec.{eqb}
use borrow.Author.Tests.{eqb-true, not-false}
use borrow.Table.Steps.{cases}
use Rattle.layout.proofs.BooleanLaws.{and_left, and_right}
use Rattle.reader.specs.Messages.{Content, message_content}
use Rattle.layout.specs.Search.{index_of}
use Rattle.model.specs.Lists.{contains}
use Rattle.model.specs.State.{State, empty_state}
use Rattle.model.specs.Lookups.{is_registered, is_post, is_owner, may_read}
use Rattle.model.specs.Actions.{unsound_board, Action, change, query, u_text_post, r_text_post, action_of}
use Rattle.model.specs.Refusals.{right_of, lacks_right, after_login, post_rows, change_refusals, query_refusals, first_cause}
use Rattle.model.specs.Step.{Response, step_action, step_state}
use Rattle.model.proofs.RuleLaws.{ValidState}
use Rattle.model.proofs.RefusalTheorems.{action_rows, accepted-action}
use Rattle.model.proofs.AcceptedLaws.{none_applies}
use Rattle.model.proofs.Invariant.{empty-valid, step_valid}
use Rattle.confidentiality.specs.Traces.{Event, is_accepted}
use Rattle.confidentiality.specs.History.{History, after_event, sender, is_about, user_field, text_field, closed_to, is_text_update}
use Rattle.confidentiality.specs.Confidentiality.{last_text, SameLastText, is_observer}
use Rattle.confidentiality.proofs.SenderLaws.{accepted-sender}
use Rattle.confidentiality.proofs.PostHistory.{PostsAgree, posts_agree_empty, posts_agree_next}
use Rattle.confidentiality.proofs.FriendHistory.{FriendsAgree, friends_agree_empty, friends_agree_next}
use Rattle.confidentiality.proofs.ClosedTheorems.{unreadable, closed_unreadable, readable_open, unreadable-redact}
use Rattle.confidentiality.proofs.RedactLaws.{redact, text_of, updates_text, reads_text, redact-state, redact-answer, text_updated, text_kept, redact_restores}
use Rattle.confidentiality.proofs.TextMessages.{Accepted, Updating, Reading, text_message}
use Rattle.confidentiality.proofs.Alignment.{event_at, next_history}
use Rattle.confidentiality.proofs.Unwinding.{LowEqual, BothMeet, Unwinding}

-- ---- rights of those who update or read

-- u is registered, there is post n, and u may read it
record Entitled (s : State) (u n : ℕ) : Type 0 where
  registered-user : is_registered s u ≡ true
  post_made : is_post s n ≡ true
  entitled : may_read s u n ≡ true

-- the rows of a kind with a post: login, the post, and the right to it, which has to be enough to read
rows_entitle : (s : State) (kind u p n : ℕ) → first_cause (post_rows s kind u p n) ≡ none
    → ((get_or (lacks_right s (right_of kind) u n) 0 (unsound_board, false)).1 ≡ false → may_read s u n ≡ true) → Entitled s u n
unfolding post_rows after_login
rows_entitle s kind u p n e right =
    let passes = none_applies (post_rows s kind u p n) e in
    record {
      registered-user = not-false (is_registered s u) (passes 0);
      post_made = not-false (is_post s n) (passes 2);
      entitled = right (passes 3);
    }

updater_entitled : (s : State) (u p n : ℕ) (t : List ℕ) → Accepted s (change (u_text_post u p n t)) → Entitled s u n
unfolding action_rows change_refusals lacks_right right_of contains index_of may_read
updater_entitled s u p n t a =
    rows_entitle s 0x0403 u p n
    (accepted-action s (change (u_text_post u p n t)) (eqb-true (step_action s (change (u_text_post u p n t))).number 0 a))
    (λ r. rw (not-false (is_owner s u n) r))

reader_entitled : (s : State) (u p n : ℕ) → Accepted s (query (r_text_post u p n)) → Entitled s u n
unfolding action_rows query_refusals lacks_right right_of contains index_of
reader_entitled s u p n a =
    rows_entitle s 0x0505 u p n
    (accepted-action s (query (r_text_post u p n)) (eqb-true (step_action s (query (r_text_post u p n))).number 0 a)) (not-false (may_read s u n))

-- ---- the last text

last_shown : (x : List ℕ) (us : List Event)
    → foldl (λ (y : List ℕ) (e : Event). text_field (message_content e.frame)) x us ≡ Option.get_or (last_text us) x
unfolding last_text
last_shown x [] = refl
last_shown x (e ∷ []) = refl
last_shown x (e ∷ f ∷ us) = last_shown (text_field (message_content e.frame)) (f ∷ us)

-- ---- the conditions

-- what holds of a history and the state that it leads to
pub record HistoryInvariant (h : History) (s : State) : Type 0 where
  pub valid : ValidState s
  pub posts : PostsAgree h s
  pub friends : FriendsAgree h s

pub invariant-empty : HistoryInvariant [] empty_state
invariant-empty = record { valid = empty-valid; posts = posts_agree_empty; friends = friends_agree_empty }

pub invariant-next : (m : List ℕ) (h : History) (s : State) → HistoryInvariant h s
    → HistoryInvariant (next_history is_accepted step_state m h s) (step_state m s).state
invariant-next m h s r = record {
  valid = step_valid m s r.valid;
  posts = posts_agree_next m h s r.valid r.posts;
  friends = friends_agree_next m h s r.valid r.friends;
}

-- no answers have to be compared while open, where the text is the same
abbrev pub no_frame : List ℕ → Bool
no_frame m = false

module _ (observers : ℕ → Bool) (n : ℕ) where
  closed_iff_unreadable : (h : History) (s : State) → HistoryInvariant h s → closed_to observers n h ≡ unreadable observers n s
  closed_iff_unreadable h s r = closed_unreadable observers n h s r.valid r.posts r.friends

  -- while the post is closed, who is entitled to it is not of the set
  entitled_no_observer : (m : List ℕ) (h : History) (s : State) → HistoryInvariant h s → closed_to observers n h ≡ true → is_accepted m s ≡ true
      → Entitled s (user_field (message_content m)) n → is_observer observers (sender m) ≡ false
  unfolding is_observer
  entitled_no_observer m h s r c e t = ap (is_observer observers) (accepted-sender m s e) ∙ by_test (observers u) refl
    where
      u : ℕ
      u = user_field (message_content m)

      by_test : (b : Bool) → observers u ≡ b → b ≡ false
      by_test true w =
          absurd (true≢false (sym c ∙ closed_iff_unreadable h s r
          ∙ readable_open observers n s u w t.registered-user t.post_made t.entitled))
      by_test false w = refl

  -- an accepted update as an action
  update_of : (m : List ℕ) (s : State) → is_text_update n (event_at is_accepted step_state m s) ≡ true → Updating n (message_content m) (action_of m)
  unfolding is_text_update
  update_of m s e =
      let accepted = and_left (is_accepted m s) (is_about 0x0403 n (message_content m)) e in
      let message = text_message n s m accepted in
      message.updating (sym message.update_tested ∙ and_right (is_accepted m s) (is_about 0x0403 n (message_content m)) e)

  module _ (m : List ℕ) (h : History) (s : State) (r : HistoryInvariant h s) (c : closed_to observers n h ≡ true)
      (e : is_text_update n (event_at is_accepted step_state m s) ≡ true) where
    abbrev content : Content
    content = message_content m

    update_accepted : is_accepted m s ≡ true
    unfolding is_text_update
    update_accepted = and_left (is_accepted m s) (is_about 0x0403 n content) e

    as_update : Accepted s (change (u_text_post (user_field content) (update_of m s e).password n (text_field content)))
    unfolding is_accepted step_state
    as_update = subst (Accepted s) (update_of m s e).is_update_lem update_accepted

    update_unseen : is_observer observers (sender m) ≡ false
    update_unseen =
        entitled_no_observer m h s r c update_accepted
        (updater_entitled s (user_field content) (update_of m s e).password n (text_field content) as_update)

    updated : (text_of n (step_state m s).state ≡ text_field content) × (redact n (step_state m s).state ≡ redact n s)
    unfolding step_state
    updated =
        subst (λ (a : Action). (text_of n (step_action s a).state ≡ text_field content) × (redact n (step_action s a).state ≡ redact n s))
        (sym (update_of m s e).is_update_lem)
        (text_updated n (user_field content) (update_of m s e).password (text_field content) s
        (eqb-true (step_action s (change (u_text_post (user_field content) (update_of m s e).password n (text_field content)))).number 0 as_update))

  -- other messages leave the text
  not_updated : (m : List ℕ) (s : State) → is_text_update n (event_at is_accepted step_state m s) ≡ false
      → text_of n (step_state m s).state ≡ text_of n s
  unfolding step_state is_accepted is_text_update
  not_updated m s e = text_kept n s (action_of m) (by_test (is_accepted m s) refl)
    where
      by_test : (t : Bool) → is_accepted m s ≡ t → (eqb (step_action s (action_of m)).number 0 && updates_text n (action_of m)) ≡ false
      by_test true a =
          ap (λ (t : Bool). eqb (step_action s (action_of m)).number 0 && t) (sym (text_message n s m a).update_tested)
          ∙ e
      by_test false a = ap (λ (t : Bool). t && updates_text n (action_of m)) a

  -- a message of the set does not read the text while the post is closed
  not_read_lem : (m : List ℕ) (h : History) (s : State) → HistoryInvariant h s → closed_to observers n h ≡ true → is_observer observers (sender m) ≡ true
      → (eqb (step_action s (action_of m)).number 0 && reads_text n (action_of m)) ≡ false
  not_read_lem m h s r c w = by_test (eqb (step_action s (action_of m)).number 0) (reads_text n (action_of m)) refl refl
    where
      by_test : (a b : Bool) → eqb (step_action s (action_of m)).number 0 ≡ a → reads_text n (action_of m) ≡ b → (a && b) ≡ false
      by_test true true e f =
          let accepted : is_accepted m s ≡ true = unfold is_accepted step_state in e in
          let reading : Reading n (message_content m) (action_of m) = (text_message n s m accepted).reading f in
          absurd (true≢false (sym w ∙ entitled_no_observer m h s r c accepted
          (reader_entitled s (user_field (message_content m)) reading.password n (subst (Accepted s) reading.is_read e))))
      by_test true false e f = refl
      by_test false b e f = refl

  abbrev TextLowEqual : History → History → State → State → Type 0
  TextLowEqual = LowEqual HistoryInvariant (redact n)

  closed_redacted : (h₁ h₂ : History) (s₁ s₂ : State) → TextLowEqual h₁ h₂ s₁ s₂ → closed_to observers n h₁ ≡ closed_to observers n h₂
  closed_redacted h₁ h₂ s₁ s₂ p =
      closed_iff_unreadable h₁ s₁ p.inv₁ ∙ sym (unreadable-redact observers n n s₁) ∙ ap (unreadable observers n) p.low_same
      ∙ unreadable-redact observers n n s₂ ∙ sym (closed_iff_unreadable h₂ s₂ p.inv₂)

  -- what a message leaves is the same but for the text
  redacted_next : (m : List ℕ) (h₁ h₂ : History) (s₁ s₂ : State) → TextLowEqual h₁ h₂ s₁ s₂
      → redact n (step_state m s₁).state ≡ redact n (step_state m s₂).state
  unfolding step_state
  redacted_next m h₁ h₂ s₁ s₂ p =
      sym (redact-state n s₁ (action_of m)) ∙ ap (λ (s : State). redact n (step_action s (action_of m)).state) p.low_same
      ∙ redact-state n s₂ (action_of m)

  -- while the post is closed the set's answers do not depend on the text
  answer_closed : (m : List ℕ) (h₁ h₂ : History) (s₁ s₂ : State) → TextLowEqual h₁ h₂ s₁ s₂ → closed_to observers n h₁ ≡ true
      → is_observer observers (sender m) ≡ true → (step_state m s₁).answer ≡ (step_state m s₂).answer
  unfolding step_state
  answer_closed m h₁ h₂ s₁ s₂ p c w =
      sym (redact-answer n s₁ (action_of m) (not_read_lem m h₁ s₁ p.inv₁ c w))
      ∙ ap (λ (s : State). (step_action s (action_of m)).answer) p.low_same
      ∙ redact-answer n s₂ (action_of m) (not_read_lem m h₂ s₂ p.inv₂ (sym (closed_redacted h₁ h₂ s₁ s₂ p) ∙ c) w)

  -- while it is open the states are the same, since the text is
  open_same : (m : List ℕ) (h₁ h₂ : History) (s₁ s₂ : State)
      → BothMeet step_state (closed_to observers n) no_frame HistoryInvariant (redact n) (text_of n) m h₁ h₂ s₁ s₂
      → closed_to observers n h₁ ≡ false → s₁ ≡ s₂
  open_same m h₁ h₂ s₁ s₂ t o = redact_restores n s₁ s₂ t.low-equal.low_same (t.shown-same o)

  pub text_unwinding : Unwinding is_accepted step_state empty_state observers (closed_to observers n) (is_text_update n) SameLastText no_frame
  text_unwinding = record {
    Inv = HistoryInvariant;
    initially = invariant-empty;
    continues = invariant-next;
    Low = State;
    Shown = List ℕ;
    low = redact n;
    shown = text_of n;
    closed_low = closed_redacted;
    purgeable_unseen = update_unseen;
    purgeable_low = λ m h s r c e. (updated m h s r c e).1;
    effect = λ x e. text_field (message_content e.frame);
    purgeable_shown = λ m h s r c e. (updated m h s r c e).0;
    other_shown = λ m h s r c e. not_updated m s e;
    agree_shown = λ h₁ h₂ s₁ s₂ l x us₁ us₂ e₁ e₂ e.
        e₁ ∙ last_shown x us₁ ∙ ap (λ (o : Option (List ℕ)). Option.get_or o x) e ∙ sym (last_shown x us₂) ∙ sym e₂;
    low-next = λ m h₁ h₂ s₁ s₂ t. redacted_next m h₁ h₂ s₁ s₂ t.low-equal;
    shown-next = λ m h₁ h₂ s₁ s₂ t o. ap (λ (s : State). text_of n (step_state m s).state) (open_same m h₁ h₂ s₁ s₂ t o);
    answer-same = λ m h₁ h₂ s₁ s₂ t w.
        cases (closed_to observers n h₁) (λ c. answer_closed m h₁ h₂ s₁ s₂ t.low-equal c w)
        (λ o. ap (λ (s : State). (step_state m s).answer) (open_same m h₁ h₂ s₁ s₂ t o));
  }

  -- `low` behind a message that both journals keep never depends on the text
  pub low-kept : (m : List ℕ) (h₁ h₂ : History) (s₁ s₂ : State)
      → LowEqual text_unwinding.Inv text_unwinding.low h₁ h₂ s₁ s₂
      → text_unwinding.low (step_state m s₁).state ≡ text_unwinding.low (step_state m s₂).state
  unfolding text_unwinding
  low-kept = redacted_next

-- ---- a step with the states of the model's, and a number and an answer that depend on the message alone

module _ (number : List ℕ → ℕ) (answer : List ℕ → List ℕ) where
  unfoldable pub fixed_answers : List ℕ → State → Response State
  fixed_answers m s = record { number = number m; answer = answer m; state = (step_state m s).state }

  pub fixed_unwinding : (observers : ℕ → Bool) (n : ℕ)
      → Unwinding is_accepted fixed_answers empty_state observers (closed_to observers n) (is_text_update n) SameLastText no_frame
  unfolding fixed_answers after_event is_text_update text_unwinding
  fixed_unwinding observers n =
      let t = text_unwinding observers n in
      record {
        Inv = t.Inv;
        initially = t.initially;
        continues = t.continues;
        Low = t.Low;
        Shown = t.Shown;
        low = t.low;
        shown = t.shown;
        closed_low = t.closed_low;
        purgeable_unseen = t.purgeable_unseen;
        purgeable_low = t.purgeable_low;
        effect = t.effect;
        purgeable_shown = t.purgeable_shown;
        other_shown = t.other_shown;
        agree_shown = t.agree_shown;
        low-next = λ m h₁ h₂ s₁ s₂ p. low-kept observers n m h₁ h₂ s₁ s₂ p.low-equal;
        shown-next = λ m h₁ h₂ s₁ s₂ p o.
            t.shown-next m h₁ h₂ s₁ s₂
            (record { low-equal = p.low-equal; shown-same = p.shown-same; compared_same = λ c f. absurd (false≢true f) }) o;
        answer-same = λ m h₁ h₂ s₁ s₂ p w. refl;
      }
