-- Case analysis over the kinds of an accepted message: what holds of the state after each accepted change, and of the state itself for
-- each query, holds of the state after the step (`by_accepted`). A refused message changes neither state nor history, so a relation of both
-- is kept by every step if it is by accepted ones (`after_step`).
use Prim.Native.Nat.{ℕ}
use native.Mathlib.Omega.{arith}
use mathlib.Core.Path.{◌≡◌, refl, sym, subst}
use mathlib.Core.List.{List, ◌∷◌}
use mathlib.Core.Bool.{Bool, true, false, cond}
use mathlib.Core.Option.{none}
use lib.ListN.{drop}
use lib.Dec.{eqb, ltb, leb}
use borrow.Author.Tests.{ltb-true, leb-true, eqb-true, eqb-false, ne_eqb}
use Rattle.reader.specs.Kinds.{kinds}
use Rattle.reader.specs.Fields.{FieldValue}
use Rattle.reader.specs.Messages.{Content, content, message_content}
use Rattle.reader.specs.declared.Refusal.{Refusal}
use Rattle.model.specs.State.{State}
use Rattle.model.specs.Actions.{Action, change, query, refused, Change, Query, action_named, action_of}
use Rattle.model.specs.Refusals.{change_refusals, first_cause}
use Rattle.model.specs.Changes.{apply_change}
use Rattle.model.specs.Step.{respond, step_action, step_state}
use Rattle.model.proofs.RefusalTheorems.{action_rows, refused_number, accepted-action}
use Rattle.model.proofs.StepTheorems.{refused-state}
use Rattle.confidentiality.specs.Traces.{is_accepted}
use Rattle.confidentiality.specs.History.{History, after_event}
use Rattle.confidentiality.proofs.Alignment.{next_history}
use Rattle.confidentiality.proofs.KindCases.{ForKinds, no_kind, ◌also◌, by_kind}

-- a kind of these is none before 0501
pub query-kind : (k j : ℕ) → leb 0x0501 k ≡ true → ltb j 0x0501 ≡ true → eqb k j ≡ false
query-kind k j e f = ne_eqb k j (λ q. omega (arith, leb-true 0x0501 k e, ltb-true j 0x0501 f, q))

module _ (s : State) (Q : Content → State → Type 0) where
  -- what is to be shown of each kind
  pub data AfterAccepted : Content → Action → Type 0 where
    after_change : {c : Content} {ch : Change} → (first_cause (change_refusals s ch) ≡ none → Q c (apply_change s ch)) → AfterAccepted c (change ch)
    after_query : {c : Content} {q : Query} → Q c s → AfterAccepted c (query q)
    after_refusal : {c : Content} {r : Refusal} → AfterAccepted c (refused r)

  action-accepted : (c : Content) (a : Action) → AfterAccepted c a → (step_action s a).number ≡ 0 → Q c (step_action s a).state
  unfolding step_action respond action_rows
  action-accepted c (change ch) (after_change f) e = let none_applies = accepted-action s (change ch) e in rw none_applies (f none_applies)
  action-accepted c (query q) (after_query f) e = rw (accepted-action s (query q) e) f
  action-accepted c (refused r) after_refusal e = absurd (refused_number s r e)

  -- the kinds from 0501 on are queries
  pub queries : ((k : ℕ) (vs : List FieldValue) → leb 0x0501 k ≡ true → Q (content k vs) s) → ForKinds AfterAccepted (drop 12 kinds)
  unfolding kinds action_named
  queries f =
      (λ vs. after_query (f 0x0501 vs refl)) also (λ vs. after_query (f 0x0502 vs refl)) also (λ vs. after_query (f 0x0503 vs refl))
      also (λ vs. after_query (f 0x0504 vs refl)) also (λ vs. after_query (f 0x0505 vs refl)) also (λ vs. after_query (f 0x0506 vs refl))
      also (λ vs. after_query (f 0x0507 vs refl)) also (λ vs. after_query (f 0x0508 vs refl)) also (λ vs. after_query (f 0x0509 vs refl))
      also (λ vs. after_query (f 0x050a vs refl)) also (λ vs. after_query (f 0x0601 vs refl)) also (λ vs. after_query (f 0x0602 vs refl))
      also (λ vs. after_query (f 0x0603 vs refl)) also (λ vs. after_query (f 0x0604 vs refl)) also (λ vs. after_query (f 0x0605 vs refl))
      also (λ vs. after_query (f 0x0606 vs refl))
      also no_kind

  pub by_accepted : ForKinds AfterAccepted kinds → (m : List ℕ) → is_accepted m s ≡ true → Q (message_content m) (step_state m s).state
  unfolding is_accepted step_state
  by_accepted ps m e =
      action-accepted (message_content m) (action_of m) (by_kind AfterAccepted ps (λ c r. after_refusal) m) (eqb-true (step_state m s).number 0 e)

module _ (R : History → State → Type 0) where
  pub after_step : (m : List ℕ) (h : History) (s : State) → R h s
      → (is_accepted m s ≡ true → R (message_content m ∷ h) (step_state m s).state)
      → R (next_history is_accepted step_state m h s) (step_state m s).state
  unfolding after_event is_accepted step_state
  after_step m h s r f = by_test (eqb (step_state m s).number 0) refl
    where
      by_test : (t : Bool) → eqb (step_state m s).number 0 ≡ t → R (cond t (message_content m ∷ h) h) (step_state m s).state
      by_test true e = f e
      by_test false e = subst (R h) (sym (refused-state s (action_of m) (eqb-false (step_state m s).number 0 e))) r
