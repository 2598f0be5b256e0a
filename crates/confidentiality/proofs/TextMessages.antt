-- Accepted messages about the text of a post, by the actions that they are: the 0403 that updates it and the 0505 that reads it.
use Prim.Native.Nat.{ℕ}
use mathlib.Core.Path.{◌≡◌, refl, sym, ap, ◌∙◌}
use mathlib.Core.List.{List}
use mathlib.Core.Bool.{true, false, false≢true}
use lib.Dec.{eqb}
use borrow.Author.Tests.{eqb-true}
use Rattle.reader.specs.Kinds
use Rattle.reader.specs.Kinds.{kinds}
use Rattle.reader.specs.Fields.{FieldValue}
use Rattle.reader.specs.Messages.{Content, content, message_content}
use Rattle.model.specs.State.{State}
use Rattle.model.specs.Actions.{Action, change, query, refused, u_text_post, r_text_post, number_arg, string_arg, action_named, action_of}
use Rattle.model.specs.Step.{step_action, step_state}
use Rattle.model.proofs.RefusalTheorems.{refused_number}
use Rattle.confidentiality.specs.Traces.{is_accepted}
use Rattle.confidentiality.specs.History.{is_kind, is_about, user_field, text_field}
use Rattle.confidentiality.proofs.KindCases.{ForKinds, no_kind, ◌also◌, by_kind}
use Rattle.confidentiality.proofs.RedactLaws.{updates_text, reads_text}

-- the action is accepted at the state
abbrev pub Accepted : State → Action → Type 0
Accepted s a = eqb (step_action s a).number 0 ≡ true

-- an action that updates the text, or reads it, has the sender and the text of the message; `password` is its second field
pub record Updating (n : ℕ) (c : Content) (a : Action) : Type 0 where
  pub password : ℕ
  pub is_update_lem : a ≡ change (u_text_post (user_field c) password n (text_field c))

pub record Reading (n : ℕ) (c : Content) (a : Action) : Type 0 where
  pub password : ℕ
  pub is_read : a ≡ query (r_text_post (user_field c) password n)

pub record TextMessage (n : ℕ) (c : Content) (a : Action) : Type 0 where
  pub update_tested : is_about 0x0403 n c ≡ updates_text n a
  pub updating : updates_text n a ≡ true → Updating n c a
  pub reading : reads_text n a ≡ true → Reading n c a

module _ (n : ℕ) where
  neither : {c : Content} {a : Action} → is_about 0x0403 n c ≡ false → updates_text n a ≡ false → reads_text n a ≡ false → TextMessage n c a
  neither e f g = record {
    update_tested = e ∙ sym f;
    updating = λ t. absurd (false≢true (sym f ∙ t));
    reading = λ t. absurd (false≢true (sym g ∙ t));
  }

  updates_text_lem : (vs : List FieldValue) → TextMessage n (content 0x0403 vs) (action_named Kinds.u_text_post vs)
  unfolding is_about is_kind action_named updates_text reads_text
  updates_text_lem vs = record {
    update_tested = refl;
    updating = λ e. record {
      password = number_arg vs 1;
      is_update_lem = ap (λ (k : ℕ). change (u_text_post (number_arg vs 0) (number_arg vs 1) k (string_arg vs 3))) (eqb-true (number_arg vs 2) n e);
    };
    reading = λ e. absurd (false≢true e);
  }

  reads_text_lem : (vs : List FieldValue) → TextMessage n (content 0x0505 vs) (action_named Kinds.r_text_post vs)
  unfolding is_about is_kind action_named updates_text reads_text
  reads_text_lem vs = record {
    update_tested = refl;
    updating = λ e. absurd (false≢true e);
    reading = λ e. record {
      password = number_arg vs 1;
      is_read = ap (λ (k : ℕ). query (r_text_post (number_arg vs 0) (number_arg vs 1) k)) (eqb-true (number_arg vs 2) n e);
    };
  }

  module _ (s : State) where
    WhenAccepted : Content → Action → Type 0
    WhenAccepted c a = Accepted s a → TextMessage n c a

    each-kind : ForKinds WhenAccepted kinds
    unfolding kinds action_named is_about is_kind updates_text reads_text WhenAccepted
    each-kind =
        (λ vs t. neither refl refl refl) also (λ vs t. neither refl refl refl) also (λ vs t. neither refl refl refl)
        also (λ vs t. neither refl refl refl) also (λ vs t. neither refl refl refl) also (λ vs t. neither refl refl refl)
        also (λ vs t. neither refl refl refl) also (λ vs t. neither refl refl refl) also (λ vs t. neither refl refl refl)
        also (λ vs t. updates_text_lem vs) also (λ vs t. neither refl refl refl) also (λ vs t. neither refl refl refl)
        also (λ vs t. neither refl refl refl) also (λ vs t. neither refl refl refl) also (λ vs t. neither refl refl refl)
        also (λ vs t. neither refl refl refl) also (λ vs t. reads_text_lem vs) also (λ vs t. neither refl refl refl)
        also (λ vs t. neither refl refl refl) also (λ vs t. neither refl refl refl) also (λ vs t. neither refl refl refl)
        also (λ vs t. neither refl refl refl) also (λ vs t. neither refl refl refl) also (λ vs t. neither refl refl refl)
        also (λ vs t. neither refl refl refl) also (λ vs t. neither refl refl refl) also (λ vs t. neither refl refl refl)
        also (λ vs t. neither refl refl refl)
        also no_kind

    pub text_message : (m : List ℕ) → is_accepted m s ≡ true → TextMessage n (message_content m) (action_of m)
    unfolding is_accepted step_state
    text_message m e =
        unfold WhenAccepted in
        by_kind WhenAccepted each-kind (λ c r t. absurd (refused_number s r (eqb-true (step_action s (refused r)).number 0 t))) m e
