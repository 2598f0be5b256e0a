-- Case analysis over the table of kinds: what holds of the content and the action of each kind, and of the refusals, holds of every message.
use Prim.Native.Nat.{ℕ}
use mathlib.Core.Path.{◌≡◌, refl, sym, subst}
use mathlib.Core.List.{List, [], ◌∷◌}
use mathlib.Core.Bool.{Bool, true, false, cond}
use lib.Dec.{eqb}
use borrow.Author.Tests.{eqb-true}
use Rattle.reader.specs.Fields.{FieldValue}
use Rattle.reader.specs.Kinds.{KindEntry, kinds}
use Rattle.reader.specs.Messages.{Content, content, message_content}
use Rattle.reader.specs.declared.Refusal.{Refusal}
use Rattle.model.specs.Actions.{Action, refused, action_named, action_from, action_of}

module _ (P : Content → Action → Type 0) where
  infixr 60 ◌also◌
  pub data ForKinds : List KindEntry → Type 0 where
    no_kind : ForKinds []
    ◌also◌ : {e : KindEntry} {es : List KindEntry} → ((vs : List FieldValue) → P (content e.kind vs) (action_named e.action vs)) → ForKinds es
        → ForKinds (e ∷ es)

  from_entries : (es : List KindEntry) → ForKinds es → ((c : Content) (r : Refusal) → P c (refused r)) → (c : Content) → P c (action_from es c)
  unfolding action_from
  from_entries [] no_kind f c = f c _
  from_entries (e ∷ es) (p also ps) f c = by_test (eqb c.code e.kind) refl (from_entries es ps f c)
    where
      by_test : (t : Bool) → eqb c.code e.kind ≡ t → P c (action_from es c)
          → P c (cond t (action_named e.action c.values) (action_from es c))
      by_test true q later =
          subst (λ (k : ℕ). P (content k c.values) (action_named e.action c.values)) (sym (eqb-true c.code e.kind q)) (p c.values)
      by_test false q later = later

  pub by_kind : ForKinds kinds → ((c : Content) (r : Refusal) → P c (refused r)) → (m : List ℕ) → P (message_content m) (action_of m)
  unfolding action_of
  by_kind ps f m = from_entries kinds ps f (message_content m)
