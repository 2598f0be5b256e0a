-- Laws of histories: a message that occurs in one (`Occurs`); an update of a text neither opens nor closes a post (`update_keeps_closed`), and a
-- post without an owner that is not public is closed (`no_owner_closed`).
use Prim.Native.Nat.{ℕ}
use mathlib.Core.Path.{◌≡◌, refl, sym, ap, ◌∙◌}
use mathlib.Core.List.{[], ◌∷◌, ◌++◌}
use mathlib.Core.Bool.{Bool, true, false, not, cond, ◌&&◌, and-false, true≢false}
use mathlib.Core.Option.{Option, some, none}
use lib.ListN.{get_or}
use lib.Dec.{eqb}
use borrow.Author.Tests.{eqb-true}
use borrow.Table.Steps.{cases}
use Rattle.layout.proofs.BooleanLaws.{and_both}
use Rattle.reader.specs.Messages.{Content, message_content}
use Rattle.model.specs.Lists.{for_all}
use Rattle.model.proofs.ListLaws.{all_by}
use Rattle.confidentiality.specs.Traces.{Event}
use Rattle.confidentiality.specs.History.{History, after_event, is_kind, is_about, is_between, registered, owner, befriended, is_public, owns_or_befriends, closed_to, is_text_update}

-- ---- a message of which P holds, with those after it, which pass a test, and those before it

pub record Occurs (P : Content → Type 0) (test : Content → Bool) (h : History) : Type 0 where
  pub since : History
  pub message : Content
  pub before : History
  pub splits : h ≡ since ++ (message ∷ before)
  pub holds : P message
  pub pass : for_all test since ≡ true

module _ {P : Content → Type 0} {test : Content → Bool} {h : History} (c : Content) where
  pub occurs_now : P c → Occurs P test (c ∷ h)
  unfolding for_all
  occurs_now p = record { since = []; message = c; before = h; splits = refl; holds = p; pass = refl }

  pub occurs_before : test c ≡ true → Occurs P test h → Occurs P test (c ∷ h)
  unfolding for_all
  occurs_before t o = record {
    since = c ∷ o.since;
    message = o.message;
    before = o.before;
    splits = ap (λ (x : History). c ∷ x) o.splits;
    holds = o.holds;
    pass = and_both t o.pass;
  }

-- ---- an update of a text

module _ (c : Content) (code : c.code ≡ 0x0403) (h : History) where
  update_registers : registered (c ∷ h) ≡ registered h
  unfolding registered is_kind
  update_registers = rw code

  update_creates : (n : ℕ) → owner n (c ∷ h) ≡ owner n h
  unfolding owner is_about is_kind
  update_creates n = rw code

  update_befriends : (a b : ℕ) → befriended a b (c ∷ h) ≡ befriended a b h
  unfolding befriended is_between is_kind
  update_befriends a b = rw code

  update_publishes : (n : ℕ) → is_public n (c ∷ h) ≡ is_public n h
  unfolding is_public is_about is_kind
  update_publishes n = rw code

  update_nears : (o : Option ℕ) (u : ℕ) → owns_or_befriends o u (c ∷ h) ≡ owns_or_befriends o u h
  unfolding owns_or_befriends
  update_nears none u = refl
  update_nears (some o) u = simp (update_befriends)

  update_closes : (observers : ℕ → Bool) (n : ℕ) → closed_to observers n (c ∷ h) ≡ closed_to observers n h
  unfolding closed_to
  update_closes observers n = simp (update_registers, update_creates, update_nears, update_publishes)

-- "No update opens or shuts a post": of any text, for any set and post
pub update_keeps_closed : (observers : ℕ → Bool) (n k : ℕ) (h : History) (e : Event) → is_text_update k e ≡ true
    → closed_to observers n (after_event h e) ≡ closed_to observers n h
unfolding is_text_update is_about is_kind after_event
update_keeps_closed observers n k h e u = by_test e.accepted
  where
    c : Content
    c = message_content e.frame

    -- a message of another kind is no update
    code : c.code ≡ 0x0403
    code = cases (eqb c.code 0x0403) (λ q. eqb-true c.code 0x0403 q) (λ q. absurd (true≢false (sym u ∙ simp (q, and-false))))

    by_test : (t : Bool) → closed_to observers n (cond t (c ∷ h) h) ≡ closed_to observers n h
    by_test true = update_closes c code h observers n
    by_test false = refl

-- ---- a post that is not made

-- neither owned nor public
pub no_owner_closed : (observers : ℕ → Bool) (n : ℕ) (h : History) → owner n h ≡ none → is_public n h ≡ false → closed_to observers n h ≡ true
unfolding closed_to owns_or_befriends
no_owner_closed observers n h o p =
    rw (o, p)
    (and_both
    (all_by (λ (u : ℕ). not (observers u && false)) (registered h) 0 (λ i l. ap not (and-false (observers (get_or (registered h) i 0)))))
    refl)
