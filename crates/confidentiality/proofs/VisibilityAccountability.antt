-- Who made a post public (the CoSMed paper, section 5.2): for each post of a state the history has its creation by its owner and, if it is
-- public, that owner's later message that made it so, the latest about its visibility. This holds of the empty state
-- (`posts-traced-empty`) and is kept by every step (`posts-traced-next`); `public_post-traced` says it of a public post.
use Prim.Native.Nat.{ℕ}
use mathlib.Core.Path.{◌≡◌, refl, sym, ap, ◌∙◌}
use mathlib.Core.List.{List, [], ◌∷◌}
use mathlib.Core.Bool.{Bool, true, false, false≢true, not, cond}
use mathlib.Core.Option.{some, none, some-injective, none-ne-some}
use lib.Dec.{eqb}
use borrow.Author.Tests.{eqb-true, eq-eqb}
use Rattle.layout.specs.Search.{index_of}
use Rattle.layout.proofs.BooleanLaws.{and_left, and_both, cond_same}
use Rattle.reader.specs.Messages.{Content, message_content}
use Rattle.model.specs.Lists.{for_all, contains}
use Rattle.model.specs.State.{State, empty_state, post_numbers}
use Rattle.model.specs.Lookups.{is_post, post_numbered, owner_of}
use Rattle.model.specs.Step.{step_state}
use Rattle.model.proofs.RuleLaws.{ValidState}
use Rattle.confidentiality.specs.Traces.{is_accepted}
use Rattle.confidentiality.specs.History.{History, is_about, user_field, visibility_field}
use Rattle.confidentiality.specs.Accountability.{VisibilityTraced}
use Rattle.confidentiality.proofs.Alignment.{next_history}
use Rattle.confidentiality.proofs.HistoryLaws.{Occurs, occurs_now, occurs_before}
use Rattle.confidentiality.proofs.AcceptedKinds.{after_step}
use Rattle.confidentiality.proofs.PostHistory.{owner_number, is_public_post, UsersAndPosts, accepted_recorded}

-- post n was made by u
abbrev pub CreationTraced : ℕ → ℕ → History → Type 0
CreationTraced n u h = Occurs (λ (c : Content). (is_about 0x0203 n c ≡ true) × (user_field c ≡ u)) (λ c. true) h

-- the invariant, of each post of the state
pub record PostsTraced (h : History) (s : State) : Type 0 where
  pub creation-traced : (n u : ℕ) → owner_number s n ≡ some u → CreationTraced n u h
  pub visibility-traced : (n u : ℕ) → owner_number s n ≡ some u → is_public_post s n ≡ true → VisibilityTraced n u h

-- ---- one more accepted message

module _ (n u : ℕ) (h : History) (c : Content) where
  publication_now : CreationTraced n u h → is_about 0x0405 n c ≡ true → user_field c ≡ u → visibility_field c ≡ 1 → VisibilityTraced n u (c ∷ h)
  unfolding for_all
  publication_now t e q x = record {
    since = [];
    publication = c;
    meanwhile = t.since;
    creation = t.message;
    before = t.before;
    splits = ap (λ (x : History). c ∷ x) t.splits;
    is_creation = t.holds.0;
    created_by = t.holds.1;
    is_publication = e;
    published_by = q;
    made_public = x;
    none_since = refl;
  }

  publication-before : VisibilityTraced n u h → is_about 0x0405 n c ≡ false → VisibilityTraced n u (c ∷ h)
  unfolding for_all
  publication-before t e = record {
    since = c ∷ t.since;
    publication = t.publication;
    meanwhile = t.meanwhile;
    creation = t.creation;
    before = t.before;
    splits = ap (λ (x : History). c ∷ x) t.splits;
    is_creation = t.is_creation;
    created_by = t.created_by;
    is_publication = t.is_publication;
    published_by = t.published_by;
    made_public = t.made_public;
    none_since = and_both (ap not e) t.none_since;
  }

module _ (h : History) (s : State) (c : Content) (t : State) (r : UsersAndPosts s c t) (p : PostsTraced h s) where
  traced-next : PostsTraced (c ∷ h) t
  traced-next = record {
    creation-traced = λ n u o. by_creation n u (is_about 0x0203 n c) refl (sym (r.owner-next n) ∙ o);
    visibility-traced = λ n u o x. by_visibility n u (is_about 0x0405 n c) refl (sym (r.owner-next n) ∙ o) (sym (r.public_next n) ∙ x);
  }
    where
      by_creation : (n u : ℕ) (b : Bool) → is_about 0x0203 n c ≡ b → cond b (some (user_field c)) (owner_number s n) ≡ some u
          → CreationTraced n u (c ∷ h)
      by_creation n u true e o = occurs_now c (e, some-injective (user_field c) u o)
      by_creation n u false e o = occurs_before c refl (p.creation-traced n u o)

      -- a post that was public before was made before
      made_before : (n u : ℕ) (b : Bool) → is_about 0x0203 n c ≡ b → cond b (some (user_field c)) (owner_number s n) ≡ some u → is_public_post s n ≡ true
          → owner_number s n ≡ some u
      made_before n u true e o x =
          absurd (false≢true (sym (r.creates_new n e) ∙ and_left (is_post s n) (eqb (post_numbered s n).visibility 1) x))
      made_before n u false e o x = o

      by_visibility : (n u : ℕ) (b : Bool) → is_about 0x0405 n c ≡ b
          → cond (is_about 0x0203 n c) (some (user_field c)) (owner_number s n) ≡ some u
          → cond b (eqb (visibility_field c) 1) (is_public_post s n) ≡ true → VisibilityTraced n u (c ∷ h)
      -- the sender of a 0405 is the owner before it, so the owner after it
      by_visibility n u true e o x =
          let w : ℕ = user_field c in
          let b : Bool = is_about 0x0203 n c in
          let own : owner_number s n ≡ some w = r.publishes_own n e in
          let same : w ≡ u = some-injective w u (sym (ap (cond b (some w)) own ∙ cond_same b (some w)) ∙ o) in
          publication_now n u h c (p.creation-traced n u (own ∙ ap some same)) e same (eqb-true (visibility_field c) 1 x)
      by_visibility n u false e o x =
          publication-before n u h c (p.visibility-traced n u (made_before n u (is_about 0x0203 n c) refl o x) x) e

-- ---- along a run

pub posts-traced-empty : PostsTraced [] empty_state
unfolding owner_number is_post empty_state post_numbers contains index_of
posts-traced-empty = record {
  creation-traced = λ n u o. absurd (none-ne-some u o);
  visibility-traced = λ n u o x. absurd (none-ne-some u o);
}

pub posts-traced-next : (m : List ℕ) (h : History) (s : State) → ValidState s → PostsTraced h s
    → PostsTraced (next_history is_accepted step_state m h s) (step_state m s).state
posts-traced-next m h s valid p =
    after_step PostsTraced m h s p (λ e. traced-next h s (message_content m) (step_state m s).state (accepted_recorded s valid m e) p)

pub public_post-traced : (h : History) (s : State) → PostsTraced h s → (n : ℕ) → is_post s n ≡ true → (post_numbered s n).visibility ≡ 1
    → VisibilityTraced n (owner_of s (post_numbered s n)).number h
unfolding owner_number
public_post-traced h s p n e v =
    let u : ℕ = (owner_of s (post_numbered s n)).number in
    p.visibility-traced n u (ap (λ (b : Bool). cond b (some u) none) e) (and_both e (eq-eqb (post_numbered s n).visibility 1 v))
