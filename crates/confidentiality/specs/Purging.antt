-- What remains of a journal once messages are purged ("struck out"), for any tests of when something is closed and what may be purged.
use Rattle.std.specs.Prelude.{ℕ, ◌≡◌, Bool, true, false, not, cond, ◌&&◌, ◌||◌}
use mathlib.Core.List.{List, [], ◌∷◌, ◌++◌, flatten}
use Rattle.confidentiality.specs.Traces.{Event, Trace}
use Rattle.confidentiality.specs.History.{History, after_event}
use Rattle.confidentiality.specs.Windows.{Marked}

-- "once some .. or none .. are struck out": any marks, one for each message; where they end nothing is purged
unfoldable pub mark : List Bool → List Event → List Marked
mark marks [] = []
mark [] (e ∷ es) = record { event = e; purged = false } ∷ mark [] es
mark (b ∷ marks) (e ∷ es) = record { event = e; purged = b } ∷ mark marks es

-- the frames that remain
unfoldable pub remaining : List Marked → List (List ℕ)
remaining [] = []
remaining (c ∷ cs) = let later : List (List ℕ) = remaining cs in cond c.purged later (c.event.frame ∷ later)

module _ (closed : History → Bool) (purgeable : Event → Bool) where
  -- each purged message is purgeable and "met while the post is shut"
  unfoldable pub purged_while_closed : History → List Marked → Bool
  purged_while_closed h [] = true
  purged_while_closed h (c ∷ cs) = (not c.purged || purgeable c.event && closed h) && purged_while_closed (after_event h c.event) cs

  -- "Two journals differ only in such updates if the same bytes remain once some accepted updates of that text, or none, each met while
  -- the post is shut, are struck out of each journal."
  pub record DifferOnly (t₁ t₂ : Trace) (marks₁ marks₂ : List Bool) : Type 0 where
    pub purged₁ : purged_while_closed [] (mark marks₁ t₁.events) ≡ true
    pub purged₂ : purged_while_closed [] (mark marks₂ t₂.events) ≡ true
    pub same_bytes : flatten (remaining (mark marks₁ t₁.events)) ++ t₁.rest ≡ flatten (remaining (mark marks₂ t₂.events)) ++ t₂.rest
