-- Openings and windows, for any test of when something is closed and any test of what an update is.
use Rattle.std.specs.Prelude.{◌≡◌, List, [], ◌∷◌, ◌++◌, Bool, true, false, not, cond, ◌&&◌}
use Rattle.confidentiality.specs.Traces.{Event}
use Rattle.confidentiality.specs.History.{History, after_event}

-- a message, and whether it is purged ("struck out")
pub record Marked : Type 0 where
  pub event : Event
  pub purged : Bool

-- "A shut stretch is a longest run of places at which the post is shut; it has the updates that stand at its places". An opening follows it
-- or not; the history is that behind the opening, or that at the end, for claims that ask about it (the one about texts does not).
pub record Window : Type 0 where
  pub updates : List Event
  pub opens : Bool
  pub history : History

module _ (closed : History → Bool) (is_update : Event → Bool) where
  -- the update that stands at a place, purged or not
  unfoldable pub update_at : Marked → List Event
  update_at c = cond (is_update c.event) (c.event ∷ []) []

  -- the windows in order, where `updates` are those so far of the window that the first place stands in. "An opening is a message with
  -- the post shut before it and not after it." The place after the last message counts.
  unfoldable pub windows : History → List Event → List Marked → List Window
  windows h updates [] = cond (closed h) (record { updates = updates; opens = false; history = h } ∷ []) []
  windows h updates (c ∷ cs) =
      let next : History = after_event h c.event in
      let more : List Event = updates ++ update_at c in
      let later : List Window = windows next (cond (closed h && closed next) more []) cs in
      cond (closed h && not (closed next)) (record { updates = more; opens = true; history = next } ∷ later) later

-- windows that are followed by an opening agree, "compared in order"
abbrev pub AgreeAtOpenings : (Window → Window → Type 0) → List Window → List Window → Type 0
AgreeAtOpenings Agree [] ws = Unit {0}
AgreeAtOpenings Agree (v ∷ vs) [] = Unit {0}
AgreeAtOpenings Agree (v ∷ vs) (w ∷ ws) = (v.opens ≡ true → w.opens ≡ true → Agree v w) × AgreeAtOpenings Agree vs ws
