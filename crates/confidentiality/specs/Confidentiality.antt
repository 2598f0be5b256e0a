-- Demand 3: what a set of staff, the observers, cannot learn of the text of a post.
use Rattle.std.specs.Prelude.{ℕ, ◌≡◌, Bool, false, cond}
use mathlib.Core.List.{List, [], ◌∷◌, map, get_last?}
use Rattle.std.proofs.Math.Option.{Option, some, none}
use Rattle.reader.specs.Messages.{message_content}
use Rattle.model.specs.Board.{empty_board}
use Rattle.model.specs.Step.{Response}
use Rattle.model.specs.Replay.{replay_of}
use Rattle.confidentiality.specs.Traces.{Event, Trace, run_trace, replay_trace}
use Rattle.confidentiality.specs.History.{sender, text_field, closed_to, is_text_update}
use Rattle.confidentiality.specs.Windows.{Window, windows, AgreeAtOpenings}
use Rattle.confidentiality.specs.Purging.{mark, DifferOnly}

-- the text of the last update, if there is one
unfoldable pub last_text : List Event → Option (List ℕ)
last_text us = get_last? (map (λ (e : Event). text_field (message_content e.frame)) us)

-- neither window has an update, or both do and the last one's text is the same
abbrev pub SameLastText : Window → Window → Type 0
SameLastText v w = last_text v.updates ≡ last_text w.updates

-- "What must be equal is the list of frames sent under numbers of the set, and the list of their answers"
unfoldable pub is_observer : (ℕ → Bool) → Option ℕ → Bool
is_observer observers none = false
is_observer observers (some u) = observers u

unfoldable pub observed : (ℕ → Bool) → List Event → List (List ℕ × List ℕ)
observed observers [] = []
observed observers (e ∷ es) =
    let later : List (List ℕ × List ℕ) = observed observers es in
    cond (is_observer observers (sender e.frame)) ((e.frame, e.answer) ∷ later) later

-- two traces that differ only in updates of the text of n while n was closed to the observers, and whose windows agree at openings, show
-- them the same
unfoldable pub Noninterference : (ℕ → Bool) → ℕ → Trace → Trace → Type 0
Noninterference observers n t₁ t₂ =
    (marks₁ marks₂ : List Bool) → DifferOnly (closed_to observers n) (is_text_update n) t₁ t₂ marks₁ marks₂
    → AgreeAtOpenings SameLastText
    (windows (closed_to observers n) (is_text_update n) [] [] (mark marks₁ t₁.events))
    (windows (closed_to observers n) (is_text_update n) [] [] (mark marks₂ t₂.events))
    → observed observers t₁.events ≡ observed observers t₂.events

-- DEMAND 3 of a step over any states, begun at s: any set, any post, any two journals
unfoldable pub Confidential : {S : Type 0} → (List ℕ → S → Bool) → (List ℕ → S → Response S) → S → Type 0
Confidential accepts step s =
    (observers : ℕ → Bool) (n : ℕ) (j₁ j₂ : List ℕ) → Noninterference observers n (run_trace accepts step s j₁) (run_trace accepts step s j₂)

-- DEMAND 3 of the replay: both from the empty board, with any rooms to their ends ("does not stop with 2")
unfoldable pub ReplayConfidential : Type 0
ReplayConfidential =
    (observers : ℕ → Bool) (n : ℕ) (j₁ j₂ o₁ o₂ : List ℕ)
    → ((replay_of j₁ empty_board o₁).stop ≡ 2 → ⊥) → ((replay_of j₂ empty_board o₂).stop ≡ 2 → ⊥)
    → Noninterference observers n (replay_trace j₁ (replay_of j₁ empty_board o₁)) (replay_trace j₂ (replay_of j₂ empty_board o₂))
