-- Two runs side by side: which messages are purged in the first, which in the second, and which are kept in both. Two journals of which
-- the same bytes remain have such an alignment (`run-alignment`), and proofs about the two go by induction over it.
use Prim.Native.Nat.{ℕ}
use mathlib.Core.Path.{◌≡◌, subst}
use mathlib.Core.List.{List, [], ◌∷◌, map}
use mathlib.Core.Bool.{Bool, true, false, ◌&&◌}
use Rattle.layout.proofs.BooleanLaws.{and_left, and_right}
use Rattle.model.specs.Step.{Response}
use Rattle.model.specs.Replay.{frames_of, run_frames, run_of}
use Rattle.confidentiality.specs.Traces.{Event, event_of, run_trace}
use Rattle.confidentiality.specs.History.{History, after_event}
use Rattle.confidentiality.specs.Purging.{mark, remaining, purged_while_closed, DifferOnly}
use Rattle.confidentiality.proofs.ParsingLaws.{run-remaining-same}

module _ {S : Type 0} (accepts : List ℕ → S → Bool) (step : List ℕ → S → Response S) where
  -- the event of a message at a state, and the history after it
  abbrev pub event_at : List ℕ → S → Event
  event_at m s = record { frame = m; accepted = accepts m s; answer = (step m s).answer }

  abbrev pub next_history : List ℕ → History → S → History
  next_history m h s = after_event h (event_at m s)

  -- the events of some frames from a state on
  abbrev pub events_from : S → List (List ℕ) → List Event
  events_from s ms = map (event_of accepts step) (run_frames step s ms)

  module _ (closed : History → Bool) (purgeable : Event → Bool) where
    -- Remains s h ms ks: of the frames ms, met from the history h and the state s on, ks remain once some purgeable ones that are met while
    -- closed are purged
    data Remains : S → History → List (List ℕ) → List (List ℕ) → Type 0 where
      no_frames : {s : S} {h : History} → Remains s h [] []
      is_kept : {s : S} {h : History} {m : List ℕ} {ms ks : List (List ℕ)} → Remains (step m s).state (next_history m h s) ms ks
          → Remains s h (m ∷ ms) (m ∷ ks)
      is_purged : {s : S} {h : History} {m : List ℕ} {ms ks : List (List ℕ)} → purgeable (event_at m s) ≡ true → closed h ≡ true
          → Remains (step m s).state (next_history m h s) ms ks → Remains s h (m ∷ ms) ks

    -- the frames that two runs meet, one behind the other: purged in the first, purged in the second, or the same frame kept in both
    pub data Alignment : S → History → List (List ℕ) → S → History → List (List ℕ) → Type 0 where
      all_met : {s₁ s₂ : S} {h₁ h₂ : History} → Alignment s₁ h₁ [] s₂ h₂ []
      purged_in_first : {s₁ s₂ : S} {h₁ h₂ : History} {m : List ℕ} {ms₁ ms₂ : List (List ℕ)} → purgeable (event_at m s₁) ≡ true → closed h₁ ≡ true
          → Alignment (step m s₁).state (next_history m h₁ s₁) ms₁ s₂ h₂ ms₂ → Alignment s₁ h₁ (m ∷ ms₁) s₂ h₂ ms₂
      purged_in_second : {s₁ s₂ : S} {h₁ h₂ : History} {m : List ℕ} {ms₁ ms₂ : List (List ℕ)} → purgeable (event_at m s₂) ≡ true → closed h₂ ≡ true
          → Alignment s₁ h₁ ms₁ (step m s₂).state (next_history m h₂ s₂) ms₂ → Alignment s₁ h₁ ms₁ s₂ h₂ (m ∷ ms₂)
      kept_in_both : {s₁ s₂ : S} {h₁ h₂ : History} {m : List ℕ} {ms₁ ms₂ : List (List ℕ)}
          → Alignment (step m s₁).state (next_history m h₁ s₁) ms₁ (step m s₂).state (next_history m h₂ s₂) ms₂
          → Alignment s₁ h₁ (m ∷ ms₁) s₂ h₂ (m ∷ ms₂)

    -- m stands first in the first run and is kept; in the second some purged messages may stand before it
    alignment-kept : {s₁ : S} {h₁ : History} {m : List ℕ} {ms₁ ks : List (List ℕ)}
        → ((s : S) (h : History) (ms : List (List ℕ)) → Remains s h ms ks → Alignment (step m s₁).state (next_history m h₁ s₁) ms₁ s h ms)
        → {s₂ : S} {h₂ : History} {ms₂ : List (List ℕ)} → Remains s₂ h₂ ms₂ (m ∷ ks) → Alignment s₁ h₁ (m ∷ ms₁) s₂ h₂ ms₂
    alignment-kept f (is_kept t) = kept_in_both (f _ _ _ t)
    alignment-kept f (is_purged p c t) = purged_in_second p c (alignment-kept f t)

    alignment : {s₁ s₂ : S} {h₁ h₂ : History} {ms₁ ms₂ ks : List (List ℕ)} → Remains s₁ h₁ ms₁ ks → Remains s₂ h₂ ms₂ ks
        → Alignment s₁ h₁ ms₁ s₂ h₂ ms₂
    alignment no_frames no_frames = all_met
    alignment no_frames (is_purged p c t) = purged_in_second p c (alignment no_frames t)
    alignment (is_kept t₁) t₂ = alignment-kept (λ s h ms t. alignment t₁ t) t₂
    alignment (is_purged p c t₁) t₂ = purged_in_first p c (alignment t₁ t₂)

    -- what the marks leave of a run, where each purged message is purgeable and met while closed
    remains : (marks : List Bool) (s : S) (h : History) (ms : List (List ℕ))
        → purged_while_closed closed purgeable h (mark marks (events_from s ms)) ≡ true → Remains s h ms (remaining (mark marks (events_from s ms)))
    unfolding purged_while_closed remaining mark run_frames
    remains marks s h [] e = no_frames
    remains [] s h (m ∷ ms) e = is_kept (remains [] (step m s).state (next_history m h s) ms e)
    remains (true ∷ marks) s h (m ∷ ms) e =
        let event : Event = event_at m s in
        let here : (purgeable event && closed h) ≡ true = and_left (purgeable event && closed h) _ e in
        is_purged (and_left (purgeable event) (closed h) here) (and_right (purgeable event) (closed h) here)
        (remains marks (step m s).state (next_history m h s) ms (and_right (purgeable event && closed h) _ e))
    remains (false ∷ marks) s h (m ∷ ms) e = is_kept (remains marks (step m s).state (next_history m h s) ms e)

    -- two journals that differ only in such messages
    pub run-alignment : (s₁ s₂ : S) (j₁ j₂ : List ℕ) (marks₁ marks₂ : List Bool)
        → DifferOnly closed purgeable (run_trace accepts step s₁ j₁) (run_trace accepts step s₂ j₂) marks₁ marks₂
        → Alignment s₁ [] (frames_of j₁) s₂ [] (frames_of j₂)
    unfolding run_trace run_of
    run-alignment s₁ s₂ j₁ j₂ marks₁ marks₂ d =
        alignment
        (subst (Remains s₁ [] (frames_of j₁)) (run-remaining-same accepts step s₁ s₂ j₁ j₂ marks₁ marks₂ d.same_bytes).0
        (remains marks₁ s₁ [] (frames_of j₁) d.purged₁))
        (remains marks₂ s₂ [] (frames_of j₂) d.purged₂)
