-- The unwinding theorem: two journals that differ only in purgeable messages met while closed look the same to a set of staff, from
-- conditions on single steps. It is for any step over any states, any test of when something is closed, any test of what may be purged,
-- any relation `Agree` between two windows that are followed by an opening, and any test `compared` of frames whose
-- answers are the same while open.
--     Unwinding         the conditions
--     unwinding         the theorem: the set sees the same in both journals
--     same-windows      both journals have equally many windows, with the same openings
--     nothing_compared  where no frame is compared, nothing is
use Prim.Native.Nat.{ℕ}
use mathlib.Core.Path.{◌≡◌, refl, sym, ap, ◌∙◌}
use mathlib.Core.List.{List, [], ◌∷◌, ◌++◌, map, foldl, foldl-append, append-nil}
use mathlib.Core.Bool.{Bool, true, false, not, cond, ◌&&◌, true≢false, and-false}
use Rattle.model.specs.Step.{Response}
use Rattle.model.specs.Replay.{frames_of, run_frames, run_of}
use Rattle.confidentiality.specs.Traces.{Event, Trace, run_trace}
use Rattle.confidentiality.specs.History.{History, sender, after_event}
use Rattle.confidentiality.specs.Windows.{update_at, Window, windows, AgreeAtOpenings}
use Rattle.confidentiality.specs.Purging.{mark, DifferOnly}
use Rattle.confidentiality.specs.Confidentiality.{is_observer, observed}
use Rattle.confidentiality.proofs.Alignment.{event_at, next_history, events_from, Alignment, all_met, purged_in_first, purged_in_second, kept_in_both, run-alignment}

-- the answers to the compared messages that are met while open
module _ (closed : History → Bool) (compared : List ℕ → Bool) where
  unfoldable pub compared_while_open : History → List Event → List (List ℕ)
  compared_while_open h [] = []
  compared_while_open h (e ∷ es) =
      let later : List (List ℕ) = compared_while_open (after_event h e) es in cond (not (closed h) && compared e.frame) (e.answer ∷ later) later

-- ---- two places, one of each run

module _ {S Low : Type 0} (Inv : History → S → Type 0) (low : S → Low) where
  -- the invariant holds at both, and `low` is the same
  pub record LowEqual (h₁ h₂ : History) (s₁ s₂ : S) : Type 0 where
    pub inv₁ : Inv h₁ s₁
    pub inv₂ : Inv h₂ s₂
    pub low_same : low s₁ ≡ low s₂

module _ {S Low Shown : Type 0} (step : List ℕ → S → Response S) (closed : History → Bool) (compared : List ℕ → Bool)
    (Inv : History → S → Type 0) (low : S → Low) (shown : S → Shown) where
  -- both meet m: if they are open, `shown` is the same, and so is the answer to m if it is compared
  pub record BothMeet (m : List ℕ) (h₁ h₂ : History) (s₁ s₂ : S) : Type 0 where
    pub low-equal : LowEqual Inv low h₁ h₂ s₁ s₂
    pub shown-same : closed h₁ ≡ false → shown s₁ ≡ shown s₂
    pub compared_same : closed h₁ ≡ false → compared m ≡ true → (step m s₁).answer ≡ (step m s₂).answer

-- ---- the conditions

module _ {S : Type 0} (accepts : List ℕ → S → Bool) (step : List ℕ → S → Response S) (initial : S) (observers : ℕ → Bool)
    (closed : History → Bool) (purgeable : Event → Bool) (Agree : Window → Window → Type 0) (compared : List ℕ → Bool) where
  pub record Unwinding : Type 1 where
    -- what holds of a history and the state that it leads to, from the beginning on
    pub Inv : History → S → Type 0
    pub initially : Inv [] initial
    pub continues : (m : List ℕ) (h : History) (s : S) → Inv h s → Inv (next_history accepts step m h s) (step m s).state
    -- two projections of the state: `low` is always the same in the two runs, `shown` is while open
    pub Low : Type 0
    pub Shown : Type 0
    pub low : S → Low
    pub shown : S → Shown
    -- `low` decides whether a place is closed
    pub closed_low : (h₁ h₂ : History) (s₁ s₂ : S) → LowEqual Inv low h₁ h₂ s₁ s₂ → closed h₁ ≡ closed h₂
    -- a purgeable message met while closed is not sent by the set and leaves `low` as it is
    pub purgeable_unseen : (m : List ℕ) (h : History) (s : S) → Inv h s → closed h ≡ true → purgeable (event_at accepts step m s) ≡ true
        → is_observer observers (sender m) ≡ false
    pub purgeable_low : (m : List ℕ) (h : History) (s : S) → Inv h s → closed h ≡ true → purgeable (event_at accepts step m s) ≡ true
        → low (step m s).state ≡ low s
    -- while closed, what a purgeable message makes of `shown` depends on `shown` and its event only, and other messages leave `shown` as
    -- it is
    pub effect : Shown → Event → Shown
    pub purgeable_shown : (m : List ℕ) (h : History) (s : S) → Inv h s → closed h ≡ true → purgeable (event_at accepts step m s) ≡ true
        → shown (step m s).state ≡ effect (shown s) (event_at accepts step m s)
    pub other_shown : (m : List ℕ) (h : History) (s : S) → Inv h s → closed h ≡ true → purgeable (event_at accepts step m s) ≡ false
        → shown (step m s).state ≡ shown s
    -- behind an opening, what is shown is the same if the two windows agree; x was shown when they began
    pub agree_shown : (h₁ h₂ : History) (s₁ s₂ : S) → LowEqual Inv low h₁ h₂ s₁ s₂ → (x : Shown) (us₁ us₂ : List Event)
        → shown s₁ ≡ foldl effect x us₁ → shown s₂ ≡ foldl effect x us₂
        → Agree (record { updates = us₁; opens = true; history = h₁ }) (record { updates = us₂; opens = true; history = h₂ })
        → shown s₁ ≡ shown s₂
    -- of a message that both journals keep: `low` is the same behind it; `shown` is, where it is met while open; and so is the answer, if
    -- the set sent it
    pub low-next : (m : List ℕ) (h₁ h₂ : History) (s₁ s₂ : S) → BothMeet step closed compared Inv low shown m h₁ h₂ s₁ s₂
        → low (step m s₁).state ≡ low (step m s₂).state
    pub shown-next : (m : List ℕ) (h₁ h₂ : History) (s₁ s₂ : S) → BothMeet step closed compared Inv low shown m h₁ h₂ s₁ s₂
        → closed h₁ ≡ false → shown (step m s₁).state ≡ shown (step m s₂).state
    pub answer-same : (m : List ℕ) (h₁ h₂ : History) (s₁ s₂ : S) → BothMeet step closed compared Inv low shown m h₁ h₂ s₁ s₂
        → is_observer observers (sender m) ≡ true → (step m s₁).answer ≡ (step m s₂).answer

-- ---- windows, message by message

-- the updates of a window, with one message more
abbrev updated : (Event → Bool) → List Event → Event → List Event
updated is_update us e = us ++ cond (is_update e) (e ∷ []) []

-- whether an opening follows a window
abbrev opening : Window → Bool
opening w = w.opens

module _ (closed : History → Bool) (is_update : Event → Bool) where
  -- the windows of some events; which of them are purged does not matter
  abbrev windows_of : History → List Event → List Event → List Window
  windows_of h us es = windows closed is_update h us (mark [] es)

  windows_marked : (marks : List Bool) (es : List Event) (h : History) (us : List Event)
      → windows closed is_update h us (mark marks es) ≡ windows_of h us es
  unfolding windows mark update_at
  windows_marked marks [] h us = refl
  windows_marked [] (e ∷ es) h us = refl
  windows_marked (b ∷ marks) (e ∷ es) h us =
      let next : History = after_event h e in
      let window : Window = record { updates = updated is_update us e; opens = true; history = next } in
      ap (λ (later : List Window). cond (closed h && not (closed next)) (window ∷ later) later)
      (windows_marked marks es next (cond (closed h && closed next) (updated is_update us e) []))

  -- those from a message on, where c and d say whether the places before and behind it are closed
  abbrev windows_from : Bool → Bool → History → List Event → Event → List Event → List Window
  windows_from c d h us e es =
      let later : List Window = windows_of (after_event h e) (cond (c && d) (updated is_update us e) []) es in
      cond (c && not d) (record { updates = updated is_update us e; opens = true; history = after_event h e } ∷ later) later

  windows-from : (c d : Bool) (h : History) (us : List Event) (e : Event) (es : List Event) → closed h ≡ c → closed (after_event h e) ≡ d
      → windows_of h us (e ∷ es) ≡ windows_from c d h us e es
  unfolding windows mark update_at
  windows-from c d h us e es p q = rw (p, q)

  -- the openings of two runs that are closed and open together
  openings_end : (h₁ h₂ : History) (us₁ us₂ : List Event) → closed h₁ ≡ closed h₂
      → map opening (windows_of h₁ us₁ []) ≡ map opening (windows_of h₂ us₂ [])
  unfolding windows mark
  openings_end h₁ h₂ us₁ us₂ e = rw e (by_test (closed h₂))
    where
      by_test : (c : Bool) → map opening (cond c (record { updates = us₁; opens = false; history = h₁ } ∷ []) [])
          ≡ map opening (cond c (record { updates = us₂; opens = false; history = h₂ } ∷ []) [])
      by_test true = refl
      by_test false = refl

  openings-from : (c d : Bool) (h₁ h₂ : History) (us₁ us₂ : List Event) (e₁ e₂ : Event) (es₁ es₂ : List Event)
      → ((ws₁ ws₂ : List Event) → map opening (windows_of (after_event h₁ e₁) ws₁ es₁) ≡ map opening (windows_of (after_event h₂ e₂) ws₂ es₂))
      → map opening (windows_from c d h₁ us₁ e₁ es₁) ≡ map opening (windows_from c d h₂ us₂ e₂ es₂)
  openings-from true true h₁ h₂ us₁ us₂ e₁ e₂ es₁ es₂ later = later (updated is_update us₁ e₁) (updated is_update us₂ e₂)
  openings-from true false h₁ h₂ us₁ us₂ e₁ e₂ es₁ es₂ later = ap {B = List Bool} (λ (os : List Bool). true ∷ os) (later [] [])
  openings-from false d h₁ h₂ us₁ us₂ e₁ e₂ es₁ es₂ later = later [] []

-- ---- the answers to compared messages, message by message

compared_first : (c t : Bool) (a₁ a₂ : List ℕ) (l₁ l₂ : List (List ℕ)) → cond (not c && t) (a₁ ∷ l₁) l₁ ≡ cond (not c && t) (a₂ ∷ l₂) l₂
    → (c ≡ false → t ≡ true → a₁ ≡ a₂) × (l₁ ≡ l₂)
compared_first true t a₁ a₂ l₁ l₂ e = (λ p q. absurd (true≢false p), e)
compared_first false true a₁ a₂ l₁ l₂ e = (λ p q. cc e, cc e)
compared_first false false a₁ a₂ l₁ l₂ e = (λ p q. absurd (true≢false (sym q)), e)

pub nothing_compared : (closed : History → Bool) (compared : List ℕ → Bool) → ((m : List ℕ) → compared m ≡ false)
    → (h : History) (es : List Event) → compared_while_open closed compared h es ≡ []
unfolding compared_while_open
nothing_compared closed compared f h [] = refl
nothing_compared closed compared f h (e ∷ es) = rw (f e.frame, and-false (not (closed h))) (nothing_compared closed compared f (after_event h e) es)

-- ---- the proof

module _ {S : Type 0} (accepts : List ℕ → S → Bool) (step : List ℕ → S → Response S) (initial : S) (observers : ℕ → Bool)
    (closed : History → Bool) (purgeable : Event → Bool) (Agree : Window → Window → Type 0) (compared : List ℕ → Bool)
    (u : Unwinding accepts step initial observers closed purgeable Agree compared) where
  abbrev event_on : List ℕ → S → Event
  event_on m s = event_at accepts step m s

  abbrev history_after : List ℕ → History → S → History
  history_after m h s = next_history accepts step m h s

  abbrev state_after : List ℕ → S → S
  state_after m s = (step m s).state

  -- of the frames ms, met from the history h and the state s on: the events, what the set sees of them, the answers to compared ones while
  -- open, and the windows, where us are the updates so far of the one that h stands in
  abbrev events : S → List (List ℕ) → List Event
  events s ms = events_from accepts step s ms

  abbrev observed_from : S → List (List ℕ) → List (List ℕ × List ℕ)
  observed_from s ms = observed observers (events s ms)

  abbrev compared_at : History → S → List (List ℕ) → List (List ℕ)
  compared_at h s ms = compared_while_open closed compared h (events s ms)

  abbrev windows_at : History → S → List Event → List (List ℕ) → List Window
  windows_at h s us ms = windows_of closed purgeable h us (events s ms)

  abbrev AgreeAt : History → History → S → S → List Event → List Event → List (List ℕ) → List (List ℕ) → Type 0
  AgreeAt h₁ h₂ s₁ s₂ us₁ us₂ ms₁ ms₂ = AgreeAtOpenings Agree (windows_at h₁ s₁ us₁ ms₁) (windows_at h₂ s₂ us₂ ms₂)

  -- ---- the two runs at a place of each

  abbrev SameLow : History → History → S → S → Type 0
  SameLow h₁ h₂ s₁ s₂ = LowEqual u.Inv u.low h₁ h₂ s₁ s₂

  low_initial : SameLow [] [] initial initial
  low_initial = record { inv₁ = u.initially; inv₂ = u.initially; low_same = refl }

  -- x was shown when the window began in which the places stand, and us₁ and us₂ are its updates so far
  record Related (h₁ h₂ : History) (s₁ s₂ : S) (x : u.Shown) (us₁ us₂ : List Event) : Type 0 where
    low-equal : SameLow h₁ h₂ s₁ s₂
    shown₁ : u.shown s₁ ≡ foldl u.effect x us₁
    shown₂ : u.shown s₂ ≡ foldl u.effect x us₂
    shown_open : closed h₁ ≡ false → u.shown s₁ ≡ u.shown s₂

  related_closed : {h₁ h₂ : History} {s₁ s₂ : S} {x : u.Shown} {us₁ us₂ : List Event} → SameLow h₁ h₂ s₁ s₂ → closed h₁ ≡ true
      → u.shown s₁ ≡ foldl u.effect x us₁ → u.shown s₂ ≡ foldl u.effect x us₂ → Related h₁ h₂ s₁ s₂ x us₁ us₂
  related_closed l c e₁ e₂ = record { low-equal = l; shown₁ = e₁; shown₂ = e₂; shown_open = λ o. absurd (true≢false (sym c ∙ o)) }

  related_anew : {h₁ h₂ : History} {s₁ s₂ : S} → SameLow h₁ h₂ s₁ s₂ → u.shown s₁ ≡ u.shown s₂ → Related h₁ h₂ s₁ s₂ (u.shown s₁) [] []
  related_anew l e = record { low-equal = l; shown₁ = refl; shown₂ = sym e; shown_open = λ o. e }

  -- ---- a message that is met while closed, purged or not: what is shown goes on with its update

  shown_closed : (m : List ℕ) (h : History) (s : S) (x : u.Shown) (us : List Event) → u.Inv h s → closed h ≡ true
      → u.shown s ≡ foldl u.effect x us → u.shown (state_after m s) ≡ foldl u.effect x (updated purgeable us (event_on m s))
  shown_closed m h s x us i c e = by_test (purgeable (event_on m s)) refl
    where
      by_test : (t : Bool) → purgeable (event_on m s) ≡ t → u.shown (state_after m s) ≡ foldl u.effect x (us ++ cond t (event_on m s ∷ []) [])
      by_test true p =
          u.purgeable_shown m h s i c p ∙ ap (λ (y : u.Shown). u.effect y (event_on m s)) e ∙ sym (foldl-append u.effect x us (event_on m s ∷ []))
      by_test false p = u.other_shown m h s i c p ∙ e ∙ ap (foldl u.effect x) (sym (append-nil us))

  -- ---- a message that is purged: the place behind it is closed too, and the set sees nothing of it

  module _ (m : List ℕ) (h : History) (s : S) (i : u.Inv h s) (c : closed h ≡ true) (p : purgeable (event_on m s) ≡ true) where
    closed_purged : closed (history_after m h s) ≡ true
    closed_purged =
        u.closed_low (history_after m h s) h (state_after m s) s
        (record { inv₁ = u.continues m h s i; inv₂ = i; low_same = u.purgeable_low m h s i c p }) ∙ c

    windows-purged : (us : List Event) (ms : List (List ℕ))
        → windows_at h s us (m ∷ ms) ≡ windows_at (history_after m h s) (state_after m s) (updated purgeable us (event_on m s)) ms
    unfolding run_frames
    windows-purged us ms = windows-from closed purgeable true true h us (event_on m s) (events (state_after m s) ms) c closed_purged

    compared_purged : (ms : List (List ℕ)) → compared_at h s (m ∷ ms) ≡ compared_at (history_after m h s) (state_after m s) ms
    unfolding run_frames compared_while_open
    compared_purged ms = rw c

    observed-purged : (ms : List (List ℕ)) → observed_from s (m ∷ ms) ≡ observed_from (state_after m s) ms
    unfolding run_frames observed
    observed-purged ms = rw (u.purgeable_unseen m h s i c p)

  -- ---- `low` stays the same

  module _ (m : List ℕ) (h₁ h₂ : History) (s₁ s₂ : S) (l : SameLow h₁ h₂ s₁ s₂) where
    low_first : closed h₁ ≡ true → purgeable (event_on m s₁) ≡ true → SameLow (history_after m h₁ s₁) h₂ (state_after m s₁) s₂
    low_first c p = record {
      inv₁ = u.continues m h₁ s₁ l.inv₁;
      inv₂ = l.inv₂;
      low_same = u.purgeable_low m h₁ s₁ l.inv₁ c p ∙ l.low_same;
    }

    low_second : closed h₂ ≡ true → purgeable (event_on m s₂) ≡ true → SameLow h₁ (history_after m h₂ s₂) s₁ (state_after m s₂)
    low_second c p = record {
      inv₁ = l.inv₁;
      inv₂ = u.continues m h₂ s₂ l.inv₂;
      low_same = l.low_same ∙ sym (u.purgeable_low m h₂ s₂ l.inv₂ c p);
    }

    low-both : u.low (state_after m s₁) ≡ u.low (state_after m s₂)
        → SameLow (history_after m h₁ s₁) (history_after m h₂ s₂) (state_after m s₁) (state_after m s₂)
    low-both e = record { inv₁ = u.continues m h₁ s₁ l.inv₁; inv₂ = u.continues m h₂ s₂ l.inv₂; low_same = e }

  -- ---- a message that both journals keep

  module _ (m : List ℕ) (h₁ h₂ : History) (s₁ s₂ : S) (ms₁ ms₂ : List (List ℕ)) where
    abbrev h₁' : History
    h₁' = history_after m h₁ s₁

    abbrev h₂' : History
    h₂' = history_after m h₂ s₂

    abbrev s₁' : S
    s₁' = state_after m s₁

    abbrev s₂' : S
    s₂' = state_after m s₂

    observed-both : (is_observer observers (sender m) ≡ true → (step m s₁).answer ≡ (step m s₂).answer) → observed_from s₁' ms₁ ≡ observed_from s₂' ms₂
        → observed_from s₁ (m ∷ ms₁) ≡ observed_from s₂ (m ∷ ms₂)
    unfolding run_frames observed
    observed-both a e = by_test (is_observer observers (sender m)) refl
      where
        by_test : (t : Bool) → is_observer observers (sender m) ≡ t → observed_from s₁ (m ∷ ms₁) ≡ observed_from s₂ (m ∷ ms₂)
        by_test true q = rw (q, a q, e)
        by_test false q = rw (q, e)

    compared_both : closed h₁ ≡ closed h₂ → compared_at h₁ s₁ (m ∷ ms₁) ≡ compared_at h₂ s₂ (m ∷ ms₂)
        → (closed h₁ ≡ false → compared m ≡ true → (step m s₁).answer ≡ (step m s₂).answer) × (compared_at h₁' s₁' ms₁ ≡ compared_at h₂' s₂' ms₂)
    unfolding run_frames compared_while_open
    compared_both c e =
        compared_first (closed h₁) (compared m) (step m s₁).answer (step m s₂).answer (compared_at h₁' s₁' ms₁) (compared_at h₂' s₂' ms₂)
        (rw (← c) at e)

    -- the window goes on; or an opening ends it, where its updates agree; or there was none
    module _ (x : u.Shown) (us₁ us₂ : List Event) (r : Related h₁ h₂ s₁ s₂ x us₁ us₂)
        (t : BothMeet step closed compared u.Inv u.low u.shown m h₁ h₂ s₁ s₂) where
      same_closed : closed h₁ ≡ closed h₂
      same_closed = u.closed_low h₁ h₂ s₁ s₂ r.low-equal

      low_after : SameLow h₁' h₂' s₁' s₂'
      low_after = low-both m h₁ h₂ s₁ s₂ r.low-equal (u.low-next m h₁ h₂ s₁ s₂ t)

      abbrev ws₁ : List Event
      ws₁ = updated purgeable us₁ (event_on m s₁)

      abbrev ws₂ : List Event
      ws₂ = updated purgeable us₂ (event_on m s₂)

      shown_after₁ : closed h₁ ≡ true → u.shown s₁' ≡ foldl u.effect x ws₁
      shown_after₁ c = shown_closed m h₁ s₁ x us₁ r.low-equal.inv₁ c r.shown₁

      shown_after₂ : closed h₁ ≡ true → u.shown s₂' ≡ foldl u.effect x ws₂
      shown_after₂ c = shown_closed m h₂ s₂ x us₂ r.low-equal.inv₂ (sym same_closed ∙ c) r.shown₂

      agree_both : ((y : u.Shown) (vs₁ vs₂ : List Event) → Related h₁' h₂' s₁' s₂' y vs₁ vs₂ → AgreeAt h₁' h₂' s₁' s₂' vs₁ vs₂ ms₁ ms₂
          → observed_from s₁' ms₁ ≡ observed_from s₂' ms₂)
          → AgreeAt h₁ h₂ s₁ s₂ us₁ us₂ (m ∷ ms₁) (m ∷ ms₂) → observed_from s₁' ms₁ ≡ observed_from s₂' ms₂
      unfolding run_frames
      agree_both later o =
          by_tests (closed h₁) (closed h₁') refl refl
          (rw (
            windows-from closed purgeable (closed h₁) (closed h₁') h₁ us₁ (event_on m s₁) (events s₁' ms₁) refl refl,
            windows-from closed purgeable (closed h₁) (closed h₁') h₂ us₂ (event_on m s₂) (events s₂' ms₂)
                (sym same_closed) (sym (u.closed_low h₁' h₂' s₁' s₂' low_after)),
          )
          at o)
        where
          by_tests : (c d : Bool) → closed h₁ ≡ c → closed h₁' ≡ d
              → AgreeAtOpenings Agree
              (windows_from closed purgeable c d h₁ us₁ (event_on m s₁) (events s₁' ms₁))
              (windows_from closed purgeable c d h₂ us₂ (event_on m s₂) (events s₂' ms₂))
              → observed_from s₁' ms₁ ≡ observed_from s₂' ms₂
          by_tests true true p q o = later x ws₁ ws₂ (related_closed low_after q (shown_after₁ p) (shown_after₂ p)) o
          by_tests true false p q o =
              later (u.shown s₁') [] []
              (related_anew low_after (u.agree_shown h₁' h₂' s₁' s₂' low_after x ws₁ ws₂ (shown_after₁ p) (shown_after₂ p) (o.0 refl refl))) o.1
          by_tests false d p q o = later (u.shown s₁') [] [] (related_anew low_after (u.shown-next m h₁ h₂ s₁ s₂ t p)) o

  -- ---- the two runs

  same-observed : {h₁ h₂ : History} {s₁ s₂ : S} {ms₁ ms₂ : List (List ℕ)} → Alignment accepts step closed purgeable s₁ h₁ ms₁ s₂ h₂ ms₂
      → (x : u.Shown) (us₁ us₂ : List Event) → Related h₁ h₂ s₁ s₂ x us₁ us₂ → AgreeAt h₁ h₂ s₁ s₂ us₁ us₂ ms₁ ms₂
      → compared_at h₁ s₁ ms₁ ≡ compared_at h₂ s₂ ms₂ → observed_from s₁ ms₁ ≡ observed_from s₂ ms₂
  unfolding run_frames observed
  same-observed all_met x us₁ us₂ r o e = refl
  same-observed (purged_in_first {s₁ = s₁} {s₂ = s₂} {h₁ = h₁} {h₂ = h₂} {m = m} {ms₁ = ms₁} p c a) x us₁ us₂ r o e =
      let i : u.Inv h₁ s₁ = r.low-equal.inv₁ in
      observed-purged m h₁ s₁ i c p ms₁
      ∙ same-observed a x (updated purgeable us₁ (event_on m s₁)) us₂
      (related_closed (low_first m h₁ h₂ s₁ s₂ r.low-equal c p) (closed_purged m h₁ s₁ i c p)
      (shown_closed m h₁ s₁ x us₁ i c r.shown₁) r.shown₂)
      (rw (windows-purged m h₁ s₁ i c p us₁ ms₁) at o)
      (sym (compared_purged m h₁ s₁ i c p ms₁) ∙ e)
  same-observed (purged_in_second {s₁ = s₁} {s₂ = s₂} {h₁ = h₁} {h₂ = h₂} {m = m} {ms₂ = ms₂} p c a) x us₁ us₂ r o e =
      let i : u.Inv h₂ s₂ = r.low-equal.inv₂ in
      same-observed a x us₁ (updated purgeable us₂ (event_on m s₂))
      (related_closed (low_second m h₁ h₂ s₁ s₂ r.low-equal c p) (u.closed_low h₁ h₂ s₁ s₂ r.low-equal ∙ c)
      r.shown₁ (shown_closed m h₂ s₂ x us₂ i c r.shown₂))
      (rw (windows-purged m h₂ s₂ i c p us₂ ms₂) at o)
      (e ∙ compared_purged m h₂ s₂ i c p ms₂)
      ∙ sym (observed-purged m h₂ s₂ i c p ms₂)
  same-observed (kept_in_both {s₁ = s₁} {s₂ = s₂} {h₁ = h₁} {h₂ = h₂} {m = m} {ms₁ = ms₁} {ms₂ = ms₂} a) x us₁ us₂ r o e =
      let k = compared_both m h₁ h₂ s₁ s₂ ms₁ ms₂ (u.closed_low h₁ h₂ s₁ s₂ r.low-equal) e in
      let t : BothMeet step closed compared u.Inv u.low u.shown m h₁ h₂ s₁ s₂ =
      record { low-equal = r.low-equal; shown-same = r.shown_open; compared_same = k.0 }
      in
      observed-both m h₁ h₂ s₁ s₂ ms₁ ms₂ (u.answer-same m h₁ h₂ s₁ s₂ t)
      (agree_both m h₁ h₂ s₁ s₂ ms₁ ms₂ x us₁ us₂ r t (λ y vs₁ vs₂ r' o'. same-observed a y vs₁ vs₂ r' o' k.1) o)

  -- where `low` behind a message that both keep never depends on what is shown
  module _
      (low-kept : (m : List ℕ) (h₁ h₂ : History) (s₁ s₂ : S) → SameLow h₁ h₂ s₁ s₂
      → u.low (state_after m s₁) ≡ u.low (state_after m s₂)) where
    same-openings : {h₁ h₂ : History} {s₁ s₂ : S} {ms₁ ms₂ : List (List ℕ)} → Alignment accepts step closed purgeable s₁ h₁ ms₁ s₂ h₂ ms₂
        → (us₁ us₂ : List Event) → SameLow h₁ h₂ s₁ s₂ → map opening (windows_at h₁ s₁ us₁ ms₁) ≡ map opening (windows_at h₂ s₂ us₂ ms₂)
    unfolding run_frames
    same-openings (all_met {s₁ = s₁} {s₂ = s₂} {h₁ = h₁} {h₂ = h₂}) us₁ us₂ l =
        openings_end closed purgeable h₁ h₂ us₁ us₂ (u.closed_low h₁ h₂ s₁ s₂ l)
    same-openings (purged_in_first {s₁ = s₁} {s₂ = s₂} {h₁ = h₁} {h₂ = h₂} {m = m} {ms₁ = ms₁} p c a) us₁ us₂ l =
        ap (map opening) (windows-purged m h₁ s₁ l.inv₁ c p us₁ ms₁)
        ∙ same-openings a (updated purgeable us₁ (event_on m s₁)) us₂ (low_first m h₁ h₂ s₁ s₂ l c p)
    same-openings (purged_in_second {s₁ = s₁} {s₂ = s₂} {h₁ = h₁} {h₂ = h₂} {m = m} {ms₂ = ms₂} p c a) us₁ us₂ l =
        same-openings a us₁ (updated purgeable us₂ (event_on m s₂)) (low_second m h₁ h₂ s₁ s₂ l c p)
        ∙ sym (ap (map opening) (windows-purged m h₂ s₂ l.inv₂ c p us₂ ms₂))
    same-openings (kept_in_both {s₁ = s₁} {s₂ = s₂} {h₁ = h₁} {h₂ = h₂} {m = m} {ms₁ = ms₁} {ms₂ = ms₂} a) us₁ us₂ l =
        let after = low-both m h₁ h₂ s₁ s₂ l (low-kept m h₁ h₂ s₁ s₂ l) in
        let c : Bool = closed h₂ in
        let d : Bool = closed (history_after m h₂ s₂) in
        let es₁ : List Event = events (state_after m s₁) ms₁ in
        let es₂ : List Event = events (state_after m s₂) ms₂ in
        ap (map opening)
        (windows-from closed purgeable c d h₁ us₁ (event_on m s₁) es₁ (u.closed_low h₁ h₂ s₁ s₂ l)
        (u.closed_low (history_after m h₁ s₁) (history_after m h₂ s₂) (state_after m s₁) (state_after m s₂) after))
        ∙ openings-from closed purgeable c d h₁ h₂ us₁ us₂ (event_on m s₁) (event_on m s₂) es₁ es₂ (λ vs₁ vs₂. same-openings a vs₁ vs₂ after)
        ∙ sym (ap (map opening) (windows-from closed purgeable c d h₂ us₂ (event_on m s₂) es₂ refl refl))

  -- ---- two journals that differ only in purgeable messages, each met while closed

  abbrev pub trace_from : List ℕ → Trace
  trace_from j = run_trace accepts step initial j

  module _ (j₁ j₂ : List ℕ) (marks₁ marks₂ : List Bool) (d : DifferOnly closed purgeable (trace_from j₁) (trace_from j₂) marks₁ marks₂) where
    -- the set sees the same in both
    pub unwinding : AgreeAtOpenings Agree
        (windows closed purgeable [] [] (mark marks₁ (trace_from j₁).events))
        (windows closed purgeable [] [] (mark marks₂ (trace_from j₂).events))
        → compared_while_open closed compared [] (trace_from j₁).events ≡ compared_while_open closed compared [] (trace_from j₂).events
        → observed observers (trace_from j₁).events ≡ observed observers (trace_from j₂).events
    unfolding run_trace run_of
    unwinding o e =
        same-observed (run-alignment accepts step closed purgeable initial initial j₁ j₂ marks₁ marks₂ d)
        (u.shown initial) [] [] (related_anew low_initial refl)
        (rw (
          windows_marked closed purgeable marks₁ (events initial (frames_of j₁)) [] [],
          windows_marked closed purgeable marks₂ (events initial (frames_of j₂)) [] [],
        )
        at o)
        e

    -- both have equally many windows, and an opening follows the one where it follows the other
    pub same-windows : ((m : List ℕ) (h₁ h₂ : History) (s₁ s₂ : S) → LowEqual u.Inv u.low h₁ h₂ s₁ s₂
        → u.low (step m s₁).state ≡ u.low (step m s₂).state)
        → map (λ (w : Window). w.opens) (windows closed purgeable [] [] (mark marks₁ (trace_from j₁).events))
        ≡ map (λ (w : Window). w.opens) (windows closed purgeable [] [] (mark marks₂ (trace_from j₂).events))
    unfolding run_trace run_of
    same-windows low-kept =
        ap (map opening) (windows_marked closed purgeable marks₁ (events initial (frames_of j₁)) [] [])
        ∙ same-openings low-kept (run-alignment accepts step closed purgeable initial initial j₁ j₂ marks₁ marks₂ d) [] [] low_initial
        ∙ sym (ap (map opening) (windows_marked closed purgeable marks₂ (events initial (frames_of j₂)) [] []))
