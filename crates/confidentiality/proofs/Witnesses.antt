-- Journals on which the claim is computed, from the empty state. 7 is the admin and 9 owns post 50; the set is {7} unless said otherwise.
-- Openings has pairs that meet all hypotheses. These break one alone, and the set tells them apart:
--     last_texts_needed       the last texts before an opening are the same
--     both_or_neither_needed  .. and both journals have an update before it or neither has
--     common_last_texts, all_updates_needed   .. of all updates of the window, not of the purged ones only
--     refused_last_texts, accepted-updates_needed   .. of accepted updates only
--     friends_needed          a purged update is met while nobody of the set is a friend of the owner
--     owner_needed            .. nobody of the set is the owner
--     visibility_needed       .. the post is not public
--     number_needed           a purged update has the number of the post
--     kind_needed             .. is a 0403
--     accepted_needed         .. is accepted
--     bytes_needed            the same bytes remain
--     room_needed             the replays have room to their ends (one journal, two buffers)
--     open_told_apart, empty-board_needed   the runs begin at the empty state, not at one in which the post is open
--     left-board_told_apart   .. the replays on the empty board, not on the board that another replay left
-- Of any step:
--     refuted                 the claim is false if a pair meets the hypotheses and is told apart
-- Values:
--     rest_compared           journals with the same frames and other bytes behind them do not differ only in updates
--     unmarked_remain         where the marks end nothing is purged
--     observed_senders        who sends a message
--     closed-by-owner, closed-by-visibility, registration-opens   to whom a post is closed
--     window-values           the windows of a journal
use Prim.Native.Nat.{ℕ, ◌-◌}
use mathlib.Core.Path.{◌≡◌, refl, sym, ap, subst}
use mathlib.Core.List.{List, [], ◌∷◌, ◌++◌, map, flatten, zip_with}
use mathlib.Core.Bool.{Bool, true, false, cond, ◌||◌, true≢false}
use mathlib.Core.Option
use mathlib.Core.Option.{Option, some, none}
use lib.ListN.{length, get_or}
use lib.Dec.{eqb}
use borrow.Author.Tests.{eqb-false}
use Rattle.reader.specs.Messages.{Content, message_content}
use Rattle.model.specs.State.{State, empty_state}
use Rattle.model.specs.Board.{encode, empty_board}
use Rattle.model.specs.Step.{Response, step_state}
use Rattle.model.specs.Replay.{run_of, ReplayResult, stopped, replay_in, replay_of}
use Rattle.model.proofs.JournalLaws.{last_state}
use Rattle.model.proofs.SoundnessTheorems.{empty-sound}
use Rattle.model.proofs.Invariant.{empty-valid, reached_valid}
use Rattle.model.proofs.EmptyBoard.{empty-encoded}
use Rattle.model.proofs.ReplayTheorems.{replay_complete}
use Rattle.model.proofs.CaseTable.{message, login, target, target_string, registration_request, registration, visibility_update}
use Rattle.confidentiality.specs.Traces.{Event, Trace, run_trace, is_accepted, answers_in, replay_trace}
use Rattle.confidentiality.specs.History.{History, after_event, is_kind, is_about, target_field, text_field, closed_to, is_text_update}
use Rattle.confidentiality.specs.Windows.{Marked, Window, windows, AgreeAtOpenings}
use Rattle.confidentiality.specs.Purging.{mark, remaining, purged_while_closed, DifferOnly}
use Rattle.confidentiality.specs.Confidentiality.{last_text, SameLastText, observed, Noninterference, Confidential}
use Rattle.confidentiality.specs.Accountability.{history_of}
use Rattle.confidentiality.proofs.Definitions.{claim_definitions}
use Rattle.confidentiality.proofs.ReplayTraces.{valid_trace, replay_trace_lem}

-- ---- messages and journals

-- a journal as its messages, each with whether it is purged
abbrev pub MarkedJournal : Type 0
MarkedJournal = List (List ℕ × Bool)

abbrev pub retain : List ℕ → List ℕ × Bool
retain m = (m, false)

abbrev pub purge : List ℕ → List ℕ × Bool
purge m = (m, true)

abbrev pub bytes_of : MarkedJournal → List ℕ
bytes_of j = flatten (map (λ (m : List ℕ × Bool). m.0) j)

abbrev pub marks_of : MarkedJournal → List Bool
marks_of j = map (λ (m : List ℕ × Bool). m.1) j

abbrev pub only_user : ℕ → ℕ → Bool
only_user v u = eqb u v

-- 7 starts with password 1, and registers 9 with password 3, who makes post 50
abbrev pub staffed : List (List ℕ)
staffed = login 0x0101 7 1 ∷ registration_request 9 [] ∷ registration 7 1 9 3 ∷ []

abbrev pub make_post : List ℕ
make_post = target_string 0x0203 9 3 50 []

abbrev pub created : List (List ℕ)
created = staffed ++ (make_post ∷ [])

-- .. and makes it public
abbrev pub make_public : List ℕ
make_public = visibility_update 9 3 50 1

abbrev pub published : List (List ℕ)
published = created ++ (make_public ∷ [])

-- 9 gives post 50 a text of one byte
abbrev pub set_text : ℕ → List ℕ
set_text x = target_string 0x0403 9 3 50 (x ∷ [])

-- 7 and 9 become friends, and 7 ends it
abbrev pub befriend : List (List ℕ)
befriend = target_string 0x0204 7 1 9 [] ∷ target 0x0205 9 3 7 ∷ []

abbrev pub end_friendship : List ℕ
end_friendship = target 0x0301 7 1 9

-- 7 asks for the text of post 50
abbrev pub read_text : List ℕ
read_text = target 0x0505 7 1 50

-- 7 registers 8 with password 2, and 8 or 9 asks for it
abbrev pub register8 : List (List ℕ)
register8 = registration_request 8 [] ∷ registration 7 1 8 2 ∷ []

abbrev pub read_by8 : List ℕ
read_by8 = target 0x0505 8 2 50

abbrev read_by9 : List ℕ
read_by9 = target 0x0505 9 3 50

-- 7 and 9 become friends, and 7 asks
abbrev pub opening : MarkedJournal
opening = map retain (befriend ++ (read_text ∷ []))

-- 65, purged, between the messages before it and a last one, and the same without it
abbrev pub purged_text : List (List ℕ) → List ℕ → MarkedJournal
purged_text before last = map retain before ++ (purge (set_text 65) ∷ retain last ∷ [])

abbrev pub no_text : List (List ℕ) → List ℕ → MarkedJournal
no_text before last = map retain (before ++ (last ∷ []))

-- ---- the hypotheses and the conclusion of the claim

abbrev pub trace_of : MarkedJournal → Trace
trace_of j = run_trace is_accepted step_state empty_state (bytes_of j)

abbrev pub marked_events : MarkedJournal → List Marked
marked_events j = mark (marks_of j) (trace_of j).events

abbrev pub remaining_bytes : MarkedJournal → List ℕ
remaining_bytes j = flatten (remaining (marked_events j)) ++ (trace_of j).rest

-- of a purged message: whether it is accepted, whether it is a 0403, whether it has the number of the post, whether the post is closed before it
abbrev pub PurgingTests : Type 0
PurgingTests = Bool × Bool × Bool × Bool

unfoldable pub purging_tests : (ℕ → Bool) → ℕ → History → List Marked → List PurgingTests
purging_tests observers n h [] = []
purging_tests observers n h (c ∷ cs) =
    let m : Content = message_content c.event.frame in
    let later : List PurgingTests = purging_tests observers n (after_event h c.event) cs in
    cond c.purged ((c.event.accepted, is_kind 0x0403 m, eqb (target_field m) n, closed_to observers n h) ∷ later) later

module _ (observers : ℕ → Bool) (n : ℕ) where
  abbrev pub may_be_purged : MarkedJournal → Bool
  may_be_purged j = purged_while_closed (closed_to observers n) (is_text_update n) [] (marked_events j)

  abbrev pub windows_in : List Bool → Trace → List Window
  windows_in marks t = windows (closed_to observers n) (is_text_update n) [] [] (mark marks t.events)

  abbrev pub windows_of : MarkedJournal → List Window
  windows_of j = windows_in (marks_of j) (trace_of j)

  abbrev pub last_texts : MarkedJournal → List (Option (List ℕ))
  last_texts j = map (λ (w : Window). last_text w.updates) (windows_of j)

  abbrev pub openings_of : MarkedJournal → List Bool
  openings_of j = map (λ (w : Window). w.opens) (windows_of j)

  -- the traces meet the hypotheses on what is purged and on openings, and the set tells them apart
  abbrev pub ToldApart : List Bool → List Bool → Trace → Trace → Type 0
  ToldApart marks₁ marks₂ t₁ t₂ =
      DifferOnly (closed_to observers n) (is_text_update n) t₁ t₂ marks₁ marks₂
      × AgreeAtOpenings SameLastText (windows_in marks₁ t₁) (windows_in marks₂ t₂)
      × (observed observers t₁.events ≡ observed observers t₂.events → ⊥)

  module _ (j₁ j₂ : MarkedJournal) where
    abbrev pub JournalsDiffer : Type 0
    JournalsDiffer = DifferOnly (closed_to observers n) (is_text_update n) (trace_of j₁) (trace_of j₂) (marks_of j₁) (marks_of j₂)

    abbrev pub WindowsAgree : Type 0
    WindowsAgree = AgreeAtOpenings SameLastText (windows_of j₁) (windows_of j₂)

    abbrev pub SameObserved : Type 0
    SameObserved = observed observers (trace_of j₁).events ≡ observed observers (trace_of j₂).events

    -- only the condition on the last texts fails
    abbrev pub LastTextsFail : Type 0
    LastTextsFail = JournalsDiffer × (WindowsAgree → ⊥) × (SameObserved → ⊥)

    -- only the condition on what is purged fails, by these tests of the one message that is purged in the first journal
    abbrev pub PurgingFails : PurgingTests → Type 0
    PurgingFails tests =
        (purging_tests observers n [] (marked_events j₁) ≡ tests ∷ []) × (may_be_purged j₁ ≡ false) × (may_be_purged j₂ ≡ true)
        × (remaining_bytes j₁ ≡ remaining_bytes j₂) × WindowsAgree × (SameObserved → ⊥)

-- what a number tells apart is not the same
pub told_apart : {A : Type 0} (f : A → ℕ) (x y : A) → eqb (f x) (f y) ≡ false → x ≡ y → ⊥
told_apart f x y d e = eqb-false (f x) (f y) d (ap f e)

-- windows agree where no opening follows the first: `λ e f. absurd (no_opening e)`. A law for that whole term is slow to unify.
pub no_opening : false ≡ true → ⊥
no_opening e = true≢false (sym e)

-- what a set observes: its frames, each with its answer
abbrev pub View : Type 0
View = List (List ℕ × List ℕ)

-- byte k of answer i, and of the last answer
abbrev pub answer_byte : ℕ → ℕ → View → ℕ
answer_byte i k xs = get_or (get_or xs i ([], [])).1 k 0

abbrev last_answer_byte : ℕ → View → ℕ
last_answer_byte k xs = answer_byte (length xs - 1) k xs

-- the first byte of a text
abbrev text_byte : Option (List ℕ) → ℕ
text_byte text = get_or (Option.get_or text []) 0 0

-- the claim is false of a step begun at s if two journals meet the hypotheses for post 50 and are told apart
module _ {S : Type 0} (accepts : List ℕ → S → Bool) (step : List ℕ → S → Response S) (s : S) (observers : ℕ → Bool) (j₁ j₂ : MarkedJournal) where
  abbrev pub RunsToldApart : Type 0
  RunsToldApart =
      ToldApart observers 50 (marks_of j₁) (marks_of j₂) (run_trace accepts step s (bytes_of j₁)) (run_trace accepts step s (bytes_of j₂))

  pub refuted : RunsToldApart → Confidential accepts step s → ⊥
  unfolding Confidential Noninterference
  refuted pair claim = pair.2 (claim observers 50 (bytes_of j₁) (bytes_of j₂) (marks_of j₁) (marks_of j₂) pair.0 pair.1)

-- ---- the last texts

-- 65, or 66 and 67, purged before a common 68 and the opening: Openings shows that this pair meets all hypotheses
abbrev pub opened₁ : MarkedJournal
opened₁ = map retain created ++ (purge (set_text 65) ∷ retain (set_text 68) ∷ opening)

abbrev pub opened₂ : MarkedJournal
opened₂ = map retain created ++ (purge (set_text 66) ∷ purge (set_text 67) ∷ retain (set_text 68) ∷ opening)

-- 65 or 66, both purged, before the opening
abbrev pub last_differs₁ : MarkedJournal
last_differs₁ = map retain created ++ (purge (set_text 65) ∷ opening)

abbrev pub last_differs₂ : MarkedJournal
last_differs₂ = map retain created ++ (purge (set_text 66) ∷ opening)

pub last_texts_needed : LastTextsFail (only_user 7) 50 last_differs₁ last_differs₂
unfolding claim_definitions
last_texts_needed = (
  record { purged₁ = refl; purged₂ = refl; same_bytes = refl },
  (λ agree. told_apart text_byte (some (65 ∷ [])) (some (66 ∷ [])) refl (agree.0 refl refl)),
  told_apart (answer_byte 3 6) _ _ refl,
)

-- 65, purged, before the opening, or no update
abbrev pub no_update : MarkedJournal
no_update = map retain created ++ opening

pub both_or_neither_needed : LastTextsFail (only_user 7) 50 last_differs₁ no_update
unfolding claim_definitions
both_or_neither_needed = (
  record { purged₁ = refl; purged₂ = refl; same_bytes = refl },
  (λ agree. told_apart text_byte (some (65 ∷ [])) none refl (agree.0 refl refl)),
  told_apart (answer_byte 3 0) _ _ refl,
)

-- 65 purged before a common 68, or behind it
abbrev pub common₁ : MarkedJournal
common₁ = opened₁

abbrev pub common₂ : MarkedJournal
common₂ = map retain created ++ (retain (set_text 68) ∷ purge (set_text 65) ∷ opening)

abbrev pub purged_events : MarkedJournal → List Event
purged_events j = flatten (map (λ (c : Marked). cond c.purged (c.event ∷ []) []) (marked_events j))

-- the purged updates alone have the same last text, all updates do not
pub common_last_texts : (last_text (purged_events common₁) ≡ some (65 ∷ [])) × (last_text (purged_events common₂) ≡ some (65 ∷ []))
    × (last_texts (only_user 7) 50 common₁ ≡ some (68 ∷ []) ∷ []) × (last_texts (only_user 7) 50 common₂ ≡ some (65 ∷ []) ∷ [])
unfolding claim_definitions
common_last_texts = (refl, refl, refl, refl)

pub all_updates_needed : LastTextsFail (only_user 7) 50 common₁ common₂
unfolding claim_definitions
all_updates_needed = (
  record { purged₁ = refl; purged₂ = refl; same_bytes = refl },
  (λ agree. told_apart text_byte (some (68 ∷ [])) (some (65 ∷ [])) refl (agree.0 refl refl)),
  told_apart (answer_byte 3 6) _ _ refl,
)

-- 65 or 66, both purged, before a common 67 that is refused for a wrong password
abbrev pub refused_update : List ℕ
refused_update = target_string 0x0403 9 4 50 (67 ∷ [])

abbrev pub refused_last₁ : MarkedJournal
refused_last₁ = map retain created ++ (purge (set_text 65) ∷ retain refused_update ∷ opening)

abbrev pub refused_last₂ : MarkedJournal
refused_last₂ = map retain created ++ (purge (set_text 66) ∷ retain refused_update ∷ opening)

-- the last texts of the windows if refused updates counted too
abbrev pub last_sent : MarkedJournal → List (Option (List ℕ))
last_sent j =
    map (λ (w : Window). last_text w.updates)
    (windows (closed_to (only_user 7) 50) (λ (e : Event). is_about 0x0403 50 (message_content e.frame)) [] [] (marked_events j))

-- with refused ones the updates have the same last text, the accepted ones do not
pub refused_last_texts : (last_sent refused_last₁ ≡ some (67 ∷ []) ∷ []) × (last_sent refused_last₂ ≡ some (67 ∷ []) ∷ [])
    × (last_texts (only_user 7) 50 refused_last₁ ≡ some (65 ∷ []) ∷ []) × (last_texts (only_user 7) 50 refused_last₂ ≡ some (66 ∷ []) ∷ [])
unfolding claim_definitions
refused_last_texts = (refl, refl, refl, refl)

pub accepted-updates_needed : LastTextsFail (only_user 7) 50 refused_last₁ refused_last₂
unfolding claim_definitions
accepted-updates_needed = (
  record { purged₁ = refl; purged₂ = refl; same_bytes = refl },
  (λ agree. told_apart text_byte (some (65 ∷ [])) (some (66 ∷ [])) refl (agree.0 refl refl)),
  told_apart (answer_byte 3 6) _ _ refl,
)

-- ---- what is purged

-- 65 purged while 7 and 9 are friends, before 7 reads
pub friends_needed : PurgingFails (only_user 7) 50 (purged_text (created ++ befriend) read_text) (no_text (created ++ befriend) read_text)
    (true, true, true, false)
unfolding claim_definitions purging_tests
friends_needed = (refl, refl, refl, refl, ((λ e f. refl), tt), told_apart (answer_byte 3 0) _ _ refl)

-- .. while the set is {9}, before 9 reads: 9 sent the purged update, and gets another last answer with it
pub owner_needed : PurgingFails (only_user 9) 50 (purged_text created read_by9) (no_text created read_by9) (true, true, true, false)
unfolding claim_definitions purging_tests
owner_needed = (refl, refl, refl, refl, ((λ e f. refl), tt), told_apart (last_answer_byte 0) _ _ refl)

-- .. while the post is public, before 7 reads, who is no friend of 9
pub visibility_needed : PurgingFails (only_user 7) 50 (purged_text published read_text) (no_text published read_text) (true, true, true, false)
unfolding claim_definitions purging_tests
visibility_needed = (refl, refl, refl, refl, ((λ e f. refl), tt), told_apart (answer_byte 2 0) _ _ refl)

-- the text of post 51 of 9, which is public; post 50 is never opened
abbrev pub public_post : List (List ℕ)
public_post = created ++ (target_string 0x0203 9 3 51 [] ∷ visibility_update 9 3 51 1 ∷ [])

abbrev pub other_post₁ : MarkedJournal
other_post₁ = map retain public_post ++ (purge (target_string 0x0403 9 3 51 (65 ∷ [])) ∷ retain (target 0x0505 7 1 51) ∷ [])

abbrev pub other_post₂ : MarkedJournal
other_post₂ = map retain (public_post ++ (target 0x0505 7 1 51 ∷ []))

pub number_needed : PurgingFails (only_user 7) 50 other_post₁ other_post₂ (true, true, false, true)
unfolding claim_definitions purging_tests
number_needed = (refl, refl, refl, refl, ((λ e f. absurd (no_opening e)), tt), told_apart (answer_byte 2 0) _ _ refl)

-- a 0402, which sets the title of post 50, purged before an opening and a 0504 of 7
abbrev pub read_title : List (List ℕ)
read_title = befriend ++ (target 0x0504 7 1 50 ∷ [])

abbrev pub title₁ : MarkedJournal
title₁ = map retain created ++ (purge (target_string 0x0402 9 3 50 (65 ∷ [])) ∷ map retain read_title)

abbrev pub title₂ : MarkedJournal
title₂ = map retain (created ++ read_title)

pub kind_needed : PurgingFails (only_user 7) 50 title₁ title₂ (true, false, true, true)
unfolding claim_definitions purging_tests
kind_needed = (refl, refl, refl, refl, ((λ e f. refl), tt), told_apart (answer_byte 3 0) _ _ refl)

-- a 0403 of 7, who does not own the post
abbrev pub refused₁ : MarkedJournal
refused₁ = map retain created ++ (purge (target_string 0x0403 7 1 50 (65 ∷ [])) ∷ [])

abbrev pub refused₂ : MarkedJournal
refused₂ = map retain created

pub accepted_needed : PurgingFails (only_user 7) 50 refused₁ refused₂ (false, true, true, true)
unfolding claim_definitions purging_tests
accepted_needed = (refl, refl, refl, refl, ((λ e f. absurd (no_opening e)), tt), told_apart {A = View} length _ _ refl)

-- ---- the bytes that remain

-- a further message of 7 in the first journal, nothing purged
abbrev pub further₁ : MarkedJournal
further₁ = map retain (created ++ (read_text ∷ []))

abbrev pub further₂ : MarkedJournal
further₂ = map retain created

pub bytes_needed : (may_be_purged (only_user 7) 50 further₁ ≡ true) × (may_be_purged (only_user 7) 50 further₂ ≡ true)
    × (remaining_bytes further₁ ≡ remaining_bytes further₂ → ⊥) × WindowsAgree (only_user 7) 50 further₁ further₂
    × (SameObserved (only_user 7) 50 further₁ further₂ → ⊥)
unfolding claim_definitions
bytes_needed = (refl, refl, told_apart {A = List ℕ} length _ _ refl, ((λ e f. absurd (no_opening e)), tt), told_apart {A = View} length _ _ refl)

-- ---- the bytes behind the frames

-- a lone byte, which is no frame
abbrev pub longer_rest : MarkedJournal
longer_rest = map retain (created ++ ((5 ∷ []) ∷ []))

pub rest_compared : (remaining (marked_events longer_rest) ≡ remaining (marked_events (map retain created)))
    × (JournalsDiffer (only_user 7) 50 longer_rest (map retain created) → ⊥)
unfolding claim_definitions
rest_compared = (refl, (λ differ. told_apart {A = List ℕ} length _ _ refl differ.same_bytes))

-- ---- marks and senders

pub unmarked_remain : remaining (mark [] (trace_of (map retain created)).events) ≡ created
unfolding claim_definitions
unmarked_remain = refl

-- messages of an unknown kind: 7 in four bytes, 7 in three bytes, and 8 with more behind it
abbrev pub unknown_kinds : MarkedJournal
unknown_kinds = map (λ (body : List ℕ). retain (message 0x0607 (body ∷ []))) ((7 ∷ 0 ∷ 0 ∷ 0 ∷ []) ∷ (7 ∷ 0 ∷ 0 ∷ []) ∷ (8 ∷ 0 ∷ 0 ∷ 0 ∷ 7 ∷ []) ∷ [])

pub observed_senders : observed (only_user 7) (trace_of unknown_kinds).events ≡ (message 0x0607 ((7 ∷ 0 ∷ 0 ∷ 0 ∷ []) ∷ []), 2 ∷ 0 ∷ 4 ∷ 0 ∷ []) ∷ []
unfolding claim_definitions
observed_senders = refl

-- ---- closed and open

-- the history of a journal
unfoldable pub history_after : List (List ℕ) → History
history_after ms = history_of (run_trace is_accepted step_state empty_state (flatten ms))

-- the owner and friends
pub closed-by-owner :
    -- a post that is not made is closed, to its later owner too
    (closed_to (only_user 7) 50 (history_after staffed) ≡ true) × (closed_to (only_user 9) 50 (history_after staffed) ≡ true)
    -- then it is open to its owner, and closed to others, also to the admin and to the owner of another post
    × (closed_to (only_user 9) 50 (history_after created) ≡ false) × (closed_to (only_user 7) 50 (history_after created) ≡ true)
    × (closed_to (only_user 7) 50 (history_after (created ++ (target_string 0x0203 7 1 51 [] ∷ []))) ≡ true)
    -- a request opens nothing, a friendship with the owner does, to the friend alone, and its end closes
    × (closed_to (only_user 7) 50 (history_after (created ++ (target_string 0x0204 7 1 9 [] ∷ []))) ≡ true)
    × (closed_to (only_user 7) 50 (history_after (created ++ befriend)) ≡ false)
    × (closed_to (only_user 8) 50 (history_after (created ++ register8 ++ befriend)) ≡ true)
    × (closed_to (only_user 7) 50 (history_after (created ++ befriend ++ (end_friendship ∷ []))) ≡ true)
    -- .. where the owner requests and the other accepts, or the owner ends it, too
    × (closed_to (only_user 7) 50 (history_after (created ++ (target_string 0x0204 9 3 7 [] ∷ target 0x0205 7 1 9 ∷ []))) ≡ false)
    × (closed_to (only_user 7) 50 (history_after (created ++ befriend ++ (target 0x0301 9 3 7 ∷ []))) ≡ true)
    -- a friendship with somebody else opens nothing
    × (closed_to (only_user 7) 50 (history_after (created ++ register8 ++ (target_string 0x0204 7 1 8 [] ∷ target 0x0205 8 2 7 ∷ []))) ≡ true)
unfolding claim_definitions history_after history_of
closed-by-owner = (refl, refl, refl, refl, refl, refl, refl, refl, refl, refl, refl, refl)

pub closed-by-visibility :
    -- a public post is open to a set with a registered member, and closed to a set without one
    (closed_to (only_user 7) 50 (history_after published) ≡ false) × (closed_to (only_user 8) 50 (history_after published) ≡ true)
    × (closed_to (λ u. only_user 7 u || only_user 8 u) 50 (history_after published) ≡ false)
    -- the last 0405 counts, and a refused one does not
    × (closed_to (only_user 7) 50 (history_after (published ++ (visibility_update 9 3 50 0 ∷ []))) ≡ true)
    × (closed_to (only_user 7) 50 (history_after (created ++ (visibility_update 7 1 50 1 ∷ []))) ≡ true)
unfolding claim_definitions history_after history_of
closed-by-visibility = (refl, refl, refl, refl, refl)

-- ---- windows

-- the 0202 of 8 is an opening of a public post to {8}, as the last message
pub registration-opens : (closed_to (only_user 8) 50 (history_after (published ++ (registration_request 8 [] ∷ []))) ≡ true)
    × (closed_to (only_user 8) 50 (history_after (published ++ register8)) ≡ false)
    × (openings_of (only_user 8) 50 (map retain (published ++ register8)) ≡ true ∷ [])
unfolding claim_definitions history_after history_of
registration-opens = (refl, refl, refl)

-- 65 until 7 and 9 become friends; 66 in between; 67 and 68 after the friendship until the post is public; then it is not
abbrev pub three_windows : MarkedJournal
three_windows =
    map retain
    (created ++ (set_text 65 ∷ befriend) ++ (set_text 66 ∷ end_friendship ∷ set_text 67 ∷ set_text 68 ∷ make_public
    ∷ visibility_update 9 3 50 0 ∷ []))

pub window-values : (openings_of (only_user 7) 50 three_windows ≡ true ∷ true ∷ false ∷ [])
    × (map (λ (w : Window). map (λ (e : Event). text_field (message_content e.frame)) w.updates) (windows_of (only_user 7) 50 three_windows)
    ≡ ((65 ∷ []) ∷ []) ∷ ((67 ∷ []) ∷ (68 ∷ []) ∷ []) ∷ [] ∷ [])
    × (last_texts (only_user 7) 50 three_windows ≡ some (65 ∷ []) ∷ some (68 ∷ []) ∷ none ∷ [])
unfolding claim_definitions
window-values = (refl, refl, refl)

-- ---- room

-- the journal of one message
abbrev starting : List ℕ
starting = login 0x0101 7 1

stops_without_room : replay_of starting empty_board [] ≡ stopped 2 empty_board []
unfolding replay_of replay_in claim_definitions
stops_without_room = rw empty-sound

-- the same journal twice, nothing purged, once without room and once with room to the end
pub room_needed : (o : List ℕ) → ((replay_of starting empty_board o).stop ≡ 2 → ⊥)
    → ToldApart (only_user 7) 50 [] [] (replay_trace starting (replay_of starting empty_board [])) (replay_trace starting (replay_of starting empty_board o))
room_needed o room = rw (stops_without_room, replay_trace_lem starting o room) stopped_told_apart
  where
    stopped_told_apart : ToldApart (only_user 7) 50 [] [] (replay_trace starting (stopped 2 empty_board []))
        (run_trace is_accepted step_state empty_state starting)
    stopped_told_apart =
        unfold claim_definitions replay_trace zip_with answers_in stopped in
        (record { purged₁ = refl; purged₂ = refl; same_bytes = refl }, ((λ e f. absurd (no_opening e)), tt), told_apart {A = View} length _ _ refl)

-- ---- the empty board

-- messages after which post 50 is open to 7, and the state that they lead to
abbrev pub earlier : List ℕ
earlier = flatten (created ++ befriend)

abbrev pub open_state : State
open_state = last_state empty_state (run_of step_state empty_state earlier)

abbrev pub later₁ : MarkedJournal
later₁ = purged_text [] read_text

abbrev pub later₂ : MarkedJournal
later₂ = no_text [] read_text

-- begun there, no message makes the post: it counts as closed where 65 is purged, and 7 reads
pub open_told_apart : RunsToldApart is_accepted step_state open_state (only_user 7) later₁ later₂
unfolding claim_definitions last_state
open_told_apart =
    (record { purged₁ = refl; purged₂ = refl; same_bytes = refl }, ((λ e f. absurd (no_opening e)), tt), told_apart (answer_byte 0 0) _ _ refl)

pub empty-board_needed : Confidential is_accepted step_state open_state → ⊥
empty-board_needed = refuted is_accepted step_state open_state (only_user 7) later₁ later₂ open_told_apart

-- the board that a replay of the earlier messages leaves
left-board : (o : List ℕ) → ((replay_of earlier empty_board o).stop ≡ 2 → ⊥) → (replay_of earlier empty_board o).board ≡ encode open_state
left-board o =
    subst (λ (b : List ℕ). ((replay_of earlier b o).stop ≡ 2 → ⊥) → (replay_of earlier b o).board ≡ encode open_state) empty-encoded
    (λ room. ap (λ (r : ReplayResult). r.board) (replay_complete earlier empty_state o empty-valid room))

-- replays on it, in any buffers with room
pub left-board_told_apart : (o o₁ o₂ : List ℕ) → ((replay_of earlier empty_board o).stop ≡ 2 → ⊥)
    → let b : List ℕ = (replay_of earlier empty_board o).board in
    ((replay_of (bytes_of later₁) b o₁).stop ≡ 2 → ⊥) → ((replay_of (bytes_of later₂) b o₂).stop ≡ 2 → ⊥)
    → ToldApart (only_user 7) 50 (marks_of later₁) (marks_of later₂)
    (replay_trace (bytes_of later₁) (replay_of (bytes_of later₁) b o₁)) (replay_trace (bytes_of later₂) (replay_of (bytes_of later₂) b o₂))
left-board_told_apart o o₁ o₂ room =
    rw (left-board o room) (λ room₁ room₂.
    rw (
      valid_trace (bytes_of later₁) open_state o₁ (reached_valid earlier) room₁,
      valid_trace (bytes_of later₂) open_state o₂ (reached_valid earlier) room₂,
    )
    open_told_apart)
