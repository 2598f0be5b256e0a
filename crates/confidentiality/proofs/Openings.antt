-- Pairs of journals that meet all hypotheses of the claim, with updates purged, openings and texts that are read.
-- Of any such pair, by the theorem:
--     same-observed       the set observes the same of both runs
--     replays_observed    .. and of both replays, in any buffers with room
-- With one opening, for the set {7}:
--     opened_differ, opened_agree   the hypotheses hold
--     opened_windows                the opening in each, its kind, and the last text before it
--     opened_observed               what the set observes of the runs
--     opened_replayed               .. and of the replays
-- With openings by 0203, 0205 and 0405 for the set {7}, and by 0202 for the set {8}:
--     ways_refused                  which messages are refused, and the bytes behind the frames
--     ways_differ, ways_agree       the hypotheses hold
--     ways_windows                  the openings in each, their kinds, and the last texts before them
--     ways_observed_7, ways_observed_8   what each set observes of the run of the second journal
--     ways_same                     .. and of that of the first
--     ways_replayed                 .. and of the replays
use Prim.Native.Nat.{ℕ, ◌+◌, ◌*◌, ◌≤◌}
use mathlib.Core.Path.{◌≡◌, refl, sym, ap, ◌∙◌}
use mathlib.Core.List.{List, [], ◌∷◌, ◌++◌, map, flatten}
use mathlib.Core.Bool.{Bool, true, cond}
use mathlib.Core.Option.{Option, some, none}
use lib.ListN.{length, get_or}
use Rattle.reader.specs.Messages.{Content}
use Rattle.model.specs.Board.{empty_board}
use Rattle.model.specs.Step.{answer_limit}
use Rattle.model.specs.Replay.{frames_of, replay_of}
use Rattle.model.proofs.CaseTable.{message, login, target_string, registration_request, registration}
use Rattle.confidentiality.specs.Traces.{Event, Trace, replay_trace}
use Rattle.confidentiality.specs.Windows.{Window, AgreeAtOpenings}
use Rattle.confidentiality.specs.Confidentiality.{last_text, SameLastText, observed, Noninterference, Confidential}
use Rattle.confidentiality.proofs.Definitions.{claim_definitions}
use Rattle.confidentiality.proofs.ReplayTraces.{replay_trace_lem}
use Rattle.confidentiality.proofs.ConfidentialityTheorems.{confidential, empty-room}
use Rattle.confidentiality.proofs.Witnesses.{MarkedJournal, View, retain, purge, bytes_of, marks_of, only_user, staffed, make_post, make_public, set_text, befriend, end_friendship, read_text, register8, read_by8, refused_update, trace_of, remaining_bytes, windows_of, JournalsDiffer, WindowsAgree, SameObserved, opened₁, opened₂}

-- ---- any pair

-- the events of a replay from the empty board
abbrev pub replayed_events : MarkedJournal → List ℕ → List Event
replayed_events j o = (replay_trace (bytes_of j) (replay_of (bytes_of j) empty_board o)).events

-- 518 bytes for each message and 518 more
abbrev pub HasRoom : MarkedJournal → List ℕ → Type 0
HasRoom j o = answer_limit * (1 + length (frames_of (bytes_of j))) ≤ length o

-- a set observes the same of a replay and of the run
replay_observed : (observers : ℕ → Bool) (j : MarkedJournal) (o : List ℕ) → HasRoom j o
    → observed observers (replayed_events j o) ≡ observed observers (trace_of j).events
replay_observed observers j o room =
    ap (λ (t : Trace). observed observers t.events) (replay_trace_lem (bytes_of j) o (empty-room (bytes_of j) o room))

module _ (observers : ℕ → Bool) (j₁ j₂ : MarkedJournal) where
  -- the set observes this of both replays, in any buffers with room
  abbrev pub ReplaysShow : View → Type 0
  ReplaysShow view =
      (o₁ o₂ : List ℕ) → HasRoom j₁ o₁ → HasRoom j₂ o₂
      → (observed observers (replayed_events j₁ o₁) ≡ view) × (observed observers (replayed_events j₂ o₂) ≡ view)

  -- the hypotheses for post 50 hold
  module _ (differ : JournalsDiffer observers 50 j₁ j₂) (agree : WindowsAgree observers 50 j₁ j₂) where
    pub same-observed : SameObserved observers 50 j₁ j₂
    unfolding Confidential Noninterference
    same-observed = confidential observers 50 (bytes_of j₁) (bytes_of j₂) (marks_of j₁) (marks_of j₂) differ agree

    -- what it observes of the run of the second journal
    pub replays_observed : (view : View) → observed observers (trace_of j₂).events ≡ view → ReplaysShow view
    replays_observed view seen o₁ o₂ room₁ room₂ =
        (replay_observed observers j₁ o₁ room₁ ∙ same-observed ∙ seen, replay_observed observers j₂ o₂ room₂ ∙ seen)

-- answers: accepted without a body, a refusal, and a text of one byte
abbrev pub done : List ℕ
done = 2 ∷ 0 ∷ 0 ∷ 0 ∷ []

abbrev pub refusal : ℕ → List ℕ
refusal number = 2 ∷ 0 ∷ number ∷ 0 ∷ []

abbrev pub one_byte : ℕ → List ℕ
one_byte x = 5 ∷ 0 ∷ 0 ∷ 0 ∷ 1 ∷ 0 ∷ x ∷ []

-- of a window: whether an opening follows, the text of the last update, and the kind of the latest accepted message, which is the opening
abbrev pub WindowSummary : Type 0
WindowSummary = Bool × Option (List ℕ) × ℕ

abbrev pub summary : Window → WindowSummary
summary w = (w.opens, last_text w.updates, get_or (map (λ (m : Content). m.code) w.history) 0 0)

abbrev pub summaries_of : (ℕ → Bool) → MarkedJournal → List WindowSummary
summaries_of observers j = map summary (windows_of observers 50 j)

-- windows with the same summaries agree
same_summaries : (vs ws : List Window) → map summary vs ≡ map summary ws → AgreeAtOpenings SameLastText vs ws
same_summaries [] ws e = tt
same_summaries (v ∷ vs) [] e = tt
same_summaries (v ∷ vs) (w ∷ ws) e =
    let first : summary v ≡ summary w = cc in
    ((λ p q. ap (λ (x : WindowSummary). x.1) first), same_summaries vs ws (cc))

summaries_agree : (observers : ℕ → Bool) (j₁ j₂ : MarkedJournal) (xs : List WindowSummary)
    → summaries_of observers j₁ ≡ xs → summaries_of observers j₂ ≡ xs → WindowsAgree observers 50 j₁ j₂
summaries_agree observers j₁ j₂ xs e₁ e₂ = same_summaries (windows_of observers 50 j₁) (windows_of observers 50 j₂) (e₁ ∙ sym e₂)

-- ---- one opening

pub opened_differ : JournalsDiffer (only_user 7) 50 opened₁ opened₂
unfolding claim_definitions
opened_differ = record { purged₁ = refl; purged₂ = refl; same_bytes = refl }

pub opened_windows : (summaries_of (only_user 7) opened₁ ≡ (true, some (68 ∷ []), 0x0205) ∷ [])
    × (summaries_of (only_user 7) opened₂ ≡ (true, some (68 ∷ []), 0x0205) ∷ [])
unfolding claim_definitions
opened_windows = (refl, refl)

pub opened_agree : WindowsAgree (only_user 7) 50 opened₁ opened₂
opened_agree = summaries_agree (only_user 7) opened₁ opened₂ _ opened_windows.0 opened_windows.1

-- the admin starts, registers 9, requests 9 and reads the text
abbrev pub opened_view : View
opened_view =
    (login 0x0101 7 1, done) ∷ (registration 7 1 9 3, done) ∷ (target_string 0x0204 7 1 9 [], done) ∷ (read_text, one_byte 68) ∷ []

pub opened_observed : observed (only_user 7) (trace_of opened₂).events ≡ opened_view
unfolding claim_definitions
opened_observed = refl

pub opened_replayed : ReplaysShow (only_user 7) opened₁ opened₂ opened_view
opened_replayed = replays_observed (only_user 7) opened₁ opened₂ opened_differ opened_agree opened_view opened_observed

-- ---- the four ways of opening

-- a message of 7
abbrev pub unknown_kind : List ℕ
unknown_kind = message 0x0607 ((7 ∷ 0 ∷ 0 ∷ 0 ∷ []) ∷ [])

-- a wrong password, a 0505 of 7 while the post is closed, one of 8 who is not registered, an unknown kind
abbrev pub refused_messages : List (List ℕ)
refused_messages = refused_update ∷ read_text ∷ read_by8 ∷ unknown_kind ∷ []

-- 7 and 9 are friends when 9 makes the post. After their friendship it gets the text 68, before they are friends again. After that friendship
-- it gets the text 71, before it is public and 8 is registered. The text is read after each opening, and behind it all stands a lone byte, which
-- is no frame. Further updates come before 68 and before 71.
abbrev pub four_ways : MarkedJournal → MarkedJournal → MarkedJournal
four_ways before68 before71 =
    map retain (staffed ++ befriend ++ (make_post ∷ read_text ∷ end_friendship ∷ []))
    ++ before68 ++ map retain ((set_text 68 ∷ refused_messages) ++ befriend ++ (read_text ∷ end_friendship ∷ []))
    ++ before71 ++ map retain ((set_text 71 ∷ make_public ∷ read_text ∷ register8) ++ (read_by8 ∷ (5 ∷ []) ∷ []))

-- purged are 65 before 68 and 70 before 71, or 66 and 67 before 68
abbrev pub ways₁ : MarkedJournal
ways₁ = four_ways (purge (set_text 65) ∷ []) (purge (set_text 70) ∷ [])

abbrev pub ways₂ : MarkedJournal
ways₂ = four_ways (purge (set_text 66) ∷ purge (set_text 67) ∷ []) []

abbrev pub refused_frames : MarkedJournal → List (List ℕ)
refused_frames j = flatten (map (λ (e : Event). cond e.accepted [] (e.frame ∷ [])) (trace_of j).events)

pub ways_refused : (refused_frames ways₁ ≡ refused_messages) × (refused_frames ways₂ ≡ refused_messages)
    × ((trace_of ways₁).rest ≡ 5 ∷ []) × ((trace_of ways₂).rest ≡ 5 ∷ [])
unfolding claim_definitions
ways_refused = (refl, refl, refl, refl)

-- the same bytes remain, whatever the set
ways_bytes : remaining_bytes ways₁ ≡ remaining_bytes ways₂
unfolding claim_definitions
ways_bytes = refl

pub ways_differ : JournalsDiffer (only_user 7) 50 ways₁ ways₂ × JournalsDiffer (only_user 8) 50 ways₁ ways₂
unfolding claim_definitions
ways_differ =
    (record { purged₁ = refl; purged₂ = refl; same_bytes = ways_bytes }, record { purged₁ = refl; purged₂ = refl; same_bytes = ways_bytes })

-- 7 has three openings, and no update before the first; 8 has one, and all updates before it
abbrev pub windows7 : List WindowSummary
windows7 = (true, none, 0x0203) ∷ (true, some (68 ∷ []), 0x0205) ∷ (true, some (71 ∷ []), 0x0405) ∷ []

abbrev pub windows8 : List WindowSummary
windows8 = (true, some (71 ∷ []), 0x0202) ∷ []

pub ways_windows : (summaries_of (only_user 7) ways₁ ≡ windows7) × (summaries_of (only_user 7) ways₂ ≡ windows7)
    × (summaries_of (only_user 8) ways₁ ≡ windows8) × (summaries_of (only_user 8) ways₂ ≡ windows8)
unfolding claim_definitions
ways_windows = (refl, refl, refl, refl)

pub ways_agree : WindowsAgree (only_user 7) 50 ways₁ ways₂ × WindowsAgree (only_user 8) 50 ways₁ ways₂
ways_agree = (
  summaries_agree (only_user 7) ways₁ ways₂ windows7 ways_windows.0 ways_windows.1,
  summaries_agree (only_user 8) ways₁ ways₂ windows8 ways_windows.2 ways_windows.3,
)

-- 7 starts, registers 9, requests 9 and reads the empty text; ends the friendship and is refused; requests 9 again and reads 68; ends the
-- friendship again, reads 71 of the public post, and registers 8
abbrev pub view7 : View
view7 =
    (login 0x0101 7 1, done) ∷ (registration 7 1 9 3, done) ∷ (target_string 0x0204 7 1 9 [], done) ∷ (read_text, 4 ∷ 0 ∷ 0 ∷ 0 ∷ 0 ∷ 0 ∷ [])
    ∷ (end_friendship, done) ∷ (read_text, refusal 10) ∷ (unknown_kind, refusal 4) ∷ (target_string 0x0204 7 1 9 [], done) ∷ (read_text, one_byte 68)
    ∷ (end_friendship, done) ∷ (read_text, one_byte 71) ∷ (registration 7 1 8 2, done) ∷ []

pub ways_observed_7 : observed (only_user 7) (trace_of ways₂).events ≡ view7
unfolding claim_definitions
ways_observed_7 = refl

-- 8 is refused, asks to be registered, and reads 71
abbrev pub view8 : View
view8 = (read_by8, refusal 7) ∷ (registration_request 8 [], done) ∷ (read_by8, one_byte 71) ∷ []

pub ways_observed_8 : observed (only_user 8) (trace_of ways₂).events ≡ view8
unfolding claim_definitions
ways_observed_8 = refl

pub ways_same : SameObserved (only_user 7) 50 ways₁ ways₂ × SameObserved (only_user 8) 50 ways₁ ways₂
ways_same =
    (same-observed (only_user 7) ways₁ ways₂ ways_differ.0 ways_agree.0, same-observed (only_user 8) ways₁ ways₂ ways_differ.1 ways_agree.1)

pub ways_replayed : ReplaysShow (only_user 7) ways₁ ways₂ view7 × ReplaysShow (only_user 8) ways₁ ways₂ view8
ways_replayed = (
  replays_observed (only_user 7) ways₁ ways₂ ways_differ.0 ways_agree.0 view7 ways_observed_7,
  replays_observed (only_user 8) ways₁ ways₂ ways_differ.1 ways_agree.1 view8 ways_observed_8,
)
