-- What the board that a replay leaves and the messages that it did say of each other:
--     journal_closed          a post is closed to a set if and only if no registered member of the set may read it
--     unmade_closed           a post that is not made is closed to every set
--     friendship_accountable, visibility_accountable   a friendship and a public post can be traced back to the messages
use Prim.Native.Nat.{ℕ}
use mathlib.Core.Path.{◌≡◌, refl, sym, ap, ◌∙◌, subst}
use mathlib.Core.List.{List, [], ◌∷◌, foldl}
use mathlib.Core.Bool.{Bool, true, false, cond, ◌&&◌}
use mathlib.Core.Option.{some, none, some-ne-none}
use lib.ListN.{take}
use lib.Dec.{eqb}
use Rattle.model.specs.State.{State, empty_state}
use Rattle.model.specs.Board.{encode, decode, empty_board}
use Rattle.model.specs.Lookups.{is_post, post_numbered, owner_of}
use Rattle.model.specs.Step.{step_state}
use Rattle.model.specs.Replay.{frames_of, run_frames, ReplayResult, replay_of}
use Rattle.model.proofs.BoardTheorems.{decode-encode}
use Rattle.model.proofs.EmptyBoard.{empty-encoded}
use Rattle.model.proofs.JournalLaws.{last_state}
use Rattle.confidentiality.specs.Traces.{Event, is_accepted, replay_trace}
use Rattle.confidentiality.specs.History.{History, after_event, owner, closed_to}
use Rattle.confidentiality.specs.Accountability.{history_of, FriendshipAccountable, VisibilityAccountable}
use Rattle.confidentiality.proofs.HistoryLaws.{no_owner_closed}
use Rattle.confidentiality.proofs.PostHistory.{owner_number}
use Rattle.confidentiality.proofs.ClosedTheorems.{unreadable, closed_unreadable}
use Rattle.confidentiality.proofs.Alignment.{next_history, events_from}
use Rattle.confidentiality.proofs.FriendHistory.{FriendsTraced, friends-traced-empty, friends-traced-next}
use Rattle.confidentiality.proofs.VisibilityAccountability.{PostsTraced, posts-traced-empty, posts-traced-next, public_post-traced}
use Rattle.confidentiality.proofs.TextUnwinding.{HistoryInvariant, invariant-empty, invariant-next}
use Rattle.confidentiality.proofs.ReplayTraces.{trace_events, board-done}

-- a state with the history that leads to it
pub record Traced (h : History) (s : State) : Type 0 where
  pub invariant : HistoryInvariant h s
  pub friends : FriendsTraced h
  pub posts : PostsTraced h s

traced-next : (m : List ℕ) (h : History) (s : State) → Traced h s → Traced (next_history is_accepted step_state m h s) (step_state m s).state
traced-next m h s t = record {
  invariant = invariant-next m h s t.invariant;
  friends = friends-traced-next m h s t.invariant.valid t.invariant.friends t.friends;
  posts = posts-traced-next m h s t.invariant.valid t.posts;
}

frames-traced : (ms : List (List ℕ)) (h : History) (s : State) → Traced h s
    → Traced (foldl after_event h (events_from is_accepted step_state s ms)) (last_state s (run_frames step_state s ms))
unfolding run_frames last_state
frames-traced [] h s t = t
frames-traced (m ∷ ms) h s t = frames-traced ms (next_history is_accepted step_state m h s) (step_state m s).state (traced-next m h s t)

-- the board that a replay leaves, with the history of its messages
replay_traced : (s : State) → Traced [] s → (j o : List ℕ) → let r : ReplayResult = replay_of j (encode s) o in
    Traced (history_of (replay_trace j r)) (decode r.board)
unfolding history_of
replay_traced s t j o =
    let valid = t.invariant.valid in
    let r : ReplayResult = replay_of j (encode s) o in
    let done : List (List ℕ) = take r.messages (frames_of j) in
    let last : State = last_state s (run_frames step_state s done) in
    let traced : Traced (foldl after_event [] (events_from is_accepted step_state s done)) last = frames-traced done [] s t in
    let state : decode r.board ≡ last = ap decode (board-done j s o valid) ∙ decode-encode last traced.invariant.valid.fits in
    subst (Traced (history_of (replay_trace j r))) (sym state)
    (subst (λ (es : List Event). Traced (foldl after_event [] es) last) (sym (trace_events j s o valid)) traced)

pub journal_traced : (j o : List ℕ) → let r : ReplayResult = replay_of j empty_board o in Traced (history_of (replay_trace j r)) (decode r.board)
journal_traced j o =
    subst (λ (b : List ℕ). let r : ReplayResult = replay_of j b o in Traced (history_of (replay_trace j r)) (decode r.board)) empty-encoded
    (replay_traced empty_state (record { invariant = invariant-empty; friends = friends-traced-empty; posts = posts-traced-empty }) j o)

-- ---- closed

module _ (observers : ℕ → Bool) (n : ℕ) (j o : List ℕ) where
  pub journal_closed : let r : ReplayResult = replay_of j empty_board o in
      closed_to observers n (history_of (replay_trace j r)) ≡ unreadable observers n (decode r.board)
  journal_closed =
      let r : ReplayResult = replay_of j empty_board o in
      let t = (journal_traced j o).invariant in
      closed_unreadable observers n (history_of (replay_trace j r)) (decode r.board) t.valid t.posts t.friends

  -- "A post not made yet has no owner and is not public, so it is shut to every set."
  pub unmade_closed : let h : History = history_of (replay_trace j (replay_of j empty_board o)) in owner n h ≡ none → closed_to observers n h ≡ true
  unfolding owner_number
  unmade_closed e =
      let r : ReplayResult = replay_of j empty_board o in
      let h : History = history_of (replay_trace j r) in
      let s : State = decode r.board in
      let posts = (journal_traced j o).invariant.posts in
      no_owner_closed observers n h e
      (posts.public_same n
      ∙ by_post (is_post s n) (owner_of s (post_numbered s n)).number (eqb (post_numbered s n).visibility 1) (sym (posts.owner-same n) ∙ e))
    where
      by_post : (t : Bool) (u : ℕ) (v : Bool) → cond t (some u) none ≡ none → (t && v) ≡ false
      by_post true u v q = absurd (some-ne-none u q)
      by_post false u v q = refl

-- ---- accountability

pub friendship_accountable : FriendshipAccountable
unfolding FriendshipAccountable
friendship_accountable j o a b e =
    let t = journal_traced j o in t.friends.friendship_traced a b (t.invariant.friends.friends-same a b ∙ e)

pub visibility_accountable : VisibilityAccountable
unfolding VisibilityAccountable
visibility_accountable j o n p v =
    let r : ReplayResult = replay_of j empty_board o in
    public_post-traced (history_of (replay_trace j r)) (decode r.board) (journal_traced j o).posts n p v
