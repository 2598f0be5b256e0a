-- Theorems about the replay. From the board of a valid state it does the messages of the run one by one, while the buffer has room:
--     replay_prefix      what it did and left, wherever it stopped; `result_after` says it of a list of exchanges
--     replay_stops       it stops with 0, 2 or 3
--     replay_complete    the same in one equation, where it did not stop with 2
--     room_enough        with 518 bytes for each message and 518 more it does not stop with 2
--     replay_sound       the board that it leaves is sound
--     replay_resumed, resumed-complete   a second replay of the rest does the remaining messages, and both together show the whole run
--     steps_decide       no step in it returns 1, 2 or 3
--     sound_prefix, sound-complete, replayed-sound   the same from any sound board
--     replayed-valid     the state of the board that it leaves is valid
--     messages-counted   the message count is the number of frames passed
-- On any board, sound or not:
--     unsound_replay     a board that is not sound: 1, and nothing is changed
--     counts-within      the counts are at most the lengths of the journal and of the buffer
--     replay_repeatable, more_room       what can be observed of it does not depend on the bytes in the buffer, nor on room beyond what it needs
use Prim.Native.Nat.{ℕ, zero, suc, ◌+◌, ◌*◌, ◌-◌, ◌≤◌, ◌<◌}
use native.Mathlib.Omega.{arith}
use mathlib.Core.Path.{◌≡◌, refl, sym, ap, ap₂, ◌∙◌, subst}
use mathlib.Core.Logic.{◌⊎◌, inl, inr}
use mathlib.Core.List.{List, [], ◌∷◌, ◌++◌, map, flatten, map-append}
use mathlib.Core.Bool.{Bool, true, false, ◌||◌, cond}
use lib.ListN.{length, take, drop, get_or, length-append, length-drop, take-append-drop}
use lib.Seq.{length-take-le, take_all, take-append-add}
use lib.Dec.{eqb, ltb}
use lib.Pow.{are_bytes}
use borrow.Author.Tests.{eqb-true, eqb-false, eq-eqb, ne_eqb, ltb-true, ltb-false, lt-ltb, le-ltb}
use borrow.Table.Steps.{cases}
use Rattle.layout.specs.Bytes.{patch}
use Rattle.layout.proofs.ByteLaws.{patch_nil}
use Rattle.layout.proofs.ConcatenationLaws.{flatten_append}
use Rattle.reader.specs.Frames.{frame_length, is_frame}
use Rattle.reader.proofs.FrameLaws.{frame-inside}
use Rattle.model.specs.State.{State}
use Rattle.model.specs.Board.{encode, decode}
use Rattle.model.specs.Soundness.{is_sound}
use Rattle.model.specs.Step.{answer_limit, Response, step_state, StepResult, write_answer, step_of}
use Rattle.model.specs.Replay.{frames_of, unread, Exchange, run_frames, run_of, ReplayResult, stopped, continued, replay_in, replay_of}
use Rattle.model.proofs.ListLaws.{all_at}
use Rattle.model.proofs.BoardTheorems.{decode-encode}
use Rattle.model.proofs.SoundnessTheorems.{sound-state}
use Rattle.model.proofs.RuleLaws.{ValidState}
use Rattle.model.proofs.RefusalTheorems.{frame_number}
use Rattle.model.proofs.Invariant.{step_valid}
use Rattle.model.proofs.AnswerLaws.{answer-short}
use Rattle.model.proofs.StepTheorems.{unsound_refused, arguments_accepted, step_valid-board, sound-valid, valid-board}
use Rattle.model.proofs.BufferLaws.{take-start, drop-start, patch-behind}
use Rattle.model.proofs.JournalLaws.{after_first, frames_none, frames-size, frames_first, frames-before, length-frames, shorter-rest, unread_none, unread-more, behind_frames, frames-behind, unread-behind, all_frames, exchange_frames, exchange_answers, last_state, last_append, length_run, frames-run, frames-met, run_take, run_drop, run-keeps, answers-within, run_none, run_more}

-- ---- one place of a replay

-- the four cases, in the order of the tests
data ReplayCase (j o : List ℕ) : Type 0 where
  journal_used : length j ≡ 0 → ReplayCase j o
  buffer_short : (length j ≡ 0 → ⊥) → length o < answer_limit → ReplayCase j o
  frame_cut : (length j ≡ 0 → ⊥) → answer_limit ≤ length o → frame_length j ≡ 0 → ReplayCase j o
  frame_next : answer_limit ≤ length o → (frame_length j ≡ 0 → ⊥) → ReplayCase j o

replay_case : (j o : List ℕ) → ReplayCase j o
replay_case j o =
    cases (eqb (length j) 0) (λ e. journal_used (eqb-true (length j) 0 e))
    (λ e. cases (ltb (length o) answer_limit)
    (λ f. buffer_short (eqb-false (length j) 0 e) (ltb-true (length o) answer_limit f))
    (λ f. cases (eqb (frame_length j) 0)
    (λ g. frame_cut (eqb-false (length j) 0 e) (ltb-false (length o) answer_limit f) (eqb-true (frame_length j) 0 g))
    (λ g. frame_next (ltb-false (length o) answer_limit f) (eqb-false (frame_length j) 0 g))))

-- what a step with an answer leaves, and a replay whose first message had the answer a
abbrev wrote : ℕ → List ℕ → List ℕ → List ℕ → StepResult
wrote number a board o = record { number = number; written = length a; board = board; buffer = patch o 0 a }

abbrev answered : ℕ → List ℕ → ReplayResult → ReplayResult
answered size a rest = record {
  stop = rest.stop;
  messages = 1 + rest.messages;
  passed = size + rest.passed;
  written = length a + rest.written;
  board = rest.board;
  buffer = a ++ rest.buffer;
}

module _ (j b o : List ℕ) where
  replay_none : replay_in 0 j b o ≡ stopped 0 b o
  unfolding replay_in
  replay_none = refl

  replay_used : (count : ℕ) → length j ≡ 0 → replay_in count j b o ≡ stopped 0 b o
  unfolding replay_in
  replay_used zero e = refl
  replay_used (suc count) e = rw (eq-eqb (length j) 0 e) refl

  replay_short : (count : ℕ) → (length j ≡ 0 → ⊥) → length o < answer_limit → replay_in (suc count) j b o ≡ stopped 2 b o
  unfolding replay_in
  replay_short count n h = rw (ne_eqb (length j) 0 n) (rw (lt-ltb (length o) answer_limit h) refl)

  replay_cut : (count : ℕ) → (length j ≡ 0 → ⊥) → answer_limit ≤ length o → frame_length j ≡ 0 → replay_in (suc count) j b o ≡ stopped 3 b o
  unfolding replay_in
  replay_cut count n h e = rw (ne_eqb (length j) 0 n) (rw (le-ltb (length o) answer_limit h) (rw (eq-eqb (frame_length j) 0 e) refl))

  -- the step wrote an answer, and the rest of the journal meets the new board and the rest of the buffer
  replay_next : (count number : ℕ) (a b' : List ℕ) → answer_limit ≤ length o → (frame_length j ≡ 0 → ⊥)
      → step_of (take (frame_length j) j) b o ≡ wrote number a b' o
      → replay_in (suc count) j b o ≡ answered (frame_length j) a (replay_in count (after_first j) b' (drop (length a) o))
  unfolding replay_in continued
  replay_next count number a b' h n e =
      let unused : length j ≡ 0 → ⊥ = λ z. let w = frame-inside j in n (omega arith) in
      let next : StepResult → ReplayResult =
      λ r. continued (frame_length j) r (replay_in count (after_first j) r.board (drop r.written r.buffer))
      in
      let runs : replay_in (suc count) j b o ≡ next (step_of (take (frame_length j) j) b o) =
      rw (ne_eqb (length j) 0 unused) (rw (le-ltb (length o) answer_limit h) (rw (ne_eqb (frame_length j) 0 n) refl))
      in
      runs ∙ ap next e
      ∙ ap (λ (rest : List ℕ). continued (frame_length j) (wrote number a b' o) (replay_in count (after_first j) b' rest)) (drop-start o a)
      ∙ (let rest : ReplayResult = replay_in count (after_first j) b' (drop (length a) o) in
      λ i. record {
        stop = rest.stop;
        messages = 1 + rest.messages;
        passed = frame_length j + rest.passed;
        written = length a + rest.written;
        board = rest.board;
        buffer = take-start o a i ++ rest.buffer;
      })

-- ---- what can be seen of a replay

pub record Observation : Type 0 where
  pub stop : ℕ
  pub messages : ℕ
  pub passed : ℕ
  pub written : ℕ
  pub board : List ℕ
  pub answers : List ℕ

abbrev pub observation : ReplayResult → Observation
observation r = record {
  stop = r.stop;
  messages = r.messages;
  passed = r.passed;
  written = r.written;
  board = r.board;
  answers = take r.written r.buffer;
}

observation-answered : (size : ℕ) (a : List ℕ) (r₁ r₂ : ReplayResult) → observation r₁ ≡ observation r₂
    → observation (answered size a r₁) ≡ observation (answered size a r₂)
observation-answered size a r₁ r₂ e = front r₁ ∙ ap behind e ∙ sym (front r₂)
  where
    behind : Observation → Observation
    behind v = record {
      stop = v.stop;
      messages = 1 + v.messages;
      passed = size + v.passed;
      written = length a + v.written;
      board = v.board;
      answers = a ++ v.answers;
    }

    front : (r : ReplayResult) → observation (answered size a r) ≡ behind (observation r)
    front r = λ i. record {
      stop = r.stop;
      messages = 1 + r.messages;
      passed = size + r.passed;
      written = length a + r.written;
      board = r.board;
      answers = take-append-add a r.buffer r.written i;
    }

-- what a step writes does not depend on the buffer, if it has room
record StepWrites (msg b : List ℕ) : Type 0 where
  pub number : ℕ
  pub answer : List ℕ
  pub board : List ℕ
  pub equal : (o : List ℕ) → answer_limit ≤ length o → step_of msg b o ≡ wrote number answer board o

step_writes : (msg b : List ℕ) → StepWrites msg b
unfolding write_answer
step_writes msg b =
    cases (is_sound b)
    (λ e.
    let r : Response State = step_state msg (decode b) in
    record {
      number = r.number;
      answer = r.answer;
      board = cond (eqb r.number 0) (encode r.state) b;
      equal = λ o h. arguments_accepted msg b o e h;
    })
    (λ e. record {
      number = 1;
      answer = [];
      board = b;
      equal = λ o h. unsound_refused msg b o e ∙ (λ i. record { number = 1; written = 0; board = b; buffer = sym (patch_nil o 0) i });
    })

-- two buffers of one length, or the second longer where the replay with the first, which stops with n, had room
Comparable : List ℕ → List ℕ → ℕ → Type 0
Comparable o₁ o₂ n = (length o₁ ≡ length o₂) ⊎ (n ≡ 2 → ⊥)

comparable_rest : (o₁ o₂ : List ℕ) (k n m : ℕ) → n ≡ m → Comparable o₁ o₂ n → Comparable (drop k o₁) (drop k o₂) m
unfolding Comparable
comparable_rest o₁ o₂ k n m q (inl e) = inl (length-drop k o₁ ∙ ap (λ (l : ℕ). l - k) e ∙ sym (length-drop k o₂))
comparable_rest o₁ o₂ k n m q (inr f) = inr (λ z. f (q ∙ z))

observation_in : (count : ℕ) (j b o₁ o₂ : List ℕ) → length o₁ ≤ length o₂ → Comparable o₁ o₂ (replay_in count j b o₁).stop
    → observation (replay_in count j b o₁) ≡ observation (replay_in count j b o₂)
unfolding Comparable stopped
observation_in zero j b o₁ o₂ h c = ap observation (replay_none j b o₁) ∙ sym (ap observation (replay_none j b o₂))
observation_in (suc count) j b o₁ o₂ h c = by_case (replay_case j o₁) c (observation_in count (after_first j))
  where
    both : (n : ℕ) → replay_in (suc count) j b o₁ ≡ stopped n b o₁ → replay_in (suc count) j b o₂ ≡ stopped n b o₂
        → observation (replay_in (suc count) j b o₁) ≡ observation (replay_in (suc count) j b o₂)
    both n e₁ e₂ = ap observation e₁ ∙ sym (ap observation e₂)

    by_case : ReplayCase j o₁ → Comparable o₁ o₂ (replay_in (suc count) j b o₁).stop
        → ((b p q : List ℕ) → length p ≤ length q → Comparable p q (replay_in count (after_first j) b p).stop
        → observation (replay_in count (after_first j) b p) ≡ observation (replay_in count (after_first j) b q))
        → observation (replay_in (suc count) j b o₁) ≡ observation (replay_in (suc count) j b o₂)
    by_case (journal_used e) c rest = both 0 (replay_used j b o₁ (suc count) e) (replay_used j b o₂ (suc count) e)
    by_case (buffer_short n l) (inl e) rest = both 2 (replay_short j b o₁ count n l) (replay_short j b o₂ count n (omega arith))
    by_case (buffer_short n l) (inr f) rest = absurd (f (ap (λ (r : ReplayResult). r.stop) (replay_short j b o₁ count n l)))
    by_case (frame_cut n l e) c rest = both 3 (replay_cut j b o₁ count n l e) (replay_cut j b o₂ count n (omega arith) e)
    by_case (frame_next l n) c rest =
        let w = step_writes (take (frame_length j) j) b in
        let k : ℕ = length w.answer in
        let later : List ℕ → ReplayResult = λ o. replay_in count (after_first j) w.board (drop k o) in
        let next : (o : List ℕ) → answer_limit ≤ length o → replay_in (suc count) j b o ≡ answered (frame_length j) w.answer (later o) =
        λ o g. replay_next j b o count w.number w.answer w.board g n (w.equal o g)
        in
        let l₁ = length-drop k o₁ in
        let l₂ = length-drop k o₂ in
        let c' = comparable_rest o₁ o₂ k (replay_in (suc count) j b o₁).stop (later o₁).stop (ap (λ (r : ReplayResult). r.stop) (next o₁ l)) c in
        ap observation (next o₁ l)
        ∙ observation-answered (frame_length j) w.answer (later o₁) (later o₂) (rest w.board (drop k o₁) (drop k o₂) (omega arith) c')
        ∙ sym (ap observation (next o₂ (omega arith)))

-- ---- "it tests the board first"

module _ (j b o : List ℕ) where
  pub unsound_replay : is_sound b ≡ false → replay_of j b o ≡ stopped 1 b o
  unfolding replay_of
  unsound_replay e = ap (λ (t : Bool). cond t (replay_in (length j) j b o) (stopped 1 b o)) e

  sound_replay : is_sound b ≡ true → replay_of j b o ≡ replay_in (length j) j b o
  unfolding replay_of
  sound_replay e = ap (λ (t : Bool). cond t (replay_in (length j) j b o) (stopped 1 b o)) e

-- for any board, sound or not
observation_of : (j b o₁ o₂ : List ℕ) → length o₁ ≤ length o₂ → Comparable o₁ o₂ (replay_of j b o₁).stop
    → observation (replay_of j b o₁) ≡ observation (replay_of j b o₂)
unfolding stopped
observation_of j b o₁ o₂ h c =
    cases (is_sound b)
    (λ e.
    let e₁ = sound_replay j b o₁ e in
    let e₂ = sound_replay j b o₂ e in
    ap observation e₁
    ∙ observation_in (length j) j b o₁ o₂ h (subst (λ (r : ReplayResult). Comparable o₁ o₂ r.stop) e₁ c)
    ∙ sym (ap observation e₂))
    (λ e. ap observation (unsound_replay j b o₁ e) ∙ sym (ap observation (unsound_replay j b o₂ e)))

-- what a replay shows does not depend on what the buffer held
pub replay_repeatable : (j b o₁ o₂ : List ℕ) → length o₁ ≡ length o₂ → observation (replay_of j b o₁) ≡ observation (replay_of j b o₂)
unfolding Comparable
replay_repeatable j b o₁ o₂ e = observation_of j b o₁ o₂ (omega arith) (inl e)

-- nor on more room than enough
pub more_room : (j b o₁ o₂ : List ℕ) → length o₁ ≤ length o₂ → ((replay_of j b o₁).stop ≡ 2 → ⊥)
    → observation (replay_of j b o₁) ≡ observation (replay_of j b o₂)
unfolding Comparable
more_room j b o₁ o₂ h f = observation_of j b o₁ o₂ h (inr f)

-- ---- the replay and the run

-- what a replay leaves that stops with `why` after the exchanges xs, from the board of s and the buffer o
abbrev pub result_after : ℕ → State → List ℕ → List (Exchange State) → ReplayResult
result_after why s o xs = record {
  stop = why;
  messages = length xs;
  passed = length (flatten (exchange_frames xs));
  written = length (flatten (exchange_answers xs));
  board = encode (last_state s xs);
  buffer = patch o 0 (flatten (exchange_answers xs));
}

result_none : (why : ℕ) (s : State) (o : List ℕ) → stopped why (encode s) o ≡ result_after why s o []
unfolding stopped exchange_frames exchange_answers last_state flatten
result_none why s o = λ i. record {
  stop = why;
  messages = 0;
  passed = 0;
  written = 0;
  board = encode s;
  buffer = sym (patch_nil o 0) i;
}

result-more : (why : ℕ) (s : State) (o : List ℕ) (x : Exchange State) (xs : List (Exchange State))
    → answered (length x.frame) x.response.answer (result_after why x.response.state (drop (length x.response.answer) o) xs)
    ≡ result_after why s o (x ∷ xs)
unfolding exchange_frames exchange_answers last_state flatten
result-more why s o x xs =
    let count : 1 + length xs ≡ suc (length xs) = omega arith in
    λ i. record {
      stop = why;
      messages = count i;
      passed = sym (length-append x.frame (flatten (exchange_frames xs))) i;
      written = sym (length-append x.response.answer (flatten (exchange_answers xs))) i;
      board = encode (last_state x.response.state xs);
      buffer = patch-behind o x.response.answer (flatten (exchange_answers xs)) i;
    }

-- the number with which a replay stops that has done all messages: by what is left, and of a journal
abbrev pub end_number : List ℕ → ℕ
end_number rest = cond (eqb (length rest) 0) 0 3

abbrev pub stop_at_end : List ℕ → ℕ
stop_at_end j = end_number (unread j)

-- why it stopped: with 2 where bytes of the journal but fewer than 518 bytes of the buffer are left; else it did all messages, and
-- the number says whether the journal is used up
pub data StopReason (j o : List ℕ) (xs : List (Exchange State)) (r : ReplayResult) : Type 0 where
  no_room : r.stop ≡ 2 → length o < r.written + answer_limit → r.passed < length j → StopReason j o xs r
  at_end : r.messages ≡ length xs → r.stop ≡ stop_at_end j → StopReason j o xs r

-- the replay did the first messages of the run
pub record ReplayPrefix (j : List ℕ) (s : State) (o : List ℕ) (r : ReplayResult) : Type 0 where
  pub not_more : r.messages ≤ length (run_of step_state s j)
  pub equal : r ≡ result_after r.stop s o (take r.messages (run_of step_state s j))
  pub fits : r.written ≤ length o
  -- 518 bytes were left before each message
  pub room : (k : ℕ) → k < r.messages → length (flatten (exchange_answers (take k (run_of step_state s j)))) + answer_limit ≤ length o
  pub reason : StopReason j o (run_of step_state s j) r

-- the bytes passed are those of the messages done
prefix_passed : {j : List ℕ} {s : State} {r : ReplayResult} {o : List ℕ} → ReplayPrefix j s o r
    → r.passed ≡ length (flatten (take r.messages (frames_of j)))
unfolding run_of
prefix_passed {j} {s} {r} p =
    let k : ℕ = r.messages in
    ap (λ (x : ReplayResult). x.passed) p.equal
    ∙ ap (λ (ms : List (List ℕ)). length (flatten ms))
    (ap exchange_frames (run_take step_state k s (frames_of j)) ∙ frames-run step_state s (take k (frames_of j)))

-- a replay that stops at once
prefix_none : (why : ℕ) (j : List ℕ) (s : State) (o : List ℕ) → StopReason j o (run_of step_state s j) (stopped why (encode s) o)
    → ReplayPrefix j s o (stopped why (encode s) o)
unfolding stopped
prefix_none why j s o c = record {
  not_more = omega arith;
  equal = result_none why s o;
  fits = omega arith;
  room = λ k h. absurd (omega (arith, h));
  reason = c;
}

module _ (j : List ℕ) (s : State) (n : frame_length j ≡ 0 → ⊥) where
  -- the first exchange
  abbrev first : Exchange State
  first = record { frame = take (frame_length j) j; before = s; response = step_state (take (frame_length j) j) s }

  -- a message, and the replay of the rest
  prefix_more : (o : List ℕ) (rest : ReplayResult) → length first.response.answer ≤ answer_limit → answer_limit ≤ length o
      → ReplayPrefix (after_first j) first.response.state (drop (length first.response.answer) o) rest
      → ReplayPrefix j s o (answered (frame_length j) first.response.answer rest)
  prefix_more o rest h g p = record {
    not_more = omega (arith, p.not_more, length_more);
    equal = ap (answered (frame_length j) a) p.equal
        ∙ ap (λ (k : ℕ). answered k a (result_after rest.stop first.response.state (drop (length a) o) (take rest.messages later)))
        (sym size)
        ∙ result-more rest.stop s o first (take rest.messages later)
        ∙ ap (result_after rest.stop s o) (sym (ap₂ (λ (k : ℕ) (xs : List (Exchange State)). take k xs) one more));
    fits = omega (arith, p.fits, length-buffer);
    room = room_at;
    reason = by_reason p.reason;
  }
    where
      a : List ℕ
      a = first.response.answer

      later : List (Exchange State)
      later = run_of step_state first.response.state (after_first j)

      more : run_of step_state s j ≡ first ∷ later
      more = run_more step_state s j n

      length_more : length (run_of step_state s j) ≡ suc (length later)
      length_more = ap length more

      one : 1 + rest.messages ≡ suc rest.messages
      one = omega arith

      size : length (take (frame_length j) j) ≡ frame_length j
      size = length-take-le (frame_length j) j (frame-inside j)

      length-buffer : length (drop (length a) o) ≡ length o - length a
      length-buffer = length-drop (length a) o

      room_at : (k : ℕ) → k < 1 + rest.messages → length (flatten (exchange_answers (take k (run_of step_state s j)))) + answer_limit ≤ length o
      room_at zero l = unfold exchange_answers flatten in omega (arith, g)
      room_at (suc k) l =
          let m : k < rest.messages = omega (arith, l) in
          let e : length (flatten (exchange_answers (take (suc k) (run_of step_state s j))))
          ≡ length a + length (flatten (exchange_answers (take k later))) =
          ap (λ (xs : List (Exchange State)). length (flatten (exchange_answers (take (suc k) xs)))) more
          ∙ (unfold exchange_answers flatten in length-append a (flatten (exchange_answers (take k later))))
          in
          omega (arith, e, p.room k m, length-buffer, h, g)

      length_rest : length (after_first j) ≡ length j - frame_length j
      length_rest = length-drop (frame_length j) j

      by_reason : StopReason (after_first j) (drop (length a) o) later rest → StopReason j o (run_of step_state s j) (answered (frame_length j) a rest)
      by_reason (no_room e l m) = no_room e (omega (arith, length-buffer)) (omega (arith, length_rest))
      by_reason (at_end m e) = at_end (omega (arith, length_more)) (e ∙ ap end_number (sym (unread-more j n)))

-- no frame is left: the run is empty
stops_at_end : (why : ℕ) (j : List ℕ) (s : State) (o : List ℕ) → frame_length j ≡ 0 → end_number j ≡ why
    → ReplayPrefix j s o (stopped why (encode s) o)
unfolding stopped
stops_at_end why j s o e q =
    prefix_none why j s o
    (at_end (sym (ap length (run_none step_state s j e))) (sym (ap end_number (unread_none j e) ∙ q)))

prefix_used : (count : ℕ) (j : List ℕ) (s : State) (o : List ℕ) → length j ≡ 0 → ReplayPrefix j s o (replay_in count j (encode s) o)
prefix_used count j s o e =
    let w = frame-inside j in
    subst (ReplayPrefix j s o) (sym (replay_used j (encode s) o count e))
    (stops_at_end 0 j s o (omega arith) (ap (λ (t : Bool). cond t 0 3) (eq-eqb (length j) 0 e)))

-- ---- two replays, one behind the other

-- what can be seen of a replay that did the exchanges xs
abbrev pub observation_after : ℕ → State → List (Exchange State) → Observation
observation_after why s xs = record {
  stop = why;
  messages = length xs;
  passed = length (flatten (exchange_frames xs));
  written = length (flatten (exchange_answers xs));
  board = encode (last_state s xs);
  answers = flatten (exchange_answers xs);
}

observation-result : (why : ℕ) (s : State) (o : List ℕ) (xs : List (Exchange State))
    → observation (result_after why s o xs) ≡ observation_after why s xs
observation-result why s o xs = λ i. record {
  stop = why;
  messages = length xs;
  passed = length (flatten (exchange_frames xs));
  written = length (flatten (exchange_answers xs));
  board = encode (last_state s xs);
  answers = take-start o (flatten (exchange_answers xs)) i;
}

-- what two replays show of which the second went on where the first stopped: the counts added, the answers one behind the other
abbrev pub followed_by : Observation → Observation → Observation
followed_by v w = record {
  stop = w.stop;
  messages = v.messages + w.messages;
  passed = v.passed + w.passed;
  written = v.written + w.written;
  board = w.board;
  answers = v.answers ++ w.answers;
}

followed_after : (n why : ℕ) (s : State) (xs ys : List (Exchange State))
    → followed_by (observation_after n s xs) (observation_after why (last_state s xs) ys) ≡ observation_after why s (xs ++ ys)
unfolding exchange_frames exchange_answers
followed_after n why s xs ys =
    let joined : (f : Exchange State → List ℕ) → flatten (map f xs) ++ flatten (map f ys) ≡ flatten (map f (xs ++ ys)) =
    λ f. sym (ap flatten (map-append f xs ys) ∙ flatten_append (map f xs) (map f ys))
    in
    let sizes : (f : Exchange State → List ℕ) → length (flatten (map f xs)) + length (flatten (map f ys)) ≡ length (flatten (map f (xs ++ ys))) =
    λ f. sym (length-append (flatten (map f xs)) (flatten (map f ys))) ∙ ap length (joined f)
    in
    λ i. record {
      stop = why;
      messages = sym (length-append xs ys) i;
      passed = sizes (λ x. x.frame) i;
      written = sizes (λ x. x.response.answer) i;
      board = encode (sym (last_append s xs ys) i);
      answers = joined (λ x. x.response.answer) i;
    }

-- ---- the theorems

prefix_in : (count : ℕ) (j : List ℕ) (s : State) (o : List ℕ) → ValidState s → length j ≤ count
    → ReplayPrefix j s o (replay_in count j (encode s) o)
unfolding stopped
prefix_in zero j s o valid h = prefix_used zero j s o (omega arith)
prefix_in (suc count) j s o valid h = by_case (replay_case j o) (prefix_in count (after_first j))
  where
    by_case : ReplayCase j o
        → ((t : State) (p : List ℕ) → ValidState t → length (after_first j) ≤ count
        → ReplayPrefix (after_first j) t p (replay_in count (after_first j) (encode t) p))
        → ReplayPrefix j s o (replay_in (suc count) j (encode s) o)
    by_case (journal_used e) later = prefix_used (suc count) j s o e
    by_case (buffer_short n l) later =
        subst (ReplayPrefix j s o) (sym (replay_short j (encode s) o count n l)) (prefix_none 2 j s o (no_room refl (omega arith) (omega arith)))
    by_case (frame_cut n l e) later =
        subst (ReplayPrefix j s o) (sym (replay_cut j (encode s) o count n l e))
        (stops_at_end 3 j s o e (ap (λ (t : Bool). cond t 0 3) (ne_eqb (length j) 0 n)))
    by_case (frame_next l n) later =
        let msg : List ℕ = take (frame_length j) j in
        let r : Response State = step_state msg s in
        let e = replay_next j (encode s) o count r.number r.answer (encode r.state) l n (step_valid-board msg s o valid l) in
        let a = answer-short msg s valid in
        subst (ReplayPrefix j s o) (sym e)
        (prefix_more j s n o (replay_in count (after_first j) (encode r.state) (drop (length r.answer) o)) a l
        (later r.state (drop (length r.answer) o) (step_valid msg s valid) (shorter-rest j count n h)))

-- the state after any number of exchanges is valid
pub valid_after : (j : List ℕ) (s : State) (k : ℕ) → ValidState s → ValidState (last_state s (take k (run_of step_state s j)))
unfolding run_of
valid_after j s k valid =
    subst (λ (xs : List (Exchange State)). ValidState (last_state s xs)) (sym (run_take step_state k s (frames_of j)))
    (run-keeps step_state ValidState step_valid s (take k (frames_of j)) valid)

module _ (j : List ℕ) (s : State) (o : List ℕ) (valid : ValidState s) where
  abbrev result : ReplayResult
  result = replay_of j (encode s) o

  abbrev run : List (Exchange State)
  run = run_of step_state s j

  -- the replay did the first messages of the run, and left what they leave
  pub replay_prefix : ReplayPrefix j s o (replay_of j (encode s) o)
  replay_prefix =
      subst (ReplayPrefix j s o) (sym (sound_replay j (encode s) o (sound-valid s valid))) (prefix_in (length j) j s o valid (omega arith))

  pub replay_stops : let n : ℕ = (replay_of j (encode s) o).stop in (n ≡ 0) ⊎ ((n ≡ 2) ⊎ (n ≡ 3))
  replay_stops = by_reason replay_prefix.reason
    where
      by_end : (t : Bool) → result.stop ≡ cond t 0 3 → (result.stop ≡ 0) ⊎ ((result.stop ≡ 2) ⊎ (result.stop ≡ 3))
      by_end true e = inl e
      by_end false e = inr (inr e)

      by_reason : StopReason j o run result → (result.stop ≡ 0) ⊎ ((result.stop ≡ 2) ⊎ (result.stop ≡ 3))
      by_reason (no_room e l m) = inr (inl e)
      by_reason (at_end m e) = by_end (eqb (length (unread j)) 0) e

  complete-run : (result.stop ≡ 2 → ⊥) → result ≡ result_after (stop_at_end j) s o run
  complete-run n = by_reason replay_prefix.reason
    where
      by_reason : StopReason j o run result → result ≡ result_after (stop_at_end j) s o run
      by_reason (no_room e l m) = absurd (n e)
      by_reason (at_end m e) =
          replay_prefix.equal
          ∙ ap₂ (λ (why : ℕ) (xs : List (Exchange State)). result_after why s o xs) e (take_all result.messages run (omega arith))

  -- with room to the end it did them all
  pub replay_complete : ((replay_of j (encode s) o).stop ≡ 2 → ⊥) → replay_of j (encode s) o ≡ record {
    stop = stop_at_end j;
    messages = length (frames_of j);
    passed = length (flatten (frames_of j));
    written = length (flatten (exchange_answers (run_of step_state s j)));
    board = encode (last_state s (run_of step_state s j));
    buffer = patch o 0 (flatten (exchange_answers (run_of step_state s j)));
  }
  unfolding run_of
  replay_complete n =
      complete-run n
      ∙ (λ i. record {
        stop = stop_at_end j;
        messages = length_run step_state s (frames_of j) i;
        passed = length (flatten (frames-met step_state s j i));
        written = length (flatten (exchange_answers run));
        board = encode (last_state s run);
        buffer = patch o 0 (flatten (exchange_answers run));
      })

  pub replay_sound : is_sound (replay_of j (encode s) o).board ≡ true
  replay_sound =
      ap (λ (r : ReplayResult). is_sound r.board) replay_prefix.equal
      ∙ sound-valid (last_state s (take result.messages run)) (valid_after j s result.messages valid)

  -- 518 bytes for each message and 518 more are room to the end
  pub room_enough : answer_limit * (1 + length (frames_of j)) ≤ length o → (replay_of j (encode s) o).stop ≡ 2 → ⊥
  unfolding run_of
  room_enough h e = by_reason replay_prefix.reason
    where
      by_end : (t : Bool) → result.stop ≡ cond t 0 3 → ⊥
      by_end true q = omega arith
      by_end false q = omega arith

      by_reason : StopReason j o run result → ⊥
      by_reason (no_room q l m) =
          let k : ℕ = result.messages in
          let few : k ≤ length run = replay_prefix.not_more in
          let lr : length run ≡ length (frames_of j) = length_run step_state s (frames_of j) in
          let taken : length (take k (frames_of j)) ≡ k = length-take-le k (frames_of j) (omega arith) in
          let answers : result.written ≡ length (flatten (exchange_answers (run_frames step_state s (take k (frames_of j))))) =
          ap (λ (r : ReplayResult). r.written) replay_prefix.equal
          ∙ ap (λ (xs : List (Exchange State)). length (flatten (exchange_answers xs))) (run_take step_state k s (frames_of j))
          in
          let short = answers-within step_state ValidState answer_limit step_valid answer-short s (take k (frames_of j)) valid in
          omega arith
      by_reason (at_end m q) = by_end (eqb (length (unread j)) 0) q

  rest-behind : drop result.passed j ≡ behind_frames result.messages j
  unfolding behind_frames
  rest-behind = ap (λ (n : ℕ). drop n j) (prefix_passed replay_prefix)

  -- from where it stopped on, the journal has the remaining messages, which meet the state that it left, and the same unread rest
  pub replay_resumed : let r : ReplayResult = replay_of j (encode s) o in
      run_of step_state (last_state s (take r.messages (run_of step_state s j))) (drop r.passed j) ≡ drop r.messages (run_of step_state s j)
  unfolding run_of
  replay_resumed =
      ap (run_frames step_state (last_state s (take result.messages run))) (ap frames_of rest-behind ∙ frames-behind result.messages j)
      ∙ sym (run_drop step_state result.messages s (frames_of j))

  pub unread-resumed : unread (drop (replay_of j (encode s) o).passed j) ≡ unread j
  unread-resumed = ap unread rest-behind ∙ unread-behind result.messages j

  pub replay_observation : let r : ReplayResult = replay_of j (encode s) o in
      observation r ≡ observation_after r.stop s (take r.messages (run_of step_state s j))
  replay_observation = ap observation replay_prefix.equal ∙ observation-result result.stop s o (take result.messages run)

-- within a replay the step returns none of 1, 2 and 3: message k is a frame, meets the board of a valid state and a buffer with room
pub steps_decide : (j : List ℕ) (s : State) (o : List ℕ) → ValidState s → (k : ℕ) → k < (replay_of j (encode s) o).messages
    → let before : List (Exchange State) = take k (run_of step_state s j) in
    let n : ℕ = (step_of (get_or (frames_of j) k []) (encode (last_state s before)) (drop (length (flatten (exchange_answers before))) o)).number in
    (ltb 3 n || eqb n 0) ≡ true
steps_decide j s o valid k h =
    let before : List (Exchange State) = take k (run_of step_state s j) in
    let rest : List ℕ = drop (length (flatten (exchange_answers before))) o in
    let p = replay_prefix j s o valid in
    let count : length (run_of step_state s j) ≡ length (frames_of j) = unfold run_of in length_run step_state s (frames_of j) in
    let msg : List ℕ = get_or (frames_of j) k [] in
    let t : State = last_state s before in
    let left = length-drop (length (flatten (exchange_answers before))) o in
    ap (λ (r : StepResult). ltb 3 r.number || eqb r.number 0)
    (step_valid-board msg t rest (valid_after j s k valid) (omega (arith, p.room k h, left)))
    ∙ frame_number msg t (all_at is_frame (frames_of j) k [] (all_frames j) (omega (arith, p.not_more, count, h)))

-- two replays one behind the other, the second with room to the end, show the whole run
pub resumed-complete : (j : List ℕ) (s : State) (o o' : List ℕ) → ValidState s
    → let r : ReplayResult = replay_of j (encode s) o in
    let r' : ReplayResult = replay_of (drop r.passed j) r.board o' in
    (r'.stop ≡ 2 → ⊥) → followed_by (observation r) (observation r') ≡ observation_after (stop_at_end j) s (run_of step_state s j)
resumed-complete j s o o' valid n =
    ap₂ followed_by (replay_observation j s o valid) second
    ∙ followed_after r.stop why s (take r.messages xs) (drop r.messages xs)
    ∙ ap (observation_after why s) (take-append-drop r.messages xs)
  where
    r : ReplayResult
    r = replay_of j (encode s) o

    xs : List (Exchange State)
    xs = run_of step_state s j

    why : ℕ
    why = stop_at_end j

    t : State
    t = last_state s (take r.messages xs)

    rest : List ℕ
    rest = drop r.passed j

    met : replay_of rest r.board o' ≡ replay_of rest (encode t) o'
    met = ap (λ (q : ReplayResult). replay_of rest q.board o') (replay_prefix j s o valid).equal

    second : observation (replay_of rest r.board o') ≡ observation_after why t (drop r.messages xs)
    second =
        ap observation (met ∙ complete-run rest t o' (valid_after j s r.messages valid) (λ e. n (ap (λ (q : ReplayResult). q.stop) met ∙ e)))
        ∙ observation-result (stop_at_end rest) t o' (run_of step_state t rest)
        ∙ ap₂ (λ (u : List ℕ) (ys : List (Exchange State)). observation_after (end_number u) t ys)
        (unread-resumed j s o valid) (replay_resumed j s o valid)

-- ---- from any sound board

module _ (j b o : List ℕ) (y : are_bytes b ≡ true) (e : is_sound b ≡ true) where
  -- it is the encoding of a valid state
  sound-encoded : replay_of j b o ≡ replay_of j (encode (decode b)) o
  sound-encoded = ap (λ (x : List ℕ). replay_of j x o) (sound-state b y e).encoded.bytes

  pub sound_prefix : ReplayPrefix j (decode b) o (replay_of j b o)
  sound_prefix = subst (ReplayPrefix j (decode b) o) (sym sound-encoded) (replay_prefix j (decode b) o (valid-board b y e))

  pub sound-complete : ((replay_of j b o).stop ≡ 2 → ⊥) → replay_of j b o ≡ result_after (stop_at_end j) (decode b) o (run_of step_state (decode b) j)
  sound-complete n =
      sound-encoded ∙ complete-run j (decode b) o (valid-board b y e) (λ z. n (ap (λ (r : ReplayResult). r.stop) sound-encoded ∙ z))

  pub replayed-sound : is_sound (replay_of j b o).board ≡ true
  replayed-sound = ap (λ (r : ReplayResult). is_sound r.board) sound-encoded ∙ replay_sound j (decode b) o (valid-board b y e)

  -- and its state is valid
  pub replayed-valid : ValidState (decode (replay_of j b o).board)
  replayed-valid =
      let r : ReplayResult = replay_of j b o in
      let last : State = last_state (decode b) (take r.messages (run_of step_state (decode b) j)) in
      let valid = valid_after j (decode b) r.messages (valid-board b y e) in
      subst ValidState (sym (ap (λ (x : ReplayResult). decode x.board) sound_prefix.equal ∙ decode-encode last valid.fits)) valid

-- the message count is the number of frames passed, on any board
pub messages-counted : (j b o : List ℕ) → are_bytes b ≡ true → (replay_of j b o).messages ≡ length (frames_of (take (replay_of j b o).passed j))
unfolding stopped run_of
messages-counted j b o y =
    cases (is_sound b) (λ e. by_prefix (replay_of j b o) (sound_prefix j b o y e))
    (λ e.
    let r = unsound_replay j b o e in
    let w = frame-inside [] in
    ap (λ (x : ReplayResult). x.messages) r
    ∙ sym (ap (λ (x : ReplayResult). length (frames_of (take x.passed j))) r ∙ ap length (frames_none [] (omega arith))))
  where
    by_prefix : (r : ReplayResult) → ReplayPrefix j (decode b) o r → r.messages ≡ length (frames_of (take r.passed j))
    by_prefix r p =
        let count : length (run_of step_state (decode b) j) ≡ length (frames_of j) = length_run step_state (decode b) (frames_of j) in
        sym (ap (λ (n : ℕ). length (frames_of (take n j))) (prefix_passed p) ∙ ap length (frames-before r.messages j)
        ∙ length-take-le r.messages (frames_of j) (omega (arith, p.not_more, count)))

-- the counts are at most the lengths of what was lent
pub record CountsWithin (j o : List ℕ) (r : ReplayResult) : Type 0 where
  pub messages : r.messages ≤ length j
  pub passed : r.passed ≤ length j
  pub written : r.written ≤ length o

-- on any board: the messages done stand first in the journal, and each has four bytes at least
pub counts-within : (j b o : List ℕ) → are_bytes b ≡ true → CountsWithin j o (replay_of j b o)
unfolding stopped
counts-within j b o y =
    cases (is_sound b) (λ e. by_prefix (sound_prefix j b o y e))
    (λ e. subst (CountsWithin j o) (sym (unsound_replay j b o e)) (record { messages = omega arith; passed = omega arith; written = omega arith }))
  where
    r : ReplayResult
    r = replay_of j b o

    by_prefix : ReplayPrefix j (decode b) o r → CountsWithin j o r
    by_prefix p =
        let ms : List (List ℕ) = take r.messages (frames_of j) in
        let rest : List ℕ = flatten (drop r.messages (frames_of j)) ++ unread j in
        let split : length j ≡ length (flatten ms) + length rest = ap length (frames_first r.messages j) ∙ length-append (flatten ms) rest in
        let passed : r.passed ≤ length j = omega (arith, prefix_passed p, split) in
        let front : List ℕ = take r.passed j in
        let size = frames-size (frames_of front) (all_frames front) in
        record {
          messages = omega (arith, messages-counted j b o y, size, length-frames front, length-take-le r.passed j passed);
          passed = passed;
          written = p.fits;
        }
