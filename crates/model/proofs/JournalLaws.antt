-- The frames of a journal and the run of a list of frames.
--     by_frames                 induction over the frames of a journal
--     frames_none, frames-more  a journal's frames, one step at a time
--     frames-unread, unread_no_frame   the frames and the rest behind them are the journal, and no frame begins that rest
--     all_frames                each of the frames is one whole frame
--     frames-size               frames have four bytes each at least
--     frames_first, frames-before      the first k frames stand first in a journal, and their bytes have just these frames
--     frames-behind, unread-behind     from behind its first k frames on, a journal has the remaining frames and the same unread rest
--     frames_in_front, frames-flatten  frames one behind the other, with bytes behind them that begin none or without, are the frames found
--     run_take, run_drop        the run of a list of frames, cut in two
use Prim.Native.Nat.{ℕ, zero, suc, ◌+◌, ◌*◌, ◌≤◌}
use native.Mathlib.Nat.{mul-suc}
use native.Mathlib.Omega.{arith}
use mathlib.Core.Path.{◌≡◌, refl, sym, ap, ap₂, ◌∙◌}
use mathlib.Core.List.{List, [], ◌∷◌, ◌++◌, map, flatten, append_assoc, append-nil}
use mathlib.Core.Bool.{Bool, true, cond}
use lib.ListN.{length, take, drop, length-append, length-drop, take-append-drop}
use lib.Seq.{length-take-le, take-nil, take_at, drop_at, drop-drop}
use lib.Dec.{eqb}
use borrow.Author.Tests.{eqb-true, eqb-false, eq-eqb, ne_eqb}
use borrow.Table.Steps.{cases}
use Rattle.layout.proofs.BooleanLaws.{and_left, and_right, and_both}
use Rattle.layout.proofs.ConcatenationLaws.{flatten_append}
use Rattle.reader.specs.Frames.{frame_length_up_to, frame_length, is_frame}
use Rattle.reader.proofs.FrameLaws.{frame-least, frame-inside, first_is_frame, frame-whole, frame-there, frame_in_front}
use Rattle.model.specs.Lists.{for_all}
use Rattle.model.specs.Step.{Response}
use Rattle.model.proofs.ListLaws.{all_take}
use Rattle.model.specs.Replay.{frames_in, frames_of, unread, Exchange, run_frames, run_of}

-- ---- the frames of a journal

-- behind the frame that stands first
abbrev pub after_first : List ℕ → List ℕ
after_first j = drop (frame_length j) j

-- a frame has at least four bytes, so the rest is shorter
pub shorter-rest : (j : List ℕ) (count : ℕ) → (frame_length j ≡ 0 → ⊥) → length j ≤ suc count → length (after_first j) ≤ count
shorter-rest j count n h =
    let l = frame-least j n in
    let d = length-drop (frame_length j) j in
    omega arith

-- what holds of every journal that begins with no frame, and of a journal if it holds of the rest behind the first frame, holds of all
pub by_frames : (P : List ℕ → Type 0) → ((j : List ℕ) → frame_length j ≡ 0 → P j)
    → ((j : List ℕ) → (frame_length j ≡ 0 → ⊥) → P (after_first j) → P j) → (j : List ℕ) → P j
by_frames P none more j = up_to (length j) j (omega arith)
  where
    up_to : (count : ℕ) (j : List ℕ) → length j ≤ count → P j
    up_to zero j h = let w = frame-inside j in none j (omega arith)
    up_to (suc count) j h =
        cases (eqb (frame_length j) 0) (λ e. none j (eqb-true (frame_length j) 0 e))
        (λ e. let n = eqb-false (frame_length j) 0 e in more j n (up_to count (after_first j) (shorter-rest j count n h)))

none_in : (count : ℕ) (j : List ℕ) → frame_length j ≡ 0 → frames_in count j ≡ []
unfolding frames_in
none_in zero j e = refl
none_in (suc count) j e =
    ap (λ (t : Bool). cond t [] (take (frame_length j) j ∷ frames_in count (after_first j))) (eq-eqb (frame_length j) 0 e)

more_in : (count : ℕ) (j : List ℕ) → (frame_length j ≡ 0 → ⊥) → frames_in (suc count) j ≡ take (frame_length j) j ∷ frames_in count (after_first j)
unfolding frames_in
more_in count j n =
    ap (λ (t : Bool). cond t [] (take (frame_length j) j ∷ frames_in count (after_first j))) (ne_eqb (frame_length j) 0 n)

-- any count from the journal's length on finds the same frames
pub count_enough : (m n : ℕ) (j : List ℕ) → length j ≤ m → length j ≤ n → frames_in m j ≡ frames_in n j
count_enough zero n j h g = let w = frame-inside j in none_in zero j (omega arith) ∙ sym (none_in n j (omega arith))
count_enough (suc m) zero j h g = let w = frame-inside j in none_in (suc m) j (omega arith) ∙ sym (none_in zero j (omega arith))
count_enough (suc m) (suc n) j h g =
    cases (eqb (frame_length j) 0)
    (λ e. let z = eqb-true (frame_length j) 0 e in none_in (suc m) j z ∙ sym (none_in (suc n) j z))
    (λ e.
    let f = eqb-false (frame_length j) 0 e in
    more_in m j f
    ∙ ap (λ (ms : List (List ℕ)). take (frame_length j) j ∷ ms) (count_enough m n (after_first j) (shorter-rest j m f h) (shorter-rest j n f g))
    ∙ sym (more_in n j f))

pub frames_none : (j : List ℕ) → frame_length j ≡ 0 → frames_of j ≡ []
unfolding frames_of
frames_none j e = none_in (length j) j e

pub frames-more : (j : List ℕ) → (frame_length j ≡ 0 → ⊥) → frames_of j ≡ take (frame_length j) j ∷ frames_of (after_first j)
unfolding frames_of
frames-more j n =
    count_enough (length j) (suc (length j)) j (omega arith) (omega arith) ∙ more_in (length j) j n
    ∙ ap (λ (ms : List (List ℕ)). take (frame_length j) j ∷ ms)
    (count_enough (length j) (length (after_first j)) (after_first j) (shorter-rest j (length j) n (omega arith)) (omega arith))

pub all_frames : (j : List ℕ) → for_all is_frame (frames_of j) ≡ true
unfolding for_all
all_frames =
    by_frames (λ j. for_all is_frame (frames_of j) ≡ true) (λ j e. ap (for_all is_frame) (frames_none j e))
    (λ j n f. ap (for_all is_frame) (frames-more j n) ∙ and_both (first_is_frame j n) f)

-- ---- frames one behind the other

-- frames with bytes behind them that begin none
pub frames_in_front : (ms : List (List ℕ)) (r : List ℕ) → for_all is_frame ms ≡ true → frame_length r ≡ 0 → frames_of (flatten ms ++ r) ≡ ms
unfolding flatten for_all
frames_in_front [] r f z = frames_none r z
frames_in_front (m ∷ ms) r f z =
    let later : List ℕ = flatten ms ++ r in
    let whole : is_frame m ≡ true = and_left (is_frame m) (for_all is_frame ms) f in
    let size : frame_length (m ++ later) ≡ length m = frame_in_front m whole later in
    ap frames_of (append_assoc m (flatten ms) r)
    ∙ frames-more (m ++ later) (λ n. frame-there m whole (frame-whole m whole ∙ sym size ∙ n))
    ∙ ap₂ (λ (first : List ℕ) (more : List (List ℕ)). first ∷ more)
    (ap (λ (k : ℕ). take k (m ++ later)) size ∙ take_at m later (length m) refl)
    (ap (λ (k : ℕ). frames_of (drop k (m ++ later))) size ∙ ap frames_of (drop_at m later (length m) refl)
    ∙ frames_in_front ms r (and_right (is_frame m) (for_all is_frame ms) f) z)

pub frames-flatten : (ms : List (List ℕ)) → for_all is_frame ms ≡ true → frames_of (flatten ms) ≡ ms
unfolding frame_length_up_to
frames-flatten ms e = ap frames_of (sym (append-nil (flatten ms))) ∙ frames_in_front ms [] e refl

-- frames have four bytes each at least
pub frames-size : (ms : List (List ℕ)) → for_all is_frame ms ≡ true → 4 * length ms ≤ length (flatten ms)
unfolding for_all flatten
frames-size [] e = omega arith
frames-size (m ∷ ms) e =
    let is_frame_lem = and_left (is_frame m) (for_all is_frame ms) e in
    let least = frame-least m (frame-there m is_frame_lem) in
    let whole = frame-whole m is_frame_lem in
    let later = frames-size ms (and_right (is_frame m) (for_all is_frame ms) e) in
    let l = length-append m (flatten ms) in
    omega arith

-- ---- what is left behind the frames

pub unread_none : (j : List ℕ) → frame_length j ≡ 0 → unread j ≡ j
unfolding unread flatten
unread_none j e = ap (λ (ms : List (List ℕ)). drop (length (flatten ms)) j) (frames_none j e)

-- where the frames behind the first one begin
length_first : (j : List ℕ) (ms : List (List ℕ)) → length (flatten (take (frame_length j) j ∷ ms)) ≡ frame_length j + length (flatten ms)
unfolding flatten
length_first j ms =
    length-append (take (frame_length j) j) (flatten ms)
    ∙ ap (λ (k : ℕ). k + length (flatten ms)) (length-take-le (frame_length j) j (frame-inside j))

drop_first : (j : List ℕ) (ms : List (List ℕ)) → drop (length (flatten (take (frame_length j) j ∷ ms))) j ≡ drop (length (flatten ms)) (after_first j)
drop_first j ms = ap (λ (k : ℕ). drop k j) (length_first j ms) ∙ sym (drop-drop (length (flatten ms)) (frame_length j) j)

pub unread-more : (j : List ℕ) → (frame_length j ≡ 0 → ⊥) → unread j ≡ unread (after_first j)
unfolding unread
unread-more j n = ap (λ (ms : List (List ℕ)). drop (length (flatten ms)) j) (frames-more j n) ∙ drop_first j (frames_of (after_first j))

pub frames-unread : (j : List ℕ) → flatten (frames_of j) ++ unread j ≡ j
unfolding flatten
frames-unread =
    by_frames (λ j. flatten (frames_of j) ++ unread j ≡ j)
    (λ j e. ap₂ (λ (ms : List (List ℕ)) (rest : List ℕ). flatten ms ++ rest) (frames_none j e) (unread_none j e))
    (λ j n f.
    ap₂ (λ (ms : List (List ℕ)) (rest : List ℕ). flatten ms ++ rest) (frames-more j n) (unread-more j n)
    ∙ append_assoc (take (frame_length j) j) (flatten (frames_of (after_first j))) (unread (after_first j))
    ∙ ap (λ (rest : List ℕ). take (frame_length j) j ++ rest) f
    ∙ take-append-drop (frame_length j) j)

pub length-frames : (j : List ℕ) → length (flatten (frames_of j)) + length (unread j) ≡ length j
length-frames j = sym (length-append (flatten (frames_of j)) (unread j)) ∙ ap length (frames-unread j)

pub unread_no_frame : (j : List ℕ) → frame_length (unread j) ≡ 0
unread_no_frame =
    by_frames (λ j. frame_length (unread j) ≡ 0) (λ j e. ap frame_length (unread_none j e) ∙ e) (λ j n f. ap frame_length (unread-more j n) ∙ f)

pub unread-behind-frames : (ms : List (List ℕ)) (r : List ℕ) → for_all is_frame ms ≡ true → frame_length r ≡ 0 → unread (flatten ms ++ r) ≡ r
unfolding unread
unread-behind-frames ms r f z =
    ap (λ (fs : List (List ℕ)). drop (length (flatten fs)) (flatten ms ++ r)) (frames_in_front ms r f z)
    ∙ drop_at (flatten ms) r (length (flatten ms)) refl

-- ---- from behind the first k frames on

unfoldable pub behind_frames : ℕ → List ℕ → List ℕ
behind_frames k j = drop (length (flatten (take k (frames_of j)))) j

behind_none : (k : ℕ) (j : List ℕ) → frame_length j ≡ 0 → behind_frames k j ≡ j
unfolding behind_frames flatten
behind_none k j e = ap (λ (ms : List (List ℕ)). drop (length (flatten ms)) j) (ap (take k) (frames_none j e) ∙ take-nil k)

behind_more : (k : ℕ) (j : List ℕ) → (frame_length j ≡ 0 → ⊥) → behind_frames (suc k) j ≡ behind_frames k (after_first j)
unfolding behind_frames
behind_more k j n =
    ap (λ (ms : List (List ℕ)). drop (length (flatten (take (suc k) ms))) j) (frames-more j n) ∙ drop_first j (take k (frames_of (after_first j)))

pub frames-behind : (k : ℕ) (j : List ℕ) → frames_of (behind_frames k j) ≡ drop k (frames_of j)
unfolding behind_frames flatten
frames-behind zero j = refl
frames-behind (suc k) j =
    cases (eqb (frame_length j) 0)
    (λ e.
    let z = eqb-true (frame_length j) 0 e in
    ap frames_of (behind_none (suc k) j z) ∙ frames_none j z ∙ sym (ap (drop (suc k)) (frames_none j z)))
    (λ e.
    let n = eqb-false (frame_length j) 0 e in
    ap frames_of (behind_more k j n) ∙ frames-behind k (after_first j) ∙ sym (ap (drop (suc k)) (frames-more j n)))

pub unread-behind : (k : ℕ) (j : List ℕ) → unread (behind_frames k j) ≡ unread j
unfolding behind_frames flatten
unread-behind zero j = refl
unread-behind (suc k) j =
    cases (eqb (frame_length j) 0)
    (λ e. ap unread (behind_none (suc k) j (eqb-true (frame_length j) 0 e)))
    (λ e.
    let n = eqb-false (frame_length j) 0 e in
    ap unread (behind_more k j n) ∙ unread-behind k (after_first j) ∙ sym (unread-more j n))

-- the first k frames stand first in the journal, then the other frames and the rest
pub frames_first : (k : ℕ) (j : List ℕ) → j ≡ flatten (take k (frames_of j)) ++ (flatten (drop k (frames_of j)) ++ unread j)
frames_first k j =
    let fs : List (List ℕ) = frames_of j in
    sym (frames-unread j) ∙ ap (λ (x : List ℕ). x ++ unread j) (ap flatten (sym (take-append-drop k fs)) ∙ flatten_append (take k fs) (drop k fs))
    ∙ append_assoc (flatten (take k fs)) (flatten (drop k fs)) (unread j)

-- and they are its frames up to there
pub frames-before : (k : ℕ) (j : List ℕ) → frames_of (take (length (flatten (take k (frames_of j)))) j) ≡ take k (frames_of j)
frames-before k j =
    let fs : List (List ℕ) = frames_of j in
    let first : List ℕ = flatten (take k fs) in
    ap frames_of (ap (take (length first)) (frames_first k j) ∙ take_at first (flatten (drop k fs) ++ unread j) (length first) refl)
    ∙ frames-flatten (take k fs) (all_take is_frame k fs (all_frames j))

-- ---- exchanges

module _ {S : Type 0} where
  unfoldable pub exchange_frames : List (Exchange S) → List (List ℕ)
  exchange_frames xs = map (λ (x : Exchange S). x.frame) xs

  unfoldable pub exchange_answers : List (Exchange S) → List (List ℕ)
  exchange_answers xs = map (λ (x : Exchange S). x.response.answer) xs

  -- the state after the exchanges, of a run that began with s
  unfoldable pub last_state : S → List (Exchange S) → S
  last_state s [] = s
  last_state s (x ∷ xs) = last_state x.response.state xs

  pub last_append : (s : S) (xs ys : List (Exchange S)) → last_state s (xs ++ ys) ≡ last_state (last_state s xs) ys
  unfolding last_state
  last_append s [] ys = refl
  last_append s (x ∷ xs) ys = last_append x.response.state xs ys

-- ---- the run of a list of frames

module _ {S : Type 0} (step : List ℕ → S → Response S) where
  pub length_run : (s : S) (ms : List (List ℕ)) → length (run_frames step s ms) ≡ length ms
  unfolding run_frames
  length_run s [] = refl
  length_run s (m ∷ ms) = ap suc (length_run (step m s).state ms)

  pub frames-run : (s : S) (ms : List (List ℕ)) → exchange_frames (run_frames step s ms) ≡ ms
  unfolding run_frames exchange_frames
  frames-run s [] = refl
  frames-run s (m ∷ ms) = ap (λ (ns : List (List ℕ)). m ∷ ns) (frames-run (step m s).state ms)

  pub frames-met : (s : S) (j : List ℕ) → exchange_frames (run_of step s j) ≡ frames_of j
  unfolding run_of
  frames-met s j = frames-run s (frames_of j)

  pub run_take : (k : ℕ) (s : S) (ms : List (List ℕ)) → take k (run_frames step s ms) ≡ run_frames step s (take k ms)
  unfolding run_frames
  run_take zero s ms = refl
  run_take (suc k) s [] = refl
  run_take (suc k) s (m ∷ ms) =
      ap (λ (xs : List (Exchange S)). record { frame = m; before = s; response = step m s } ∷ xs) (run_take k (step m s).state ms)

  pub run_drop : (k : ℕ) (s : S) (ms : List (List ℕ))
      → drop k (run_frames step s ms) ≡ run_frames step (last_state s (take k (run_frames step s ms))) (drop k ms)
  unfolding run_frames last_state
  run_drop zero s ms = refl
  run_drop (suc k) s [] = refl
  run_drop (suc k) s (m ∷ ms) = run_drop k (step m s).state ms

  -- what a response's state keeps, the state after a run keeps
  pub run-keeps : (P : S → Type 0) → ((m : List ℕ) (s : S) → P s → P (step m s).state) → (s : S) (ms : List (List ℕ)) → P s
      → P (last_state s (run_frames step s ms))
  unfolding run_frames last_state
  run-keeps P keeps s [] h = h
  run-keeps P keeps s (m ∷ ms) h = run-keeps P keeps (step m s).state ms (keeps m s h)

  -- answers of at most `limit` bytes, while the states keep P
  pub answers-within : (P : S → Type 0) (limit : ℕ) → ((m : List ℕ) (s : S) → P s → P (step m s).state)
      → ((m : List ℕ) (s : S) → P s → length (step m s).answer ≤ limit) → (s : S) (ms : List (List ℕ)) → P s
      → length (flatten (exchange_answers (run_frames step s ms))) ≤ limit * length ms
  unfolding run_frames exchange_answers flatten
  answers-within P limit keeps short s [] h = omega arith
  answers-within P limit keeps short s (m ∷ ms) h =
      let a = (step m s).answer in
      let later = exchange_answers (run_frames step (step m s).state ms) in
      let l = length-append a (flatten later) in
      let f = short m s h in
      let g = answers-within P limit keeps short (step m s).state ms (keeps m s h) in
      let p = mul-suc limit (length ms) in
      omega arith

  -- if each frame passes p, and the exchange of a frame that passes p passes q, each exchange passes q
  pub run_all : (p : List ℕ → Bool) (q : Exchange S → Bool)
      → ((m : List ℕ) (s : S) → p m ≡ true → q (record { frame = m; before = s; response = step m s }) ≡ true)
      → (s : S) (ms : List (List ℕ)) → for_all p ms ≡ true → for_all q (run_frames step s ms) ≡ true
  unfolding run_frames for_all
  run_all p q f s [] e = refl
  run_all p q f s (m ∷ ms) e =
      and_both (f m s (and_left (p m) (for_all p ms) e)) (run_all p q f (step m s).state ms (and_right (p m) (for_all p ms) e))

  pub run_none : (s : S) (j : List ℕ) → frame_length j ≡ 0 → run_of step s j ≡ []
  unfolding run_of run_frames
  run_none s j e = ap (run_frames step s) (frames_none j e)

  pub run_more : (s : S) (j : List ℕ) → (frame_length j ≡ 0 → ⊥)
      → run_of step s j ≡ record { frame = take (frame_length j) j; before = s; response = step (take (frame_length j) j) s }
      ∷ run_of step (step (take (frame_length j) j) s).state (after_first j)
  unfolding run_of run_frames
  run_more s j n = ap (run_frames step s) (frames-more j n)
