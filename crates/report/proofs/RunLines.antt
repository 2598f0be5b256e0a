-- The lines by the bytes of a replay are those of its exchanges.
use Prim.Native.Nat.{ℕ, suc, ◌+◌, ◌-◌, ◌≤◌, ◌<◌}
use native.Mathlib.Omega.{arith}
use mathlib.Core.Path.{◌≡◌, refl, sym, ap, ap₂, ◌∙◌}
use mathlib.Core.List.{List, [], ◌∷◌, ◌++◌, map, flatten, append_assoc}
use mathlib.Core.Bool.{true}
use lib.ListN.{length, drop, length-append}
use lib.Seq.{drop_at}
use borrow.Author.Tests.{ne_eqb}
use Rattle.layout.proofs.BooleanLaws.{and_left, and_right}
use Rattle.reader.specs.Frames.{length_field, frame_length, is_frame, kind_of, body_of, frame_bytes}
use Rattle.reader.proofs.FrameLaws.{frame-length, frame-least, kind_in_front, frame_in_front, frame-there, frame-whole, length-frame, frame-body, frame-kind, frame-stated}
use Rattle.model.specs.Lists.{for_all}
use Rattle.model.specs.State.{State}
use Rattle.model.specs.Step.{Response, step_state}
use Rattle.model.specs.Replay.{run_frames}
use Rattle.model.proofs.RuleLaws.{ValidState}
use Rattle.model.proofs.Invariant.{step_valid}
use Rattle.model.proofs.AnswerLaws.{answer_framed, answer-short}
use Rattle.model.proofs.JournalLaws.{exchange_answers}
use Rattle.report.specs.Report.{message_line, exchange_line}
use Rattle.report.specs.MessageLines.{answer_length, lines_in}

-- an answer, with bytes behind it
module _ (number : ℕ) (body rest : List ℕ) (n : number < 65536) (l : length body ≤ 514) where
  abbrev behind : List ℕ
  behind = frame_bytes number body ++ rest

  stated : length_field behind ≡ 2 + length body
  stated = frame-stated number body rest (omega arith)

  pub answer-length : answer_length behind ≡ 4 + length body
  answer-length =
      let s = stated in
      let k = length-frame number body in
      let m = length-append (frame_bytes number body) rest in
      frame-length {most = 516} behind (omega arith) (omega arith) (omega arith) (omega arith) ∙ omega arith

  answer_number : kind_of behind ≡ number
  answer_number =
      let k = length-frame number body in
      kind_in_front (frame_bytes number body) rest (omega arith) ∙ frame-kind number body n

-- a message and its answer in front of others
lines_more : (count : ℕ) (m j : List ℕ) (number : ℕ) (body a : List ℕ) → is_frame m ≡ true → number < 65536 → length body ≤ 514
    → lines_in (suc count) (m ++ j) (frame_bytes number body ++ a) ≡ message_line (kind_of m) number (length body) ++ lines_in count j a
unfolding lines_in
lines_more count m j number body a e n l =
    let x : List ℕ = frame_bytes number body in
    let least = frame-least m (frame-there m e) in
    let size = frame_in_front m e j in
    let whole = frame-whole m e in
    let k = length-frame number body in
    let reply = answer-length number body a n l in
    let field = stated number body a n l in
    let line : message_line (kind_of (m ++ j)) (kind_of (x ++ a)) (length_field (x ++ a) - 2) ≡ message_line (kind_of m) number (length body) =
    ap₂ (λ (f : ℕ → List ℕ) (i : ℕ). f i)
    (ap₂ message_line (kind_in_front m j (omega arith)) (answer_number number body a n l)) (omega arith)
    in
    let later : lines_in count (drop (frame_length (m ++ j)) (m ++ j)) (drop (answer_length (x ++ a)) (x ++ a)) ≡ lines_in count j a =
    ap₂ (lines_in count) (drop_at m j (frame_length (m ++ j)) (sym size)) (drop_at x a (answer_length (x ++ a)) (k ∙ sym reply))
    in
    rw (ne_eqb (frame_length (m ++ j)) 0 (λ z. omega arith)) (rw (ne_eqb (answer_length (x ++ a)) 0 (λ z. omega arith)) (ap₂ (λ (p q : List ℕ). p ++ q) line later))

pub lines_run : (s : State) (ms : List (List ℕ)) (j a : List ℕ) → ValidState s → for_all is_frame ms ≡ true
    → lines_in (length ms) (flatten ms ++ j) (flatten (exchange_answers (run_frames step_state s ms)) ++ a) ≡ flatten (map exchange_line (run_frames step_state s ms))
unfolding run_frames exchange_answers flatten lines_in for_all exchange_line
lines_run s [] j a valid e = refl
lines_run s (m ∷ ms) j a valid e =
    let r : Response State = step_state m s in
    let framed = answer_framed m s in
    let body : List ℕ = framed.body in
    let later : List ℕ = flatten (exchange_answers (run_frames step_state r.state ms)) in
    let short = answer-short m s valid in
    let k = ap length framed.equal ∙ length-frame r.number body in
    let size : length body ≡ length (body_of r.answer) = sym (ap length (ap body_of framed.equal ∙ frame-body r.number body)) in
    let is_frame_lem = and_left (is_frame m) (for_all is_frame ms) e in
    ap₂ (lines_in (suc (length ms))) (append_assoc m (flatten ms) j)
    (append_assoc r.answer later a ∙ ap (λ (x : List ℕ). x ++ (later ++ a)) framed.equal)
    ∙ lines_more (length ms) m (flatten ms ++ j) r.number body (later ++ a) is_frame_lem framed.in_range (omega arith)
    ∙ ap₂ (λ (i : ℕ) (x : List ℕ). message_line (kind_of m) r.number i ++ x) size
    (lines_run r.state ms j a (step_valid m s valid) (and_right (is_frame m) (for_all is_frame ms) e))
