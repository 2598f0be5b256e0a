-- The head written in front of an action's body makes the answer of the model's step.
use Prim.Native.Nat.{ℕ, ◌+◌, ◌≤◌}
use native.Mathlib.Omega.{arith}
use mathlib.Core.Path.{◌≡◌, refl, sym, ap, ◌∙◌, subst}
use mathlib.Core.List.{List, [], ◌++◌, append_assoc}
use mathlib.Core.Bool.{Bool, true, false, cond}
use mathlib.Core.Option.{Option, some, none}
use lib.ListN.{length, take, drop, length-append}
use lib.Seq.{length-take-le, drop_at}
use lib.Dec.{eqb}
use lib.Pow.{are_bytes}
use borrow.Author.Tests.{ne_eqb}
use Rattle.layout.specs.Bytes.{patch, write_at, bytes_written, put_bytes}
use Rattle.layout.specs.Numbers.{to_le_bytes}
use Rattle.layout.proofs.ByteLaws.{patch_join, length-patch, write-within, length-write}
use Rattle.layout.proofs.NumberLaws.{length_to}
use Rattle.layout.proofs.BooleanLaws.{cond_same}
use Rattle.layout.proofs.WrittenLaws.{put_nothing}
use Rattle.reader.specs.Frames.{frame_bytes}
use Rattle.model.specs.State.{State}
use Rattle.model.specs.Board.{encode, decode}
use Rattle.model.specs.Soundness.{is_sound}
use Rattle.model.specs.Actions.{Cause, malformed, Action, change, query, refused, action_of}
use Rattle.model.specs.Refusals.{cause_number, change_refusals, query_refusals, first_cause, number_returned, first_number}
use Rattle.model.specs.Changes.{apply_change}
use Rattle.model.specs.Answers.{answer_body}
use Rattle.model.specs.Step.{answer_limit, respond, step_action, step_state, StepResult, write_answer, step_of}
use Rattle.model.proofs.RefusalTheorems.{rank_number}
use Rattle.model.proofs.BufferLaws.{patch-start}
use Rattle.model.proofs.SoundnessTheorems.{sound-state}
use Rattle.model.proofs.StepTheorems.{arguments_accepted, step_lengths}
use Rattle.changes.specs.ChangeResults.{change_result}
use Rattle.queries.specs.QueryResults.{head_size, reply_to, query_result}
use Rattle.step.specs.ActionResults.{ActionResult, action_result}

-- ---- the head, written behind the body in time

-- x written right in front of what was written before
front-joined : (o x y : List ℕ) → length x ≤ length o → patch (patch o (length x) y) 0 x ≡ patch o 0 (x ++ y)
unfolding patch
front-joined o x y h =
    let n : ℕ = length x in
    let behind : drop n (patch o n y) ≡ y ++ drop (n + length y) o =
    drop_at (take n o) (y ++ drop (n + length y) o) n (length-take-le n o h)
    in
    patch-start (patch o n y) x ∙ ap (λ (t : List ℕ). x ++ t) behind ∙ sym (append_assoc x y (drop (n + length y) o))
    ∙ ap (λ (k : ℕ). x ++ y ++ drop k o) (sym (length-append x y)) ∙ sym (patch-start o (x ++ y))

-- a buffer with its body in place becomes the frame by two writes
abbrev pub with_head : List ℕ → ℕ → ℕ → List ℕ
with_head o number len = patch (patch o 0 (to_le_bytes 2 (2 + len))) 2 (to_le_bytes 2 number)

-- as the code does them
pub head_placed : (o : List ℕ) (number len : ℕ) {half whole : List ℕ} → head_size ≤ length o
    → half ≡ write_at o 0 (to_le_bytes 2 (2 + len)) → whole ≡ write_at half 2 (to_le_bytes 2 number) → whole ≡ with_head o number len
head_placed o number len {half = half} h e f =
    let x : List ℕ = to_le_bytes 2 (2 + len) in
    let same : length half ≡ length o = ap length e ∙ length-write o 0 x in
    f ∙ write-within half 2 (to_le_bytes 2 number) (length_to 2 number) (omega arith)
    ∙ ap (λ (t : List ℕ). patch t 2 (to_le_bytes 2 number)) (e ∙ write-within o 0 x (length_to 2 (2 + len)) (omega arith))

head-written : (o : List ℕ) (number : ℕ) (body : List ℕ) → head_size + length body ≤ length o
    → with_head (patch o head_size body) number (length body) ≡ patch o 0 (frame_bytes number body)
unfolding frame_bytes
head-written o number body h =
    let x : List ℕ = to_le_bytes 2 (2 + length body) in
    let y : List ℕ = to_le_bytes 2 number in
    let lx : length x ≡ 2 = length_to 2 (2 + length body) in
    let ly : length y ≡ 2 = length_to 2 number in
    let lh : length (x ++ y) ≡ head_size = length-append x y ∙ omega arith in
    let same : length (patch o head_size body) ≡ length o = length-patch o head_size body h in
    let place : 2 ≡ 0 + length x = omega arith in
    ap (λ (k : ℕ). patch (patch (patch o head_size body) 0 x) k y) place
    ∙ patch_join (patch o head_size body) 0 x y (omega arith)
    ∙ ap (λ (k : ℕ). patch (patch o k body) 0 (x ++ y)) (sym lh) ∙ front-joined o (x ++ y) body (omega arith)
    ∙ ap (patch o 0) (append_assoc x y body)

-- ---- the step

-- an action's result with the head written
abbrev pub headed : ActionResult → StepResult
headed x = record {
  number = x.reply.number;
  written = head_size + x.reply.body.count;
  board = x.board;
  buffer = with_head x.reply.body.buffer x.reply.number x.reply.body.count;
}

-- a response is the frame of its number, whose body is empty where a cause applies
abbrev frame_result : ℕ → State → List ℕ → List ℕ → List ℕ → StepResult
frame_result number next body b o =
    let shown : List ℕ = cond (eqb number 0) body [] in
    record {
      number = number;
      written = head_size + length shown;
      board = cond (eqb number 0) (encode next) b;
      buffer = patch o 0 (frame_bytes number shown);
    }

length-frame : (number : ℕ) (body : List ℕ) → length (frame_bytes number body) ≡ head_size + length body
unfolding frame_bytes
length-frame number body =
    let x : List ℕ = to_le_bytes 2 (2 + length body) in
    let y : List ℕ = to_le_bytes 2 number in
    let lx = length_to 2 (2 + length body) in
    let ly = length_to 2 number in
    length-append x (y ++ body) ∙ ap (λ (n : ℕ). length x + n) (length-append y body) ∙ omega arith

response_framed : (cause : Option Cause) (s next : State) (body b o : List ℕ)
    → write_answer (respond cause s next body) b o ≡ frame_result (number_returned cause) next body b o
unfolding write_answer respond
response_framed none s next body b o =
    λ i. record { number = 0; written = length-frame 0 body i; board = encode next; buffer = patch o 0 (frame_bytes 0 body) }
response_framed (some cause) s next body b o =
    let n : ℕ = cause_number cause in
    let refused : eqb n 0 ≡ false = ne_eqb n 0 (λ z. omega (arith, rank_number cause, z)) in
    rw (refused, length-frame n []) refl

module _ (b o : List ℕ) where
  -- a frame within the buffer is the head in front of its body
  frame-headed : (number : ℕ) (next : State) (body : List ℕ) → (frame_result number next body b o).written ≤ length o
      → frame_result number next body b o ≡ headed (record {
        reply = record { number = number; body = put_bytes o head_size (cond (eqb number 0) body []) };
        board = cond (eqb number 0) (encode next) b;
      })
  unfolding put_bytes
  frame-headed number next body h =
      let shown : List ℕ = cond (eqb number 0) body [] in
      λ i. record {
        number = number;
        written = head_size + length shown;
        board = cond (eqb number 0) (encode next) b;
        buffer = sym (head-written o number shown h) i;
      }

  response-headed : (cause : Option Cause) (s next : State) (body : List ℕ) → (write_answer (respond cause s next body) b o).written ≤ length o
      → let number : ℕ = number_returned cause in
      write_answer (respond cause s next body) b o ≡ headed (record {
        reply = record { number = number; body = put_bytes o head_size (cond (eqb number 0) body []) };
        board = cond (eqb number 0) (encode next) b;
      })
  response-headed cause s next body h =
      let e = response_framed cause s next body b o in
      e ∙ frame-headed (number_returned cause) next body (subst (λ (x : StepResult). x.written ≤ length o) e h)

  -- no body
  none_headed : (number : ℕ) (t : Bool) (after : List ℕ)
      → headed (record { reply = record { number = number; body = put_bytes o head_size (cond t [] []) }; board = after })
      ≡ headed (record { reply = record { number = number; body = bytes_written 0 o }; board = after })
  none_headed number t after =
      let e : put_bytes o head_size (cond t [] []) ≡ bytes_written 0 o = ap (put_bytes o head_size) (cond_same t []) ∙ put_nothing o head_size in
      λ i. headed (record { reply = record { number = number; body = e i }; board = after })

  pub action-headed : b ≡ encode (decode b) → (a : Action) → (write_answer (step_action (decode b) a) b o).written ≤ length o
      → write_answer (step_action (decode b) a) b o ≡ headed (action_result b a o)
  unfolding step_action action_result change_result query_result reply_to first_number cause_number
  action-headed w (change c) h =
      let s : State = decode b in
      let cause : Option Cause = first_cause (change_refusals s c) in
      let n : ℕ = number_returned cause in
      response-headed cause s (apply_change s c) [] h
      ∙ none_headed n (eqb n 0) (cond (eqb n 0) (encode (apply_change s c)) b)
  action-headed w (query q) h =
      let s : State = decode b in
      let cause : Option Cause = first_cause (query_refusals s q) in
      let n : ℕ = number_returned cause in
      let kept : cond (eqb n 0) (encode s) b ≡ b = ap (λ (x : List ℕ). cond (eqb n 0) x b) (sym w) ∙ cond_same (eqb n 0) b in
      response-headed cause s s (answer_body s q) h ∙ (λ i. headed (record { reply = query_result b q o; board = kept i }))
  action-headed w (refused refusal) h =
      let s : State = decode b in
      let n : ℕ = cause_number (malformed refusal) in
      let kept : cond (eqb n 0) (encode s) b ≡ b = ap (λ (x : List ℕ). cond (eqb n 0) x b) (sym w) ∙ cond_same (eqb n 0) b in
      response-headed (some (malformed refusal)) s s [] h ∙ none_headed n (eqb n 0) (cond (eqb n 0) (encode s) b)
      ∙ (λ i. headed (record { reply = record { number = n; body = bytes_written 0 o }; board = kept i }))

-- ---- a sound board and a buffer with room

module _ (msg b o : List ℕ) (y : are_bytes b ≡ true) (e : is_sound b ≡ true) (h : answer_limit ≤ length o) where
  pub step_headed : step_of msg b o ≡ headed (action_result b (action_of msg) o)
  unfolding step_state
  step_headed =
      let accepted = arguments_accepted msg b o e h in
      accepted ∙ action-headed b o (sound-state b y e).encoded.bytes (action_of msg)
      (subst (λ (r : StepResult). r.written ≤ length o) accepted (step_lengths msg b o y).inside)

  pub action-short : head_size + (action_result b (action_of msg) o).reply.body.count ≤ answer_limit
  action-short = subst (λ (r : StepResult). r.written ≤ answer_limit) step_headed (step_lengths msg b o y).short
