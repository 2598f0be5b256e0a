-- From what an action's function ensures to the contract of `act`: the message that `decode` has read is that action.
use Prim.Native.Nat.{ℕ, ◌+◌, ◌≤◌}
use native.Mathlib.Omega.{arith}
use mathlib.Core.Path.{◌≡◌, refl, sym, ap, ◌∙◌, subst}
use mathlib.Core.List.{List}
use mathlib.Core.Bool.{true}
use lib.ListN.{length}
use borrow.Author.Tests.{le-leb}
use Rattle.layout.specs.Bytes.{bytes_at, bytes_written}
use Rattle.layout.specs.StringFields.{is_string}
use Rattle.layout.proofs.ByteLaws.{length-bytes_at}
use Rattle.layout.proofs.StringFieldLaws.{string_by}
use Rattle.reader.specs.Frames.{body_of}
use Rattle.reader.specs.Messages.{enum_content, message_content}
use Rattle.reader.specs.Spans.{SpanWithin, SpansWithin}
use Rattle.reader.specs.declared.Login.{Login}
use Rattle.reader.specs.declared.Span.{Span}
use Rattle.access.specs.Refusals.{result_number}
use Rattle.access.specs.declared.refusals.Refusal.{Refusal as ActionRefusal}
use Rattle.reader.specs.declared.Refusal.{Refusal as MessageRefusal}
use Rattle.step.specs.declared.Refusal.{Refusal}
use Rattle.step.specs.declared.Refusal.TheVariants.{Message as of_its_message, Action as of_its_action}
use Rattle.reader.specs.declared.Message.{Message}
use Rattle.reader.specs.declared.Message.TheVariants.{UVisPost}
use Rattle.reader.proofs.MessageTheorems.{spans_within}
use Rattle.model.specs.Actions.{Change, Query, Action, change, query, refused, action_of}
use Rattle.model.proofs.ActionLaws.{ActionFits, action-fits}
use Rattle.model.proofs.EnumActions.{enum_action, enum_action_lem}
use Rattle.changes.specs.ChangeResults.{changed, change_result}
use Rattle.queries.specs.QueryResults.{replied, query_result}
use Rattle.step.specs.ActionResults.{ActionResult, performed, acted, action_result}
use Rattle.std.specs.Prelude.{Result, Ok, Err, IsErrAnd}
use Rattle.std.specs.Result.{result_unwrap_or}
use Rattle.std.proofs.lemmas.Result.{err_from_is_err_and}

-- the message is the case m of the enum
pub record Decoded (msg : List ℕ) (m : Message) : Type 0 where
  pub content : enum_content (body_of msg) m ≡ message_content msg

pub decoded : {msg : List ℕ} {x m : Message} → enum_content (body_of msg) x ≡ message_content msg → x ≡ m → Decoded msg m
decoded {msg = msg} e f = record { content = ap (enum_content (body_of msg)) (sym f) ∙ e }

-- ---- what the function of an action ensures

module _ (b o : List ℕ) {msg : List ℕ} {m : Message} (d : Decoded msg m) where
  -- what is shown of the action is shown of the message
  of_message : {a : Action} {x : ActionResult} → enum_action (body_of msg) m ≡ a → x ≡ action_result b a o → x ≡ action_result b (action_of msg) o
  of_message f g = g ∙ sym (ap (λ (a : Action). action_result b a o) (enum_action_lem msg m d.content ∙ f))

  -- r' is what the arm of the message gave, b' and o' what it left
  module _ {r r' : Result ℕ ActionRefusal} (returned : r' ≡ r) {b' o' after : List ℕ} where
    pub change-done : {A : Type 0} {c : Change} (x : Result A ActionRefusal) → enum_action (body_of msg) m ≡ change c
        → changed x after ≡ change_result b c → (result_number r ≡ result_number x) × (result_unwrap_or r 0 ≡ 0) → b' ≡ after → o' ≡ o
        → performed r' b' o' ≡ action_result b (action_of msg) o
    unfolding action_result
    change-done x f h g e q =
        ap (λ (x : Result ℕ ActionRefusal). performed x b' o') returned
        ∙ of_message f (λ i. record {
          reply = record { number = (g.0 ∙ ap (λ y. y.number) h) i; body = bytes_written (g.1 i) (q i) };
          board = (e ∙ ap (λ y. y.board) h) i;
        })

    pub query-done : {q : Query} → enum_action (body_of msg) m ≡ query q → replied r after ≡ query_result b q o → b' ≡ b → o' ≡ after
        → performed r' b' o' ≡ action_result b (action_of msg) o
    unfolding action_result
    query-done f h e q =
        (λ i. performed (returned i) (e i) (q i)) ∙ of_message f (λ i. record { reply = h i; board = b })

  pub refusal-acted : {refusal : MessageRefusal} {given : Refusal} → enum_action (body_of msg) m ≡ refused refusal → given ≡ of_its_message refusal
      → acted (Err given) b o ≡ action_result b (action_of msg) o
  unfolding action_result
  refusal-acted f g = ap (λ (x : Refusal). acted (Err x) b o) g ∙ of_message f refl

-- ---- what `act` returns of it

module _ {x : ActionResult} {done : Result ℕ ActionRefusal} {b o : List ℕ} (e : performed done b o ≡ x) where
  pub done-acted : {n : ℕ} → done ≡ Ok n → acted (Ok n) b o ≡ x
  done-acted f = ap (λ (r : Result ℕ ActionRefusal). performed r b o) (sym f) ∙ e

  pub refused-acted : (r : Result ℕ Refusal) (refusal : ActionRefusal) → IsErrAnd r (λ y. y ≡ of_its_action refusal) → done ≡ Err refusal → acted r b o ≡ x
  refused-acted r refusal h f =
      let p = err_from_is_err_and r h in
      rw (p.1, p.2) (ap (λ (r : Result ℕ ActionRefusal). performed r b o) (sym f) ∙ e)

-- ---- the fields of a message

pub spans_of : {msg : List ℕ} {m : Message} → Decoded msg m → SpansWithin (body_of msg) m
spans_of {msg = msg} {m = m} d = spans_within msg m d.content

pub span-inside : {body whole : List ℕ} {limit : ℕ} {span : Span} → SpanWithin whole limit span → body ≡ whole → span.start + span.len ≤ length body
span-inside {span = span} w e =
    subst (λ (x : List ℕ). span.start + span.len ≤ length x) (sym e) w.inside

-- the part of the body that a span names
pub span-part : (span : Span) {body whole x : List ℕ} → x ≡ bytes_at body span.start span.len → body ≡ whole
    → bytes_at whole span.start span.len ≡ x
span-part span e f = sym (e ∙ ap (λ (t : List ℕ). bytes_at t span.start span.len) f)

pub span-short : {whole x : List ℕ} {limit : ℕ} {span : Span} → SpanWithin whole limit span → bytes_at whole span.start span.len ≡ x
    → is_string limit x ≡ true
span-short {whole = whole} {x = x} {limit = limit} {span = span} w e =
    let l : length x ≡ span.len = ap length (sym e) ∙ length-bytes_at whole span.start span.len w.inside in
    let h = w.short in
    string_by limit x ∙ le-leb (length x) limit (omega arith)

pub visibility-fits : {msg : List ℕ} {l : Login} {n visibility : ℕ} → Decoded msg (UVisPost l n visibility) → visibility ≤ 1
unfolding enum_action
visibility-fits {msg = msg} {l = l} {n = n} {visibility = visibility} d =
    (subst ActionFits (enum_action_lem msg (UVisPost l n visibility) d.content) (action-fits msg)).3
