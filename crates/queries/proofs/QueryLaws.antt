-- What a function returns that refuses a query, and one that has answered it.
use Prim.Native.Nat.{ℕ}
use mathlib.Core.Path.{◌≡◌, refl, sym, ap, ap₂, ◌∙◌}
use mathlib.Core.List.{List, [], ◌∷◌, ◌++◌}
use mathlib.Core.Bool.{Bool, not, cond}
use lib.Dec.{eqb}
use borrow.Author.Tests.{eq-eqb, ne_eqb}
use Rattle.std.specs.Int
use Rattle.std.specs.Int.{w32}
use Rattle.std.proofs.Math.Nat.{div-div-eq-div-mul}
use Rattle.layout.specs.Numbers.{to_le_bytes}
use Rattle.layout.specs.Bytes.{bytes_written, put_bytes}
use Rattle.layout.specs.Bits.{has_bit}
use Rattle.layout.specs.StringFields.{string_bytes}
use Rattle.layout.proofs.WrittenLaws.{put_nothing}
use Rattle.model.specs.State.{State, user_at, note_at}
use Rattle.model.specs.Board.{decode}
use Rattle.model.specs.Lookups.{user_slot, has_requested, note_of_request}
use Rattle.model.specs.Actions.{Query, request_missing}
use Rattle.model.specs.Refusals.{RefusalRow, first_number, after_login, user_rows, query_refusals}
use Rattle.model.specs.Answers.{answer_body}
use Rattle.access.proofs.RefusalLaws.{rows_pass, refusal_counts}
use Rattle.access.proofs.RecordReads.{requested_at}
use Rattle.queries.specs.QueryResults.{head_size, QueryResult, replied, reply_to, query_result}
use Rattle.access.specs.Refusals.{refusal_number}
use Rattle.access.specs.declared.refusals.Refusal.{Refusal}
use Rattle.std.specs.Prelude.{Result, Ok, Err, IsErrAnd}
use Rattle.std.proofs.lemmas.Result.{err_from_is_err_and}

-- ---- by the rows and the body

module _ (rows : List RefusalRow) (x o : List ℕ) where
  abbrev result_for : ℕ → Bool → QueryResult
  result_for k t = record { number = k; body = put_bytes o head_size (cond t x []) }

  pub reply-refused : (refusal : Refusal) → refusal_number refusal ≡ first_number rows → replied (Err refusal) o ≡ reply_to rows x o
  unfolding reply_to
  reply-refused refusal f =
      (λ i. record { number = f i; body = sym (put_nothing o head_size) i })
      ∙ ap (result_for (first_number rows)) (sym (ne_eqb (first_number rows) 0 (λ z. refusal_counts refusal (f ∙ z))))

  -- y is the body that the code has written
  pub reply-answered : {n : ℕ} {y after : List ℕ} → 0 ≡ first_number rows → bytes_written n after ≡ put_bytes o head_size y → y ≡ x
      → replied (Ok n) after ≡ reply_to rows x o
  unfolding reply_to
  reply-answered f w v =
      (λ i. record { number = f i; body = (w ∙ ap (put_bytes o head_size) v) i })
      ∙ ap (result_for (first_number rows)) (sym (eq-eqb (first_number rows) 0 (sym f)))

-- rows behind others that do not apply
reply-behind : (earlier rows : List RefusalRow) (x o : List ℕ) → first_number earlier ≡ 0 → reply_to rows x o ≡ reply_to (earlier ++ rows) x o
unfolding reply_to
reply-behind earlier rows x o z =
    ap (λ (k : ℕ). record { number = k; body = put_bytes o head_size (cond (eqb k 0) x []) }) (sym (rows_pass earlier rows z))

-- the note of y's request to x, by their slots, behind the rows of another user, which do not apply
pub note-replied : (s : State) (u p v x y : ℕ) {i j : ℕ} → i ≡ user_slot s x → j ≡ user_slot s y → (o : List ℕ) {r : QueryResult}
    → 0 ≡ first_number (user_rows s u p v [])
    → r ≡ reply_to ((request_missing, not (has_bit (user_at s i).requests j)) ∷ []) (string_bytes (note_at s i j)) o
    → r ≡ reply_to (user_rows s u p v ((request_missing, not (has_requested s y x)) ∷ [])) (string_bytes (note_of_request s y x)) o
unfolding user_rows after_login note_of_request
note-replied s u p v x y e f o z g =
    g
    ∙ ap₂ (λ (t : Bool) (note : List ℕ). reply_to ((request_missing, not t) ∷ []) (string_bytes note) o) (requested_at s x e y f) (ap₂ (note_at s) e f)
    ∙ reply-behind (user_rows s u p v []) ((request_missing, not (has_requested s y x)) ∷ []) (string_bytes (note_of_request s y x)) o (sym z)

-- ---- by the query

module _ (b : List ℕ) (q : Query) (o : List ℕ) where
  -- the refusal of a function that is called is handed on
  pub query-refused : (r : Result ℕ Refusal) (refusal : Refusal) → refusal_number refusal ≡ first_number (query_refusals (decode b) q)
      → IsErrAnd r (λ x. x ≡ refusal) → replied r o ≡ query_result b q o
  unfolding query_result
  query-refused r refusal f h =
      let p = err_from_is_err_and r h in
      rw (p.1, p.2) (reply-refused (query_refusals (decode b) q) (answer_body (decode b) q) o refusal f)

  pub query-answered : {n : ℕ} {y after : List ℕ} → 0 ≡ first_number (query_refusals (decode b) q)
      → bytes_written n after ≡ put_bytes o head_size y → y ≡ answer_body (decode b) q → replied (Ok n) after ≡ query_result b q o
  unfolding query_result
  query-answered f w v = reply-answered (query_refusals (decode b) q) (answer_body (decode b) q) o f w v

-- the library's bytes of a number of 32 bits are the layout's
pub number-bytes : (n : ℕ) → Int.to_le_bytes w32 n ≡ to_le_bytes 4 n
unfolding to_le_bytes
number-bytes n = simp div-div-eq-div-mul refl
