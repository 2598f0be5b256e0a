-- The whole report at each of the returns of `lines`.
use Prim.Native.Nat.{ℕ, ◌≤◌, ◌<◌}
use native.Mathlib.Omega.{arith}
use mathlib.Core.Path.{◌≡◌, refl, sym, ap, ap₂, ◌∙◌}
use mathlib.Core.List.{List, ◌++◌}
use mathlib.Core.Option.{Option, some, none}
use lib.ListN.{length}
use lib.Dec.{ltb}
use borrow.Author.Tests.{lt-ltb, le-ltb, ltb-true, ltb-false}
use borrow.Table.Steps.{cases}
use Rattle.std.specs.Prelude.{Result, Ok, Err}
use Rattle.layout.specs.Bytes.{patch, bytes_written, put_bytes}
use Rattle.layout.proofs.ByteLaws.{length-patch}
use Rattle.layout.proofs.WrittenLaws.{put_count, put-buffer}
use Rattle.model.specs.State.{State, empty_state}
use Rattle.model.specs.Board.{empty_board, decode}
use Rattle.model.proofs.BoardTheorems.{decode-encode}
use Rattle.model.proofs.EmptyBoard.{empty-encoded}
use Rattle.model.proofs.Invariant.{empty-valid}
use Rattle.report.specs.Report.{journal_limit, long_word, line_feed, run_text, report_of}
use Rattle.report.specs.Results.{report_limit, ReportResult, written_size, reported, text_result, report_result}
use Rattle.report.specs.declared.TooShort.{TooShort}
use Rattle.report.proofs.ReplayText.{text_short}

-- ---- the report, by the length of the journal

text_long : (j : List ℕ) → journal_limit < length j → report_of j ≡ long_word ++ line_feed
unfolding report_of
text_long j h = rw (lt-ltb journal_limit (length j) h) refl

text_run : (j : List ℕ) → length j ≤ journal_limit → report_of j ≡ run_text empty_state 0 j
unfolding report_of
text_run j h = rw (le-ltb journal_limit (length j) h) refl

-- no report is longer than the limit
pub report_short : (j : List ℕ) → length (report_of j) ≤ report_limit
report_short j =
    cases (ltb journal_limit (length j)) (λ q. let e = ap length (text_long j (ltb-true journal_limit (length j) q)) in omega arith)
    (λ q.
    let l = ltb-false journal_limit (length j) q in
    let e = ap length (text_run j l) in
    let m = text_short empty_state 0 j in
    omega arith)

-- ---- the result, by the length of the text buffer

abbrev result : Option ℕ → List ℕ → ReportResult
result n t = record { size = n; text = t }

module _ (limit : ℕ) (x t : List ℕ) where
  pub too_short : length t < limit → result none t ≡ text_result limit x t
  unfolding text_result
  too_short h = rw (lt-ltb (length t) limit h) refl

  in_full : limit ≤ length t → result (some (length x)) (patch t 0 x) ≡ text_result limit x t
  unfolding text_result
  in_full h = rw (le-ltb (length t) limit h) refl

  -- x written from the beginning of the buffer on
  pub written_text : {n : ℕ} {t' : List ℕ} → limit ≤ length t → bytes_written n t' ≡ put_bytes t 0 x → result (some n) t' ≡ text_result limit x t
  written_text room e = ap₂ (λ (k : ℕ) (y : List ℕ). result (some k) y) (put_count t 0 x e) (put-buffer t 0 x e) ∙ in_full room

  -- what was written lies within the buffer
  pub written-inside : length x ≤ limit → (r : Result ℕ TooShort) {t' : List ℕ} → reported r t' ≡ text_result limit x t → written_size r ≤ length t'
  written-inside short (Err x) e = omega arith
  written-inside short (Ok n) {t'} e =
      cases (ltb (length t) limit)
      (λ q.
      let z : some n ≡ none = ap (λ (y : ReportResult). y.size) (e ∙ sym (too_short (ltb-true (length t) limit q))) in
      let f : ◌≡◌ {A = ℕ} 0 1 = cc in
      omega arith)
      (λ q.
      let room = ltb-false (length t) limit q in
      let r = e ∙ sym (in_full room) in
      let z : some n ≡ some (length x) = ap (λ (y : ReportResult). y.size) r in
      let size : n ≡ length x = cc in
      let l : length t' ≡ length t = ap (λ (y : ReportResult). length y.text) r ∙ length-patch t 0 x (omega arith) in
      omega arith)

decode-empty : decode empty_board ≡ empty_state
decode-empty = ap decode (sym empty-encoded) ∙ decode-encode empty_state empty-valid.fits

module _ (j t : List ℕ) (room : report_limit ≤ length t) where
  pub too_long : {n : ℕ} {t' : List ℕ} → journal_limit < length j → bytes_written n t' ≡ put_bytes t 0 (long_word ++ line_feed)
      → result (some n) t' ≡ report_result j t
  unfolding report_result
  too_long l e =
      written_text report_limit (long_word ++ line_feed) t room e ∙ ap (λ (y : List ℕ). text_result report_limit y t) (sym (text_long j l))

  pub replayed_text : {n : ℕ} {t' : List ℕ} → length j ≤ journal_limit → bytes_written n t' ≡ put_bytes t 0 (run_text (decode empty_board) 0 j)
      → result (some n) t' ≡ report_result j t
  unfolding report_result
  replayed_text l e =
      written_text report_limit (run_text (decode empty_board) 0 j) t room e
      ∙ ap (λ (y : List ℕ). text_result report_limit y t) (ap (λ (s : State). run_text s 0 j) decode-empty ∙ sym (text_run j l))
