-- What `lines` has returned, and left in the text buffer.
use Rattle.std.specs.Prelude.{ℕ, ◌+◌, ◌*◌, ◌/◌, List, Result, Ok, Err, cond, length, ltb}
use Rattle.std.proofs.Math.Option.{Option, some, none}
use Rattle.layout.specs.Bytes.{patch}
use Rattle.report.specs.Report.{journal_limit, report_of}
use Rattle.report.specs.declared.TooShort.{TooShort}

-- no text is longer (`report_short` of ReportLaws): 15,000 lines of at most fourteen bytes, and one of ten
abbrev pub report_limit : ℕ
report_limit = 14 * (journal_limit / 4) + 10

pub record ReportResult : Type 0 where
  pub size : Option ℕ
  pub text : List ℕ

-- how many bytes were written, none where the text buffer is too short
abbrev pub report_size : Result ℕ TooShort → Option ℕ
report_size (Ok n) = some n
report_size (Err e) = none

-- .. and as a number, 0 where it is
abbrev pub written_size : Result ℕ TooShort → ℕ
written_size (Ok n) = n
written_size (Err e) = 0

abbrev pub reported : Result ℕ TooShort → List ℕ → ReportResult
reported r t = record { size = report_size r; text = t }

-- a text in a buffer that has to have room for `limit` bytes: one that is too short is left as it was; in one that is not, the text stands first,
-- and the bytes behind it are as they were
unfoldable pub text_result : ℕ → List ℕ → List ℕ → ReportResult
text_result limit x t =
    cond (ltb (length t) limit) (record { size = none; text = t }) (record { size = some (length x); text = patch t 0 x })

unfoldable pub report_result : List ℕ → List ℕ → ReportResult
report_result j t = text_result report_limit (report_of j) t
