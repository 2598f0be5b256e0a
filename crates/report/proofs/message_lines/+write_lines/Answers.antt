-- The goals of `write_lines`: where messages, frame and answer are there, their line comes before the lines of the rest.
use Prim.Native.Nat.{ℕ, ◌+◌, ◌-◌, ◌≤◌}
use native.Mathlib.Omega.{arith}
use mathlib.Core.Path.{◌≡◌, sym, ◌∙◌}
use mathlib.Core.List.{List}
use lib.ListN.{length, take, drop}
use Rattle.reader.specs.Frames.{frame_length_up_to}
use Rattle.reader.proofs.FrameLaws.{found_none, found_is, found_some, frame_at, found-inside}
use Rattle.report.specs.Report.{message_line}
use Rattle.report.specs.Texts.{Writes}
use Rattle.report.proofs.TextLaws.{Writes-nothing, Writes-append}
use Rattle.report.proofs.MessageLineLaws.{line-short, lines_short, lines_none, lines_no_frame, lines_no_answer, line_in_front}
use Rattle.report.proofs.message_lines.+write_lines.Goals as goal
use Rattle.report.proofs.message_lines.+write_lines.Goals.{After-message}

-- an answer that was found lies within the answers
answer-in : (answers : List ℕ) {size : ℕ} (most : ℕ) → size ≡ frame_length_up_to most answers → (size ≡ 0 → ⊥)
    → (4 ≤ size) × (size ≤ most + 2) × (size ≤ length answers)
answer-in answers most e n =
    let w = frame_at {most = most} answers (λ z. n (e ∙ z)) in
    (omega (arith, w.stated, w.least), omega (arith, w.stated, w.greatest), omega (arith, w.stated, w.inside))

pub returns-then-messages-eq0 : goal.returns-then-messages-eq0
returns-then-messages-eq0 t c = rw (lines_none _ _ _ c.if-messages-eq0.true) (Writes-nothing _)

pub returns-in_default : goal.returns-in_default
returns-in_default t c = rw (lines_no_frame _ _ _ (found_none (sym c.in_default.is ∙ c.frame_length.ensures))) (Writes-nothing _)

pub returns-in_default-frame_length_up_to : goal.returns-in_default-frame_length_up_to
returns-in_default-frame_length_up_to t c =
    rw (lines_no_answer _ _ _ (λ z. found_some _ c.in-Some.ensures (found_is c.in-Some.ensures ∙ z))
    (found_none (sym c.in_default-frame_length_up_to.is ∙ c.frame_length_up_to.ensures))) (Writes-nothing _)

pub overflow_sub-answer_size : goal.overflow_sub-answer_size
overflow_sub-answer_size t c =
    omega (arith, (answer-in c.args.answers.now _ (found_is c.in-Some-frame_length_up_to.ensures) (found_some _ c.in-Some-frame_length_up_to.ensures)).0)

pub message-requires-clause-range : goal.message-requires-clause-range
message-requires-clause-range t c =
    omega (arith, (answer-in c.args.answers.now _ (found_is c.in-Some-frame_length_up_to.ensures) (found_some _ c.in-Some-frame_length_up_to.ensures)).1)

-- the parts lent on
pub slice_bounds-write_lines-count : goal.slice_bounds-write_lines-count
slice_bounds-write_lines-count t c = found-inside c.args.journal.now (found_is c.in-Some.ensures)

pub slice_bounds-write_lines-start : goal.slice_bounds-write_lines-start
slice_bounds-write_lines-start t c = found-inside c.args.journal.now (found_is c.in-Some.ensures)

pub slice_bounds-write_lines-count-2 : goal.slice_bounds-write_lines-count-2
slice_bounds-write_lines-count-2 t c =
    (answer-in c.args.answers.now _ (found_is c.in-Some-frame_length_up_to.ensures) (found_some _ c.in-Some-frame_length_up_to.ensures)).2

pub slice_bounds-write_lines-start-2 : goal.slice_bounds-write_lines-start-2
slice_bounds-write_lines-start-2 t c =
    (answer-in c.args.answers.now _ (found_is c.in-Some-frame_length_up_to.ensures) (found_some _ c.in-Some-frame_length_up_to.ensures)).2

-- a line, of at most fourteen bytes
abbrev line : {t : ℕ} → After-message t → List ℕ
line c = message_line c.kind.result c.kind-2.result (c.in-Some-frame_length_up_to.answer_size - 4)

line_written : {t : ℕ} (c : After-message t) → Writes c.args.writer.now (line c) c.message.new.self
line_written c = c.message.ensures

short : {t : ℕ} (c : After-message t) → length (line c) ≤ 14
short c = line-short c.kind.result c.kind-2.result (c.in-Some-frame_length_up_to.answer_size - 4)

pub write_lines-requires : goal.write_lines-requires
write_lines-requires t c =
    let p = (goal.at.write_lines-requires t c).After-message in
    let w = line_written p in
    (omega (arith, c.decreases, c.if-messages-eq0.false), omega (arith, c.requires, c.if-messages-eq0.false, w.size, w.kept, short p))

-- a line, and the lines of the rest
pub returns : goal.returns
returns t c =
    let a = c.args in
    let p = (goal.at.returns t c).After-message in
    let size = c.in-Some.size in
    let answer_size = c.in-Some-frame_length_up_to.answer_size in
    let more = lines_short (a.messages - 1) (take (length a.journal.now - size) (drop size a.journal.now))
    (take (length a.answers.now - answer_size) (drop answer_size a.answers.now))
    in
    rw (← line_in_front a.messages a.journal.now a.answers.now (found_is c.in-Some.ensures) (found_is c.in-Some-frame_length_up_to.ensures)
    c.if-messages-eq0.false (found_some _ c.in-Some.ensures) (found_some _ c.in-Some-frame_length_up_to.ensures) c.kind.ensures c.kind-2.ensures)
    (Writes-append (line_written p) c.write_lines.ensures (omega (arith, short p, more, c.requires, c.if-messages-eq0.false)))
