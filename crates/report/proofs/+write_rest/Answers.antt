-- The goals of `write_rest`: the lines of the messages done come first, and the stop says what follows them.
use Prim.Native.Nat.{ℕ, ◌+◌, ◌*◌, ◌≤◌}
use native.Mathlib.Omega.{arith}
use mathlib.Core.Path.{◌≡◌, sym, ap, subst}
use mathlib.Core.Bool.{true}
use lib.ListN.{length, drop, length-drop}
use lib.Pow.{are_bytes}
use borrow.Author.Rules.{part_to_end}
use Rattle.layout.proofs.NumberLaws.{bytes_of}
use Rattle.layout.proofs.ByteLaws.{length_rest}
use Rattle.model.specs.Board.{decode}
use Rattle.replay.specs.Results.{stop_number, replayed}
use Rattle.report.specs.MessageLines.{lines_in}
use Rattle.report.specs.Report.{cut_line, run_text}
use Rattle.report.specs.Texts.{Writes}
use Rattle.report.proofs.TextLaws.{Writes-append}
use Rattle.report.proofs.MessageLineLaws.{lines_short}
use Rattle.report.proofs.ReplayText.{TextOf, sound_text, text_short, cut_short}
use Rattle.report.proofs.+write_rest.Goals as goal
use Rattle.report.proofs.+write_rest.Goals.{After-replay_sound-r, After-write_lines}

-- ---- behind the replay, and behind the lines of its messages

board-bytes : {t : ℕ} (c : After-replay_sound-r t) → are_bytes c.args.board.now ≡ true
board-bytes c = bytes_of c.args.board.now (λ i h. omega (arith, c.slice_known-1.given i))

-- what the replay says of the text
text_of : {t : ℕ} (c : After-replay_sound-r t) → let a = c.args in
    TextOf (decode a.board.now) a.place a.journal.now a.answers.now (replayed c.replay_sound-r.result c.replay_sound-r.new.board c.replay_sound-r.new.out)
text_of c =
    let a = c.args in
    subst (TextOf (decode a.board.now) a.place a.journal.now a.answers.now) (sym c.replay_sound-r.ensures)
    (sound_text a.place a.journal.now a.board.now a.answers.now (board-bytes c) c.requires.0)

-- the lines leave room for the text of the rest
lines-size : {t : ℕ} (c : After-write_lines t) → length (lines_in c.replay_sound-r.result.messages c.args.journal.now c.replay_sound-r.new.out) ≤ 14 * c.replay_sound-r.result.messages
lines-size c = let r = c.replay_sound-r in lines_short r.result.messages c.args.journal.now r.new.out

pub write_lines-requires : goal.write_lines-requires
write_lines-requires t c =
    let x = text_of (goal.at.write_lines-requires t c).After-replay_sound-r in
    omega (arith, x.few, x.inside, c.requires.3)

pub returns-in-JournalUsed : goal.returns-in-JournalUsed
returns-in-JournalUsed t c =
    let x = text_of (goal.at.returns-in-JournalUsed t c).After-replay_sound-r in
    rw (← x.used (ap stop_number c.in-JournalUsed.is)) c.write_lines.ensures

pub returns-in-BoardUnsound : goal.returns-in-BoardUnsound
returns-in-BoardUnsound t c =
    let x = text_of (goal.at.returns-in-BoardUnsound t c).After-replay_sound-r in
    absurd (x.not_unsound (ap stop_number c.in-BoardUnsound.is))

-- ---- the rest of the journal

pub slice_bounds-write_rest-count : goal.slice_bounds-write_rest-count
slice_bounds-write_rest-count t c = (text_of (goal.at.slice_bounds-write_rest-count t c).After-replay_sound-r).inside

pub slice_bounds-write_rest-start : goal.slice_bounds-write_rest-start
slice_bounds-write_rest-start t c = (text_of (goal.at.slice_bounds-write_rest-start t c).After-replay_sound-r).inside

pub overflow_add-place : goal.overflow_add-place
overflow_add-place t c =
    let x = text_of (goal.at.overflow_add-place t c).After-replay_sound-r in
    omega (arith, x.inside, c.requires.2)

pub write_rest-requires : goal.write_rest-requires
write_rest-requires t c =
    let p = goal.at.write_rest-requires t c in
    let x = text_of p.After-replay_sound-r in
    let l = length_rest c.args.journal.now c.replay_sound-r.result.passed in
    let w = c.write_lines.ensures in
    let same = c.replay_sound-r.auto in
    let fall = x.falls (ap stop_number c.in-BufferShort.is) c.requires.1 in (
      omega (arith, c.decreases),
      (
        x.sound,
        omega (arith, c.requires.1),
        omega (arith, c.requires.2),
        omega (arith, lines-size p.After-write_lines, w.size, w.kept, x.few, c.requires.3),
      ),
    )

-- the lines, and the text of the rest
pub returns-in-BufferShort : goal.returns-in-BufferShort
returns-in-BufferShort t c =
    let a = c.args in
    let x = text_of (goal.at.returns-in-BufferShort t c).After-replay_sound-r in
    let r = c.replay_sound-r in
    let p = r.result.passed in
    let n = lines_short r.result.messages a.journal.now r.new.out in
    let l = length-drop p a.journal.now in
    let m = text_short (decode r.new.board) (a.place + p) (drop p a.journal.now) in
    let more : Writes c.write_lines.new.writer (run_text (decode r.new.board) (a.place + p) (drop p a.journal.now)) c.write_rest.new.writer =
    rw (← part_to_end a.journal.now p) c.write_rest.ensures
    in
    rw (← x.resumed) (Writes-append c.write_lines.ensures more (omega (arith, x.few, x.inside, c.requires.3)))

-- ---- the line of a cut journal

pub overflow_add-place-in-FrameCut : goal.overflow_add-place-in-FrameCut
overflow_add-place-in-FrameCut t c =
    let x = text_of (goal.at.overflow_add-place-in-FrameCut t c).After-replay_sound-r in
    omega (arith, x.inside, c.requires.2)

pub cut-requires-clause-range : goal.cut-requires-clause-range
cut-requires-clause-range t c =
    let x = text_of (goal.at.cut-requires-clause-range t c).After-replay_sound-r in
    omega (arith, x.inside, c.requires.2)

pub cut-requires-clause-room : goal.cut-requires-clause-room
cut-requires-clause-room t c =
    let p = goal.at.cut-requires-clause-room t c in
    let x = text_of p.After-replay_sound-r in
    let w = c.write_lines.ensures in
    omega (arith, lines-size p.After-write_lines, w.size, w.kept, x.few, x.inside, c.requires.3)

pub returns-in-FrameCut : goal.returns-in-FrameCut
returns-in-FrameCut t c =
    let p = goal.at.returns-in-FrameCut t c in
    let x = text_of p.After-replay_sound-r in
    let place = c.args.place + c.replay_sound-r.result.passed in
    let line : Writes c.write_lines.new.writer (cut_line place) c.cut.new.self = c.cut.ensures in
    rw (← x.cut (ap stop_number c.in-FrameCut.is))
    (Writes-append c.write_lines.ensures line (omega (arith, lines-size p.After-write_lines, cut_short place, x.few, x.inside, c.requires.3)))
