-- `sound` meets its contract: the length and the counts, no users, and then the clauses group by group.
use Prim.Native.Nat.{ℕ}
use mathlib.Core.List.{List}
use mathlib.Core.Path.{◌≡◌, sym, ap, ◌∙◌}
use borrow.Author.Tests.{eqb-true, eqb-false}
use Rattle.std.proofs.Common.{rules}
use Rattle.layout.specs.Bytes.{bytes_at, all_zero}
use Rattle.model.specs.Board.{board_size}
use Rattle.model.specs.Soundness.{is_sound}
use Rattle.board.proofs.SoundTheorems.{all_groups, uncounted_fails, sound-empty, sound-groups}
use Rattle.board.proofs.sound.Goals as goal

pub returns-in_default : goal.returns-in_default
returns-in_default c = uncounted_fails c.args.board.now c.in_default.ensures

pub returns-then-is_empty : goal.returns-then-is_empty
returns-then-is_empty c =
    let counted = c.in-Some.counted in
    let same = c.in-Some.ensures in
    c.all_zero.ensures ∙ ap (λ (b : List ℕ). all_zero (bytes_at b 0 board_size)) (sym same)
    ∙ sound-empty counted (eqb-true _ 0 (sym c.is_empty.ensures ∙ c.if-is_empty.true)) ∙ ap is_sound same

pub returns-then-notes_sound : goal.returns-then-notes_sound
returns-then-notes_sound c =
    let counted = c.in-Some.counted in
    let groups : c.posts_sound.result ≡ all_groups counted.bytes.now = search rules in
    groups ∙ sound-groups counted (eqb-false _ 0 (sym c.is_empty.ensures ∙ c.if-is_empty.false)) ∙ ap is_sound c.in-Some.ensures

pub returns-else-notes_sound : goal.returns-else-notes_sound
returns-else-notes_sound c =
    let counted = c.in-Some.counted in
    let groups : c.if-friends_sound.value ≡ all_groups counted.bytes.now = search rules in
    groups ∙ sound-groups counted (eqb-false _ 0 (sym c.is_empty.ensures ∙ c.if-is_empty.false)) ∙ ap is_sound c.in-Some.ensures
