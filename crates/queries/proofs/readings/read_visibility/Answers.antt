-- `read_visibility` meets its contract: the byte written is the visibility of the post at its place, a number of one byte.
use Prim.Native.Nat.{ℕ, ◌<◌}
use native.Mathlib.Omega.{arith}
use mathlib.Core.Path.{refl, sym, ap, ◌∙◌}
use mathlib.Core.List.{[], ◌∷◌}
use lib.Dec.{leb}
use borrow.Author.Tests.{leb-true}
use Rattle.std.proofs.Math.Nat.{mod-eq_of_lt}
use Rattle.model.specs.State.{no_post, post_at, Post}
use Rattle.model.specs.Board.{decode}
use Rattle.model.proofs.ListLaws.{all_default}
use Rattle.model.proofs.RuleLaws.{rules_of}
use Rattle.queries.proofs.readings.read_visibility.Goals.{After-post_visibility}
use Rattle.layout.specs.Numbers.{to_le_bytes}
use Rattle.access.proofs.RecordReads.{numbered_post}
use Rattle.model.specs.Refusals.{query_refusals}
use Rattle.model.specs.Answers.{answer_body}
use Rattle.queries.proofs.QueryLaws.{query-refused, query-answered}
use Rattle.queries.proofs.readings.read_visibility.Goals as goal

pub returns-in_err-place : goal.returns-in_err-place
unfolding query_refusals
returns-in_err-place c = query-refused _ _ _ _ _ c.in_err-place.ensures.number c.from_residual.ensures.1

-- "visibility is 0 or 1"
is_byte : (c : After-post_visibility) → c.post_visibility.result < 256
unfolding post_at
is_byte c =
    let s = decode c.args.board.now.bytes.now in
    let rules = rules_of s c.args.board.now.sound.keeps in
    let low = leb-true _ 1 (all_default (λ (x : Post). leb x.visibility 1) no_post refl s.posts rules.visibilities c.in_ok-place.place) in
    omega (arith, c.post_visibility.ensures)

pub overflow_cast-post_visibility : goal.overflow_cast-post_visibility
overflow_cast-post_visibility c = omega (arith, is_byte c)

pub returns : goal.returns
unfolding query_refusals answer_body to_le_bytes
returns c =
    let placed = c.in_ok-place.ensures in
    query-answered _ _ _ placed.number c.write_field.ensures
    (ap (λ (x : ℕ). x ∷ []) (sym (mod-eq_of_lt (is_byte (goal.at.returns c).After-post_visibility)))
    ∙ ap (to_le_bytes 1) (numbered_post _ _ (λ (x : Post). x.visibility) placed.place c.post_visibility.ensures))
