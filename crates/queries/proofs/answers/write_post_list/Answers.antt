-- The goals of `write_post_list` that need a hand.
use Prim.Native.Nat.{◌+◌}
use native.Mathlib.Omega.{arith}
use mathlib.Core.Path.{ap, ◌∙◌}
use Rattle.model.specs.State.{user_at}
use Rattle.model.specs.Lookups.{owner_of}
use Rattle.model.specs.Board.{decode}
use Rattle.model.specs.Answers.{post_entry}
use Rattle.queries.specs.QueryResults.{head_size}
use Rattle.model.proofs.SoundBoards.{posts-limit}
use Rattle.queries.proofs.ListWrites.{no_entries, post_added_lem, posts_all}
use Rattle.queries.proofs.answers.write_post_list.Goals as goal

pub loop-i-init : goal.loop-i-init
loop-i-init c = record {
  few = omega (arith, posts-limit c.args.board.now.sound);
  written = no_entries (post_entry (decode c.args.board.now.bytes.now)) _ (head_size + 2);
}

pub loop-i-preserved : goal.loop-i-preserved
unfolding owner_of
loop-i-preserved c =
    let l = c.loop-i in
    let s = decode c.args.board.now.bytes.now in
    let k = c.count-m.ensures in
    let owner = c.post_owner.ensures in record {
      few = l.invariant.few;
      written = post_added_lem s _ l.i l.invariant.written (omega arith) (posts-limit c.args.board.now.sound) (omega arith) c.post_number.ensures
          (c.user_number.ensures ∙ ap (λ j. (user_at s j).number) owner) c.write_number-in-loop-i.ensures c.write_number-in-loop-i-2.ensures;
    }

pub returns : goal.returns
returns c =
    let a = c.args in
    let n = c.count-m.ensures in
    posts_all (decode a.board.now.bytes.now) a.out.now c.loop-i.i c.requires (posts-limit c.args.board.now.sound) n
    c.write_number.ensures (omega arith) c.loop-i.invariant.written
