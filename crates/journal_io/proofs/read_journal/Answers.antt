-- `read_journal` meets its contract: what a read gives stands right behind what was read before, and the reader has given both.
use Rattle.std.proofs.Common.{rules, ◌≡◌, ℕ, ◌+◌, ◌-◌, ◌≤◌, List, ◌++◌, arith, length, take, drop, sym, ap, ◌∙◌, subst, le_refl, drop_at, length-take-le}
use Rattle.std.proofs.lemmas.Slice.{take-put_mid_below}
use Rattle.std.specs.Io.KnownBytes.{Consumes}
use Rattle.std.proofs.KnownBytes.{Consumes-trans}
use borrow.Rule.Slice.PartMut.{put_mid, post_of}
use lib.Seq.{take-add, take-append-le}
use Rattle.journal_io.proofs.read_journal.Goals as goal

-- the first bytes of a part that was put back
put_behind : (at room n : ℕ) (xs ys : List ℕ) → at ≤ length xs → n ≤ length ys → take n (drop at (put_mid at room xs ys)) ≡ take n ys
put_behind at room n xs ys within fits =
    let after = post_of at room xs in
    ap (take n) (drop_at (take at xs) (ys ++ after) at (length-take-le at xs within)) ∙ take-append-le n ys after fits

-- .. behind those that stood before it
both : (at room n : ℕ) (xs ys : List ℕ) → at ≤ length xs → n ≤ length ys → take at xs ++ take n ys ≡ take (at + n) (put_mid at room xs ys)
both at room n xs ys within fits =
    let j = put_mid at room xs ys in
    let front : take at j ≡ take at xs = take-put_mid_below _ _ _ _ _ (le_refl _) within in
    ap (λ l. take at xs ++ l) (sym (put_behind at room n xs ys within fits)) ∙ ap (λ l. l ++ take n (drop at j)) (sym front) ∙ sym (take-add at n j)

pub loop-done-preserved : goal.loop-done-preserved
loop-done-preserved g c =
    let h = c.loop-done in
    let within : h.done ≤ length h.journal = omega (arith, h.invariant.0, h.invariant.1) in
    let joined = both h.done (length h.journal - h.done) c.in-Ok.more h.journal c.read.new.buf within c.in-Ok.ensures.bound.0 in
    (search rules, search rules, subst (Consumes _ _) joined (Consumes-trans _ _ _ _ _ h.invariant.2 c.in-Ok.ensures.bytes.0))
