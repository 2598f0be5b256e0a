-- The goals of `words_zero` that need a hand.
use Prim.Native.Nat.{ℕ, ◌+◌, ◌-◌, ◌*◌, ◌%◌, ◌^◌}
use native.Mathlib.Nat.{add-zero}
use native.Mathlib.Omega.{arith}
use mathlib.Core.List.{List, [], ◌∷◌, ◌++◌}
use mathlib.Core.Bool.{true}
use mathlib.Core.Path.{◌≡◌, refl, ap, ap₂, ◌∙◌}
use lib.ListN.{length}
use lib.Dec.{eqb, ltb}
use lib.Pow.{are_bytes}
use borrow.Author.Tests.{eq-eqb}
use Rattle.std.proofs.lemmas.List.{length_push}
use Rattle.layout.specs.Bytes.{bytes_at}
use Rattle.layout.specs.Numbers.{from_le_bytes}
use Rattle.layout.proofs.BooleanLaws.{chain_goes_on}
use Rattle.layout.proofs.ByteLaws.{length-bytes_at, bytes_at_all}
use Rattle.layout.proofs.NumberLaws.{bytes_of}
use Rattle.layout.proofs.RunLaws.{gather_next}
use Rattle.layout.proofs.WordLaws.{word_zero, words_end, chunk-fits, chunk_word, chunk-rest}
use Rattle.layout.proofs.string.words_zero.Goals as goal

pub loop-word-init : goal.loop-word-init
unfolding bytes_at
loop-word-init c =
    let a = c.args in
    let s = c.chunks_exact-word-items.ensures in
    let i = c.into_iter-word-iterator.ensures.into_iter_gives in
    record {
      size = ap (λ t. t.size) i ∙ s.size;
      in_run = omega arith;
      left = rw add-zero (ap (λ t. t.rest.now) i ∙ s.rest);
      gathered = rw add-zero refl;
    }

pub loop-word-preserved : goal.loop-word-preserved
loop-word-preserved c =
    let a = c.args in
    let b : List ℕ = a.b.now in
    let l = c.loop-word in
    let i = l.invariant in
    let p : ℕ = a.at + 8 * length l.yielded in
    let s = c.in-Some.ensures.steps in
    let w : List ℕ = c.in-Some.word.now in
    let next : a.at + 8 * length (l.yielded ++ (c.in-Some.word ∷ [])) ≡ p + 8 = omega (arith, length_push l.yielded c.in-Some.word) in
    let size : length w ≡ 8 = s.1.1 ∙ i.size in
    let fits = chunk-fits b p a.end w l.word-iterator.rest.now c.next.new.self.rest.now i.in_run c.requires.2 i.left s.1.0 size in
    let word = chunk_word b p a.end w l.word-iterator.rest.now c.next.new.self.rest.now i.in_run c.requires.2 i.left s.1.0 size in
    let rest = chunk-rest b p a.end w l.word-iterator.rest.now c.next.new.self.rest.now i.in_run c.requires.2 i.left s.1.0 size in
    let zero =
    ap (λ (x : ℕ). eqb x 0) (c.read_u64-gathered.ensures ∙ ap from_le_bytes (bytes_at_all w 8 size ∙ word)) ∙ word_zero (bytes_at b p 8)
    in
    record {
      size = s.0 ∙ i.size;
      in_run = rw next fits;
      left = rw next rest;
      gathered = rw next (gather_next b p a.end l.gathered 8 c.read_u64-gathered.result (omega arith) zero ∙ i.gathered);
    }

pub returns : goal.returns
unfolding bytes_at
returns c =
    let l = c.loop-word in
    let a = c.args in
    let b : List ℕ = a.b.now in
    let i = l.invariant in
    let p : ℕ = a.at + 8 * length l.yielded in
    let y : are_bytes b ≡ true = bytes_of b (λ i h. omega (arith, c.type_inv.b i)) in
    let few = c.in-None.ensures.steps.1.0 in
    let rest = ap length i.left ∙ length-bytes_at b p (a.end - p) (omega arith) in
    let run = length-bytes_at b a.at (a.end - a.at) (omega arith) in
    let seen : 8 - length (bytes_at b a.at (a.end - a.at)) % 8 ≡ 8 - (a.end - p) = omega arith in
    chain_goes_on (eqb l.gathered 0) _ (eq-eqb l.gathered 0 c.if-gathered-ne0.false)
    (c.fits_width.ensures ∙ ap₂ (λ (w k : ℕ). ltb w (256 ^ k)) c.read_u64.ensures seen
    ∙ words_end b p a.end y i.in_run (omega arith) c.requires.1)
    ∙ i.gathered
