-- Theorems about how much is written:
--     frame-limit   a frame has at most 278 bytes: a head of four, and a body of 274 at most
--     words-limit   a message has at most seven words
use Prim.Native.Nat.{ℕ, ◌≤◌}
use native.Mathlib.Omega.{arith}
use mathlib.Core.Path.{◌≡◌, ap, ◌∙◌}
use mathlib.Core.List.{List}
use mathlib.Core.Bool.{true}
use lib.ListN.{length}
use borrow.Table.Steps.{cases}
use Rattle.reader.specs.Frames.{kind_of, body_of}
use Rattle.reader.specs.Fields.{values_bytes}
use Rattle.reader.specs.Messages.{Content, message_content, is_accepted}
use Rattle.reader.proofs.FrameLaws.{length-frame}
use Rattle.reader.proofs.MessageTheorems.{AcceptedFrame, accepted-frame}
use Rattle.writer.specs.Encoding.{WriteResult, encode_of}
use Rattle.writer.specs.RoundTrips.{FrameLimit, WordsLimit}
use Rattle.writer.specs.Words.{word_count, listed_fields, values_words, read_of}
use Rattle.writer.proofs.EncodingLaws.{put-within, is_held, Held, held, frame_of, held-encoded, not_held-encoded}
use Rattle.writer.proofs.SizeLaws.{total, small-body, few_words}
use Rattle.writer.proofs.WordLaws.{words-counted, read-accepted, read_not_accepted}

abbrev written : WriteResult → ℕ
written r = r.written

pub frame-limit : FrameLimit
frame-limit c b = cases (is_held c) (λ t. carried (held c t)) (λ t. omega (arith, ap written (not_held-encoded c b t)))
  where
    carried : Held c → (encode_of c b).written ≤ 278
    carried h =
        let body : List ℕ = values_bytes h.fields c.values in
        let small : length body ≤ 274 = small-body c.code h.fields c.values h.known h.fit in
        omega (arith, ap written (held-encoded c h b), put-within (frame_of c h) b, length-frame c.code body)

pub words-limit : WordsLimit
words-limit msg b = cases (is_accepted msg) accepted (λ t. omega (arith, ap written (read_not_accepted msg b t)))
  where
    accepted : is_accepted msg ≡ true → (read_of (message_content msg) b).written ≤ 7
    accepted t =
        let a : AcceptedFrame msg = accepted-frame msg t in
        let count = ap (λ (x : Content). length (values_words x.values)) a.read ∙ words-counted (body_of msg) a.fields 0 in
        let few : total word_count a.fields ≤ 7 = unfold listed_fields in (rw a.known at (few_words (kind_of msg))) in
        omega (arith, ap written (read-accepted msg b t), put-within (values_words (message_content msg).values) b)
