-- Theorems about reader and writer, by induction on the list of fields:
--     read_back             the reader accepts the frame that was written, and what it takes from it is the message, strings compared by their bytes
--     written_again         of a frame that the reader accepts the writer makes the same bytes again
--     five_if_not_carried   5 exactly for a message that no frame carries
--     decoded-back          read_back of a message that was given as the enum and comes back as the enum
--     decoded_again         written_again by the message that `decode` gave
--     words_again           written_again by the words that `read` gave
-- A frame carries a message exactly if the fields of its kind can hold its values (`held_carried`, `carried-held`), and the writer tests just that.
use Prim.Native.Nat.{ℕ}
use mathlib.Core.Path.{◌≡◌, refl, sym, ap, ap₂, ◌∙◌, subst}
use mathlib.Core.List.{List, [], ◌∷◌, map}
use mathlib.Core.Bool.{Bool, true≢false, ◌&&◌}
use lib.ListN.{drop}
use Rattle.layout.proofs.BooleanLaws.{refuted}
use Rattle.layout.proofs.NumberLaws.{bytes_drop}
use Rattle.reader.specs.Frames.{kind_of, body_of, frame_bytes}
use Rattle.reader.specs.Fields.{FieldType, uint, string, FieldValue, number_value, string_value, out_of_body, field_values, value_fits, values_fit}
use Rattle.reader.specs.Kinds.{kind_fields}
use Rattle.reader.specs.Messages.{Content, content, enum_content}
use Rattle.reader.proofs.FrameLaws.{frame_again}
use Rattle.reader.proofs.MessageTheorems.{values-fit, fields_laid, AcceptedFrame, accepted-frame}
use Rattle.writer.specs.Encoding.{WriteResult, put_whole, encode_of}
use Rattle.writer.specs.RoundTrips.{without_place, by_bytes, frame_in, Carries, ReadBack, WrittenAgain, FiveIfNotCarried, DecodedBack, DecodedAgain, WordsAgain}
use Rattle.writer.proofs.CarryLaws.{frame_carries}
use Rattle.writer.proofs.EncodingLaws.{put_in_front, is_held, Held, held, is_held_lem, frame_of, held-encoded, five_not_held, not_held-five, zero_held}
use Rattle.writer.proofs.WordLaws.{words_say}

-- ---- a frame carries a message exactly if the fields of its kind can hold its values

held_carried : (c : Content) (h : Held c) → Carries (frame_of c h) c
held_carried c h = frame_carries c.code h.fields c.values h.known h.fit

-- what the reader takes from an accepted frame
abbrev taken_from : (frame : List ℕ) → AcceptedFrame frame → Content
taken_from frame a = content (kind_of frame) (field_values a.fields (body_of frame) 0)

abbrev taken-held : (frame : List ℕ) (a : AcceptedFrame frame) → Held (taken_from frame a)
taken-held frame a = record { fields = a.fields; known = a.known; fit = values-fit a.fields (body_of frame) 0 a.fit }

-- the places of strings do not count
value_by_bytes : (f : FieldType) (v : FieldValue) → value_fits f v ≡ value_fits f (without_place v)
unfolding value_fits without_place
value_by_bytes (uint w least greatest) (number_value n) = refl
value_by_bytes (uint w least greatest) (string_value place x) = refl
value_by_bytes (uint w least greatest) out_of_body = refl
value_by_bytes (string limit) (number_value n) = refl
value_by_bytes (string limit) (string_value place x) = refl
value_by_bytes (string limit) out_of_body = refl

values_by_bytes : (fs : List FieldType) (vs : List FieldValue) → values_fit fs vs ≡ values_fit fs (map without_place vs)
unfolding values_fit
values_by_bytes [] [] = refl
values_by_bytes [] (v ∷ vs) = refl
values_by_bytes (f ∷ fs) [] = refl
values_by_bytes (f ∷ fs) (v ∷ vs) = ap₂ (λ (s t : Bool). s && t) (value_by_bytes f v) (values_by_bytes fs vs)

same-held : (c d : Content) → by_bytes c ≡ by_bytes d → Held c → Held d
unfolding by_bytes
same-held c d same h =
    let fs : List FieldType = h.fields in
    record {
      fields = fs;
      known = ap (λ (x : Content). kind_fields x.code) (sym same) ∙ h.known;
      fit = values_by_bytes fs d.values ∙ ap (λ (x : Content). values_fit fs x.values) (sym same) ∙ sym (values_by_bytes fs c.values) ∙ h.fit;
    }

carried-held : (frame : List ℕ) (c : Content) → Carries frame c → Held c
carried-held frame c k =
    let a : AcceptedFrame frame = accepted-frame frame k.0 in
    same-held (taken_from frame a) c (ap by_bytes (sym a.read) ∙ k.1) (taken-held frame a)

-- ---- of any message

pub read_back : ReadBack
read_back c b e =
    let h : Held c = held c (zero_held c b e) in
    let w : encode_of c b ≡ put_whole (frame_of c h) b = held-encoded c h b in
    let front : frame_in (encode_of c b) ≡ frame_of c h = ap frame_in w ∙ put_in_front (frame_of c h) b (ap (λ (r : WriteResult). r.number) (sym w) ∙ e) in
    subst (λ (f : List ℕ). Carries f c) (sym front) (held_carried c h)

pub written_again : WrittenAgain
unfolding body_of
written_again frame b y h =
    let a : AcceptedFrame frame = accepted-frame frame h in
    ap (λ (c : Content). encode_of c b) a.read
    ∙ held-encoded (taken_from frame a) (taken-held frame a) b
    ∙ ap (λ (f : List ℕ). put_whole f b)
    (ap (frame_bytes (kind_of frame)) (fields_laid (drop 4 frame) (bytes_drop 4 frame y) a.fields 0 a.fit) ∙ frame_again frame y a.whole)

pub five_if_not_carried : FiveIfNotCarried
five_if_not_carried c b = (
  λ e frame k. true≢false (sym (is_held_lem c (carried-held frame c k)) ∙ five_not_held c b e),
  λ none. not_held-five c b (refuted (is_held c) λ t. let h : Held c = held c t in none (frame_of c h) (held_carried c h)),
)

-- ---- of a message that `decode` gave, and of the words that `read` gave

pub decoded-back : DecodedBack
decoded-back lent b m n e d = ap by_bytes d ∙ (read_back (enum_content lent m) b e).1

pub decoded_again : DecodedAgain
decoded_again frame b m y h d = ap (λ (c : Content). encode_of c b) d ∙ written_again frame b y h

pub words_again : WordsAgain
words_again frame b y h = ap (λ (c : Content). encode_of c b) (words_say frame h) ∙ written_again frame b y h
