-- Theorems about the fields of a body and the messages that `decode` gives:
--     values-fit, accepted-fit     the values of fields that fit, and of an accepted message, are what their types allow
--     fields_laid, accepted_laid   the fields laid end to end are the body
--     accepted-frame               a frame that the reader accepts has a known kind and the values of its fields
--     refused-message              bytes that it refuses have the number of a refusal and no values
--     spans_within                 the strings of a message lie within its body, and their lengths within the limits
--     span_names                   what such a span names
use Prim.Native.Nat.{ℕ, zero, suc, ◌+◌, ◌≤◌, ◌<◌}
use native.Mathlib.Nat.{not-suc-le-zero, le_of_suc-le-suc}
use native.Mathlib.Omega.{arith}
use mathlib.Core.Path.{◌≡◌, refl, sym, ap, ◌∙◌}
use mathlib.Core.List.{List, [], ◌∷◌, ◌++◌, append_assoc}
use mathlib.Core.Bool.{Bool, true, false, false≢true, ◌&&◌, cond}
use mathlib.Core.Option.{Option, some, none, some-injective}
use lib.ListN.{length, drop, get_or}
use lib.Seq.{drop-length}
use lib.Dec.{leb, lit<}
use lib.Pow.{are_bytes}
use borrow.Author.Tests.{le-leb, leb-true, eqb-true}
use Rattle.layout.specs.Bytes.{bytes_at}
use Rattle.layout.specs.Numbers.{to_le_bytes}
use Rattle.layout.specs.StringFields.{string_bytes}
use Rattle.layout.proofs.BooleanLaws.{and_left, and_right, and_both}
use Rattle.layout.proofs.ByteLaws.{length-bytes_at, drop-split}
use Rattle.layout.proofs.NumberLaws.{to_from, bytes-bytes_at, bytes_drop}
use Rattle.layout.proofs.StringFieldLaws.{string_le}
use Rattle.reader.specs.Frames.{is_frame, kind_of, body_of}
use Rattle.reader.specs.Fields.{FieldType, uint, string, name_limit, info_limit, title_limit, text_limit, note_limit, FieldValue, string_value, out_of_body, number_in, string_in, field_fits, field_end, fields_fit, field_value, field_values, value_fits, values_fit, value_bytes, values_bytes}
use Rattle.reader.specs.Kinds.{kinds, fields_in, kind_fields, is_known, is_kind}
use Rattle.reader.specs.Messages.{Content, content, body_content, message_content, is_accepted, span_value, refusal_number, enum_content}
use Rattle.reader.specs.Spans.{SpanWithin, SpansWithin}
use Rattle.reader.specs.declared.Span.{Span}
use Rattle.reader.specs.declared.Refusal.{Refusal}
use Rattle.reader.specs.declared.Refusal.TheVariants.{Frame, Kind, Body}
use Rattle.reader.specs.declared.Message.{Message}
use Rattle.reader.specs.declared.Message.TheVariants.{StartSys, CNUReq, CUser, CPost, CFriendReq, CFriend, DFriend, UUser, UTitlePost, UTextPost, UImgPost, UVisPost, RUser, RNUReq, RAmIAdmin, RTitlePost, RTextPost, RImgPost, RVisPost, ROwnerPost, RFriendReqToMe, RFriendReqFromMe, LPendingUReqs, LAllUsers, LAllPosts, LFriendReqs, LFriends, LFriendsOf, Refused}
use Rattle.reader.proofs.FieldLaws.{first_fits, rest-fits, number_width, string-length, string_end, string_is}

-- ---- the values of fields that fit

value-fits : (f : FieldType) (s : List ℕ) (at : ℕ) → field_fits f s at ≡ true → value_fits f (field_value f s at) ≡ true
unfolding field_fits field_value value_fits
value-fits (uint w least greatest) s at e = and_right (leb (at + w) (length s)) (leb least (number_in s at w) && leb (number_in s at w) greatest) e
value-fits (string limit) s at e = string_is limit s at e

pub values-fit : (fs : List FieldType) (s : List ℕ) (at : ℕ) → fields_fit fs s at ≡ true → values_fit fs (field_values fs s at) ≡ true
unfolding field_values values_fit
values-fit [] s at e = refl
values-fit (f ∷ fs) s at e =
    and_both (value-fits f s at (first_fits f fs s at e)) (values-fit fs s (field_end f s at) (rest-fits f fs s at e))

-- ---- the fields laid end to end

module _ (s : List ℕ) (y : are_bytes s ≡ true) where
  -- a field's bytes, and what stands behind it
  field_laid : (f : FieldType) (at : ℕ) → field_fits f s at ≡ true → value_bytes f (field_value f s at) ++ drop (field_end f s at) s ≡ drop at s
  unfolding field_value field_end value_bytes string_bytes
  field_laid (uint w least greatest) at e =
      ap (λ (x : List ℕ). x ++ drop (at + w) s)
      (to_from w (bytes_at s at w) (bytes-bytes_at s at w y) (length-bytes_at s at w (number_width w least greatest s at e)))
      ∙ sym (drop-split s at w)
  field_laid (string limit) at e =
      let n : ℕ = number_in s at 2 in
      let l : length (string_in s at) ≡ n = length-bytes_at s (at + 2) n (string_end limit s at e) in
      ap (λ (x : List ℕ). x ++ string_in s at ++ drop (at + 2 + n) s)
      (ap (to_le_bytes 2) l ∙ to_from 2 (bytes_at s at 2) (bytes-bytes_at s at 2 y) (length-bytes_at s at 2 (string-length limit s at e)))
      ∙ append_assoc (bytes_at s at 2) (string_in s at) (drop (at + 2 + n) s)
      ∙ ap (λ (x : List ℕ). bytes_at s at 2 ++ x) (sym (drop-split s (at + 2) n)) ∙ sym (drop-split s at 2)

  pub fields_laid : (fs : List FieldType) (at : ℕ) → fields_fit fs s at ≡ true → values_bytes fs (field_values fs s at) ≡ drop at s
  unfolding fields_fit field_values values_bytes
  fields_laid [] at e = sym (ap (λ (k : ℕ). drop k s) (sym (eqb-true (length s) at e)) ∙ drop-length s)
  fields_laid (f ∷ fs) at e =
      ap (λ (x : List ℕ). value_bytes f (field_value f s at) ++ x) (fields_laid fs (field_end f s at) (rest-fits f fs s at e))
      ∙ field_laid f at (first_fits f fs s at e)

-- ---- the content of a message: accepted or refused

-- a frame that the reader accepts: its kind is known, its body fits the fields of that kind, and its content is their values
pub record AcceptedFrame (msg : List ℕ) : Type 0 where
  pub fields : List FieldType
  pub whole : is_frame msg ≡ true
  pub known : kind_fields (kind_of msg) ≡ some fields
  pub fit : fields_fit fields (body_of msg) 0 ≡ true
  pub read : message_content msg ≡ content (kind_of msg) (field_values fields (body_of msg) 0)

-- bytes that it refuses: the number of the refusal, and no values
abbrev pub RefusedMessage : List ℕ → Type 0
RefusedMessage msg = (r : Refusal) × (message_content msg ≡ content (refusal_number r) [])

data MessageRead (msg : List ℕ) : Type 0 where
  accepts : AcceptedFrame msg → MessageRead msg
  refuses : RefusedMessage msg → MessageRead msg

message-read : (msg : List ℕ) → MessageRead msg
unfolding message_content body_content
message-read msg = by_frame (is_frame msg) refl
  where
    by_fit : (fs : List FieldType) → is_frame msg ≡ true → kind_fields (kind_of msg) ≡ some fs → (t : Bool) → fields_fit fs (body_of msg) 0 ≡ t → MessageRead msg
    by_fit fs whole known true fit = accepts (record { fields = fs; whole = whole; known = known; fit = fit; read = rw (whole, known, fit) })
    by_fit fs whole known false fit = refuses (Body, rw (whole, known, fit))

    by_fields : is_frame msg ≡ true → (o : Option (List FieldType)) → kind_fields (kind_of msg) ≡ o → MessageRead msg
    by_fields whole none known = refuses (Kind, rw (whole, known))
    by_fields whole (some fs) known = by_fit fs whole known (fields_fit fs (body_of msg) 0) refl

    by_frame : (t : Bool) → is_frame msg ≡ t → MessageRead msg
    by_frame true whole = by_fields whole (kind_fields (kind_of msg)) refl
    by_frame false whole = refuses (Frame, rw whole)

-- no refusal has the number of a kind, so `is_accepted` tells the two apart
pub refusal_no_kind : (r : Refusal) → is_kind (refusal_number r) ≡ false
unfolding is_kind kind_fields fields_in kinds
refusal_no_kind Frame = refl
refusal_no_kind Kind = refl
refusal_no_kind Body = refl

pub accepted-frame : (msg : List ℕ) → is_accepted msg ≡ true → AcceptedFrame msg
unfolding is_accepted
accepted-frame msg h = by_read (message-read msg)
  where
    by_read : MessageRead msg → AcceptedFrame msg
    by_read (accepts a) = a
    by_read (refuses (r, e)) = absurd (false≢true (sym (ap (λ (x : Content). is_kind x.code) e ∙ refusal_no_kind r) ∙ h))

pub refused-message : (msg : List ℕ) → is_accepted msg ≡ false → RefusedMessage msg
unfolding is_accepted is_kind
refused-message msg h = by_read (message-read msg)
  where
    by_read : MessageRead msg → RefusedMessage msg
    by_read (accepts a) = absurd (false≢true (sym h ∙ ap (λ (x : Content). is_kind x.code) a.read ∙ ap is_known a.known))
    by_read (refuses r) = r

module _ (msg : List ℕ) (k : ℕ) (vs : List FieldValue) (fs : List FieldType) (t : kind_fields k ≡ some fs) where
  -- its body fits the fields of its kind, and the values are theirs
  pub accepted : content k vs ≡ message_content msg → (fields_fit fs (body_of msg) 0 ≡ true) × (vs ≡ field_values fs (body_of msg) 0)
  unfolding is_accepted is_kind
  accepted e =
      let a : AcceptedFrame msg = accepted-frame msg (ap (λ (x : Content). is_kind x.code) (sym e) ∙ ap is_known t) in
      let same : content k vs ≡ content (kind_of msg) (field_values a.fields (body_of msg) 0) = e ∙ a.read in
      let fields : fs ≡ a.fields = some-injective fs a.fields (sym t ∙ ap kind_fields (ap (λ (x : Content). x.code) same) ∙ a.known) in (
        ap (λ (x : List FieldType). fields_fit x (body_of msg) 0) fields ∙ a.fit,
        ap (λ (x : Content). x.values) same ∙ ap (λ (x : List FieldType). field_values x (body_of msg) 0) (sym fields),
      )

  pub accepted-fit : content k vs ≡ message_content msg → values_fit fs vs ≡ true
  accepted-fit e = let a = accepted e in ap (values_fit fs) a.1 ∙ values-fit fs (body_of msg) 0 a.0

  pub accepted_laid : are_bytes msg ≡ true → content k vs ≡ message_content msg → values_bytes fs vs ≡ body_of msg
  unfolding body_of
  accepted_laid y e = let a = accepted e in ap (values_bytes fs) a.1 ∙ fields_laid (body_of msg) (bytes_drop 4 msg y) fs 0 a.0

-- ---- the strings of a message

pub value_at : (i : ℕ) (fs : List FieldType) (vs : List FieldValue) → values_fit fs vs ≡ true → i < length vs
    → value_fits (get_or fs i (string 0)) (get_or vs i out_of_body) ≡ true
unfolding values_fit
value_at i [] [] e h = absurd (not-suc-le-zero h)
value_at i [] (v ∷ vs) e h = absurd (false≢true e)
value_at i (f ∷ fs) [] e h = absurd (not-suc-le-zero h)
value_at zero (f ∷ fs) (v ∷ vs) e h = and_left (value_fits f v) (values_fit fs vs) e
value_at (suc i) (f ∷ fs) (v ∷ vs) e h = value_at i fs vs (and_right (value_fits f v) (values_fit fs vs) e) (le_of_suc-le-suc h)

pub span_fits : (body : List ℕ) (limit : ℕ) (s : Span) → value_fits (string limit) (span_value body s) ≡ true → SpanWithin body limit s
unfolding value_fits span_value
span_fits body limit s e = by_test (leb (s.start + s.len) (length body)) refl e
  where
    by_test : (t : Bool) → leb (s.start + s.len) (length body) ≡ t
        → value_fits (string limit) (cond t (string_value s.start (bytes_at body s.start s.len)) out_of_body) ≡ true → SpanWithin body limit s
    by_test false q f = absurd (false≢true f)
    by_test true q f =
        let h : s.start + s.len ≤ length body = leb-true (s.start + s.len) (length body) q in
        let l = length-bytes_at body s.start s.len h in
        let m = string_le limit (bytes_at body s.start s.len) f in
        record { inside = h; short = omega arith }

pub span_names : (body : List ℕ) (limit : ℕ) (s : Span) → SpanWithin body limit s → span_value body s ≡ string_value s.start (bytes_at body s.start s.len)
unfolding span_value
span_names body limit s w =
    ap (λ (t : Bool). cond t (string_value s.start (bytes_at body s.start s.len)) out_of_body) (le-leb (s.start + s.len) (length body) w.inside)

-- whatever message meets the contract of `decode`
pub spans_within : (msg : List ℕ) (m : Message) → enum_content (body_of msg) m ≡ message_content msg → SpansWithin (body_of msg) m
unfolding enum_content kind_fields fields_in kinds
spans_within msg (StartSys l) e = tt
spans_within msg (CNUReq u note) e =
    span_fits (body_of msg) note_limit note (value_at 1 _ _ (accepted-fit msg 0x0201 _ _ refl e) (lit< tt))
spans_within msg (CUser l v p2) e = tt
spans_within msg (CPost l n title) e =
    span_fits (body_of msg) title_limit title (value_at 3 _ _ (accepted-fit msg 0x0203 _ _ refl e) (lit< tt))
spans_within msg (CFriendReq l v note) e =
    span_fits (body_of msg) note_limit note (value_at 3 _ _ (accepted-fit msg 0x0204 _ _ refl e) (lit< tt))
spans_within msg (CFriend l v) e = tt
spans_within msg (DFriend l v) e = tt
spans_within msg (UUser l p2 name info) e =
    let f = accepted-fit msg 0x0401 _ _ refl e in
    (span_fits (body_of msg) name_limit name (value_at 3 _ _ f (lit< tt)), span_fits (body_of msg) info_limit info (value_at 4 _ _ f (lit< tt)))
spans_within msg (UTitlePost l n title) e =
    span_fits (body_of msg) title_limit title (value_at 3 _ _ (accepted-fit msg 0x0402 _ _ refl e) (lit< tt))
spans_within msg (UTextPost l n text) e =
    span_fits (body_of msg) text_limit text (value_at 3 _ _ (accepted-fit msg 0x0403 _ _ refl e) (lit< tt))
spans_within msg (UImgPost l n picture) e = tt
spans_within msg (UVisPost l n visibility) e = tt
spans_within msg (RUser l v) e = tt
spans_within msg (RNUReq l v) e = tt
spans_within msg (RAmIAdmin l) e = tt
spans_within msg (RTitlePost l n) e = tt
spans_within msg (RTextPost l n) e = tt
spans_within msg (RImgPost l n) e = tt
spans_within msg (RVisPost l n) e = tt
spans_within msg (ROwnerPost l n) e = tt
spans_within msg (RFriendReqToMe l v) e = tt
spans_within msg (RFriendReqFromMe l v) e = tt
spans_within msg (LPendingUReqs l) e = tt
spans_within msg (LAllUsers l) e = tt
spans_within msg (LAllPosts l) e = tt
spans_within msg (LFriendReqs l) e = tt
spans_within msg (LFriends l) e = tt
spans_within msg (LFriendsOf l v) e = tt
spans_within msg (Refused r) e = tt
