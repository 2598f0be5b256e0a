-- The message that bytes are, and what each case of the enum `Message` says.
use Rattle.std.specs.Prelude.{ℕ, ◌+◌, ◌≡◌, List, [], ◌∷◌, Bool, false, cond, length, leb, Result, Ok, Err, Option as Maybe, MatchOption}
use Rattle.std.proofs.Math.Option.{Option, some, none}
use Rattle.layout.specs.Bytes.{bytes_at}
use Rattle.layout.specs.Numbers.{from_le_bytes}
use Rattle.reader.specs.Frames.{is_frame, kind_of, body_of}
use Rattle.reader.specs.Fields.{FieldType, FieldValue, number_value, string_value, out_of_body, fields_fit, field_values}
use Rattle.reader.specs.Kinds.{kind_fields, is_kind}
use Rattle.reader.specs.declared.Login.{Login}
use Rattle.reader.specs.declared.Span.{Span}
use Rattle.reader.specs.declared.Refusal.{Refusal}
use Rattle.reader.specs.declared.Refusal.TheVariants.{Frame, Kind, Body}
use Rattle.reader.specs.declared.Message.{Message}
use Rattle.reader.specs.declared.Message.TheVariants.{StartSys, CNUReq, CUser, CPost, CFriendReq, CFriend, DFriend, UUser, UTitlePost, UTextPost, UImgPost, UVisPost, RUser, RNUReq, RAmIAdmin, RTitlePost, RTextPost, RImgPost, RVisPost, ROwnerPost, RFriendReqToMe, RFriendReqFromMe, LPendingUReqs, LAllUsers, LAllPosts, LFriendReqs, LFriends, LFriendsOf, Refused}

-- the number, a kind or a refusal, and the values of the fields in their order
pub record Content : Type 0 where
  pub code : ℕ
  pub values : List FieldValue

abbrev pub content : ℕ → List FieldValue → Content
content n vs = record { code = n; values = vs }

-- ---- bytes: 3 for a bad frame, then 4 for an unknown kind, then 5 for a body that does not fit its fields

unfoldable pub body_content : ℕ → Option (List FieldType) → List ℕ → Content
body_content kind none body = content 4 []
body_content kind (some fs) body = cond (fields_fit fs body 0) (content kind (field_values fs body 0)) (content 5 [])

unfoldable pub message_content : List ℕ → Content
message_content msg = cond (is_frame msg) (body_content (kind_of msg) (kind_fields (kind_of msg)) (body_of msg)) (content 3 [])

-- the reader accepts bytes: their code is a kind, and no refusal
unfoldable pub is_accepted : List ℕ → Bool
is_accepted msg = is_kind (message_content msg).code

-- ---- the enum

-- the string that a span of the body names
unfoldable pub span_value : List ℕ → Span → FieldValue
span_value body s = cond (leb (s.start + s.len) (length body)) (string_value s.start (bytes_at body s.start s.len)) out_of_body

-- U P, and what follows them
abbrev pub login_values : Login → List FieldValue → List FieldValue
login_values l vs = number_value l.user ∷ number_value l.password ∷ vs

abbrev pub refusal_number : Refusal → ℕ
refusal_number Frame = 3
refusal_number Kind = 4
refusal_number Body = 5

unfoldable pub enum_content : List ℕ → Message → Content
enum_content body (StartSys l) = content 0x0101 (login_values l [])
enum_content body (CNUReq u note) = content 0x0201 (number_value u ∷ span_value body note ∷ [])
enum_content body (CUser l v p2) = content 0x0202 (login_values l (number_value v ∷ number_value p2 ∷ []))
enum_content body (CPost l n title) = content 0x0203 (login_values l (number_value n ∷ span_value body title ∷ []))
enum_content body (CFriendReq l v note) = content 0x0204 (login_values l (number_value v ∷ span_value body note ∷ []))
enum_content body (CFriend l v) = content 0x0205 (login_values l (number_value v ∷ []))
enum_content body (DFriend l v) = content 0x0301 (login_values l (number_value v ∷ []))
enum_content body (UUser l p2 name info) =
    content 0x0401 (login_values l (number_value p2 ∷ span_value body name ∷ span_value body info ∷ []))
enum_content body (UTitlePost l n title) = content 0x0402 (login_values l (number_value n ∷ span_value body title ∷ []))
enum_content body (UTextPost l n text) = content 0x0403 (login_values l (number_value n ∷ span_value body text ∷ []))
enum_content body (UImgPost l n picture) = content 0x0404 (login_values l (number_value n ∷ number_value picture ∷ []))
enum_content body (UVisPost l n visibility) = content 0x0405 (login_values l (number_value n ∷ number_value visibility ∷ []))
enum_content body (RUser l v) = content 0x0501 (login_values l (number_value v ∷ []))
enum_content body (RNUReq l v) = content 0x0502 (login_values l (number_value v ∷ []))
enum_content body (RAmIAdmin l) = content 0x0503 (login_values l [])
enum_content body (RTitlePost l n) = content 0x0504 (login_values l (number_value n ∷ []))
enum_content body (RTextPost l n) = content 0x0505 (login_values l (number_value n ∷ []))
enum_content body (RImgPost l n) = content 0x0506 (login_values l (number_value n ∷ []))
enum_content body (RVisPost l n) = content 0x0507 (login_values l (number_value n ∷ []))
enum_content body (ROwnerPost l n) = content 0x0508 (login_values l (number_value n ∷ []))
enum_content body (RFriendReqToMe l v) = content 0x0509 (login_values l (number_value v ∷ []))
enum_content body (RFriendReqFromMe l v) = content 0x050a (login_values l (number_value v ∷ []))
enum_content body (LPendingUReqs l) = content 0x0601 (login_values l [])
enum_content body (LAllUsers l) = content 0x0602 (login_values l [])
enum_content body (LAllPosts l) = content 0x0603 (login_values l [])
enum_content body (LFriendReqs l) = content 0x0604 (login_values l [])
enum_content body (LFriends l) = content 0x0605 (login_values l [])
enum_content body (LFriendsOf l v) = content 0x0606 (login_values l (number_value v ∷ []))
enum_content body (Refused r) = content (refusal_number r) []

-- the same of a message that is read, or refused
abbrev pub read_content : List ℕ → Result Message Refusal → Content
read_content body (Ok m) = enum_content body m
read_content body (Err r) = content (refusal_number r) []

-- ---- what the family readers take from a body

abbrev pub login_at : List ℕ → Login
login_at body = record { user = from_le_bytes (bytes_at body 0 4); password = from_le_bytes (bytes_at body 4 8) }

abbrev pub span_at : List ℕ → ℕ → Span
span_at body at = record { start = at + 2; len = from_le_bytes (bytes_at body at 2) }

-- whether a body fits the fields of its kind
unfoldable pub body_fits : Option (List FieldType) → List ℕ → Bool
body_fits none body = false
body_fits (some fs) body = fields_fit fs body 0

-- what the reader of a family gives: the message that a body of a kind is, or none where it does not fit
abbrev pub FamilyRead : Maybe Message → ℕ → List ℕ → Type 0
FamilyRead o kind body =
    MatchOption o (content 5 [] ≡ body_content kind (kind_fields kind) body)
    (λ (m : Message). enum_content body m ≡ body_content kind (kind_fields kind) body)
