-- Worked examples, computed on the definitions. The frames are worked out by hand from document 01: L, kind, and the fields in their order.
use Prim.Native.Nat.{ℕ, ◌+◌, ◌-◌, ◌^◌}
use mathlib.Core.Path.{◌≡◌, refl}
use mathlib.Core.List.{List, [], ◌∷◌, ◌++◌, map}
use mathlib.Core.Bool.{true, false}
use lib.ListN.{length, replicate}
use lib.Dec.{lit<}
use Rattle.layout.specs.Bytes.{bytes_at, patch}
use Rattle.layout.specs.Numbers.{to_le_bytes, from_le_bytes}
use Rattle.layout.specs.StringFields.{is_string, string_bytes}
use Rattle.reader.specs.Frames.{length_field, frame_length_up_to, is_frame, kind_of, body_of, frame_bytes}
use Rattle.reader.specs.Fields.{number_value, string_value, out_of_body, field_fits, field_end, fields_fit, field_value, field_values, value_fits, values_fit, value_bytes, values_bytes}
use Rattle.reader.specs.Kinds.{kinds, fields_in, kind_fields, is_kind}
use Rattle.reader.specs.Messages.{Content, content, body_content, message_content, is_accepted, enum_content, span_value}
use Rattle.reader.specs.declared.Login.{Login}
use Rattle.reader.specs.declared.Span.{Span}
use Rattle.reader.specs.declared.Message.{Message}
use Rattle.reader.specs.declared.Message.TheVariants.{StartSys, CNUReq, CUser, CPost, CFriendReq, CFriend, DFriend, UUser, UTitlePost, UTextPost, UImgPost, UVisPost, RUser, RNUReq, RAmIAdmin, RTitlePost, RTextPost, RImgPost, RVisPost, ROwnerPost, RFriendReqToMe, RFriendReqFromMe, LPendingUReqs, LAllUsers, LAllPosts, LFriendReqs, LFriends, LFriendsOf, Refused}
use Rattle.reader.specs.declared.Refusal.TheVariants.{Frame, Kind, Body}
use Rattle.writer.specs.Encoding.{WriteResult, result, put_whole, encode_fields, encode_of}
use Rattle.writer.specs.Reasons.{Reason, below_least, above_greatest, over_limit, past_lent, string_for_number, nothing_for_number, number_for_string, no_kind, first, later, missing, left_over}
use Rattle.writer.specs.RoundTrips.{without_place, by_bytes, frame_in}
use Rattle.writer.specs.Words.{word_count, word_value, word_values, listed_fields, word_content, value_words, values_words, read_of}

-- ---- an example: what the definition gives, and what it should. The buffer holds 7s before

record Example : Type 0 where
  computed : WriteResult
  expected : WriteResult

-- the frame is written, into a buffer with so much more room
abbrev written : Content → ℕ → List ℕ → Example
written c more frame = record { computed = encode_of c (replicate (length frame + more) 7); expected = result 0 (length frame) (frame ++ replicate more 7) }

-- nothing is written
abbrev refused : Content → ℕ → ℕ → Example
refused c room number = record { computed = encode_of c (replicate room 7); expected = result number 0 (replicate room 7) }

-- ---- what messages are made of

-- the 300 lent bytes: "oh, Hi", then letters
abbrev lent : List ℕ
lent = 111 ∷ 104 ∷ 44 ∷ 32 ∷ 72 ∷ 105 ∷ replicate 294 97

-- a message is given as the enum or as words
abbrev message : Message → Content
message = enum_content lent

abbrev words : ℕ → List ℕ → Content
words = word_content lent

abbrev login : Login
login = record { user = 7; password = 1 }

abbrev nobody : Login
nobody = record { user = 0; password = 1 }

abbrev span : ℕ → ℕ → Span
span start len = record { start = start; len = len }

abbrev oh : Span
oh = span 0 2

abbrev hi : Span
hi = span 4 2

-- their bytes: U P, a staff or post number 9, "Hi", and n letters
abbrev user_bytes : List ℕ
user_bytes = 7 ∷ 0 ∷ 0 ∷ 0 ∷ 1 ∷ 0 ∷ 0 ∷ 0 ∷ 0 ∷ 0 ∷ 0 ∷ 0 ∷ []

abbrev nine : List ℕ
nine = 9 ∷ 0 ∷ 0 ∷ 0 ∷ []

abbrev hi_bytes : List ℕ
hi_bytes = 2 ∷ 0 ∷ 72 ∷ 105 ∷ []

abbrev letters : ℕ → List ℕ
letters n = replicate n 97

-- ---- messages of the enum

-- each kind, into a buffer of just its length
kind_examples : List Example
kind_examples =
    written (message (StartSys login)) 0 (14 ∷ 0 ∷ 0x01 ∷ 0x01 ∷ user_bytes)
    ∷ written (message (CNUReq 7 hi)) 0 (10 ∷ 0 ∷ 0x01 ∷ 0x02 ∷ 7 ∷ 0 ∷ 0 ∷ 0 ∷ hi_bytes)
    ∷ written (message (CUser login 9 5)) 0 (26 ∷ 0 ∷ 0x02 ∷ 0x02 ∷ user_bytes ++ nine ++ (5 ∷ 0 ∷ 0 ∷ 0 ∷ 0 ∷ 0 ∷ 0 ∷ 0 ∷ []))
    ∷ written (message (CPost login 9 hi)) 0 (22 ∷ 0 ∷ 0x03 ∷ 0x02 ∷ user_bytes ++ nine ++ hi_bytes)
    ∷ written (message (CFriendReq login 9 hi)) 0 (22 ∷ 0 ∷ 0x04 ∷ 0x02 ∷ user_bytes ++ nine ++ hi_bytes)
    ∷ written (message (CFriend login 9)) 0 (18 ∷ 0 ∷ 0x05 ∷ 0x02 ∷ user_bytes ++ nine)
    ∷ written (message (DFriend login 9)) 0 (18 ∷ 0 ∷ 0x01 ∷ 0x03 ∷ user_bytes ++ nine)
    ∷ written (message (UUser login 5 hi oh)) 0 (30 ∷ 0 ∷ 0x01 ∷ 0x04 ∷ user_bytes ++ (5 ∷ 0 ∷ 0 ∷ 0 ∷ 0 ∷ 0 ∷ 0 ∷ 0 ∷ hi_bytes) ++ (2 ∷ 0 ∷ 111 ∷ 104 ∷ []))
    ∷ written (message (UTitlePost login 9 hi)) 0 (22 ∷ 0 ∷ 0x02 ∷ 0x04 ∷ user_bytes ++ nine ++ hi_bytes)
    ∷ written (message (UTextPost login 9 hi)) 0 (22 ∷ 0 ∷ 0x03 ∷ 0x04 ∷ user_bytes ++ nine ++ hi_bytes)
    ∷ written (message (UImgPost login 9 513)) 0 (22 ∷ 0 ∷ 0x04 ∷ 0x04 ∷ user_bytes ++ nine ++ (1 ∷ 2 ∷ 0 ∷ 0 ∷ []))
    ∷ written (message (UVisPost login 9 1)) 0 (19 ∷ 0 ∷ 0x05 ∷ 0x04 ∷ user_bytes ++ nine ++ (1 ∷ []))
    ∷ written (message (RUser login 9)) 0 (18 ∷ 0 ∷ 0x01 ∷ 0x05 ∷ user_bytes ++ nine)
    ∷ written (message (RNUReq login 9)) 0 (18 ∷ 0 ∷ 0x02 ∷ 0x05 ∷ user_bytes ++ nine)
    ∷ written (message (RAmIAdmin login)) 0 (14 ∷ 0 ∷ 0x03 ∷ 0x05 ∷ user_bytes)
    ∷ written (message (RTitlePost login 9)) 0 (18 ∷ 0 ∷ 0x04 ∷ 0x05 ∷ user_bytes ++ nine)
    ∷ written (message (RTextPost login 9)) 0 (18 ∷ 0 ∷ 0x05 ∷ 0x05 ∷ user_bytes ++ nine)
    ∷ written (message (RImgPost login 9)) 0 (18 ∷ 0 ∷ 0x06 ∷ 0x05 ∷ user_bytes ++ nine)
    ∷ written (message (RVisPost login 9)) 0 (18 ∷ 0 ∷ 0x07 ∷ 0x05 ∷ user_bytes ++ nine)
    ∷ written (message (ROwnerPost login 9)) 0 (18 ∷ 0 ∷ 0x08 ∷ 0x05 ∷ user_bytes ++ nine)
    ∷ written (message (RFriendReqToMe login 9)) 0 (18 ∷ 0 ∷ 0x09 ∷ 0x05 ∷ user_bytes ++ nine)
    ∷ written (message (RFriendReqFromMe login 9)) 0 (18 ∷ 0 ∷ 0x0a ∷ 0x05 ∷ user_bytes ++ nine)
    ∷ written (message (LPendingUReqs login)) 0 (14 ∷ 0 ∷ 0x01 ∷ 0x06 ∷ user_bytes)
    ∷ written (message (LAllUsers login)) 0 (14 ∷ 0 ∷ 0x02 ∷ 0x06 ∷ user_bytes)
    ∷ written (message (LAllPosts login)) 0 (14 ∷ 0 ∷ 0x03 ∷ 0x06 ∷ user_bytes)
    ∷ written (message (LFriendReqs login)) 0 (14 ∷ 0 ∷ 0x04 ∷ 0x06 ∷ user_bytes)
    ∷ written (message (LFriends login)) 0 (14 ∷ 0 ∷ 0x05 ∷ 0x06 ∷ user_bytes)
    ∷ written (message (LFriendsOf login 9)) 0 (18 ∷ 0 ∷ 0x06 ∷ 0x06 ∷ user_bytes ++ nine)
    ∷ []

-- the room, the strings, the numbers and the refusals
limit_examples : List Example
limit_examples =
    -- two bytes behind the frame stay; a buffer that is a byte short, and an empty one
    written (message (LAllPosts login)) 2 (14 ∷ 0 ∷ 0x03 ∷ 0x06 ∷ user_bytes)
    ∷ refused (message (LAllPosts login)) 15 13
    ∷ refused (message (LAllPosts login)) 0 13
    -- each string at its limit, and one byte over it: note 24, title 40, name 24, info 56, text 256
    ∷ written (message (CNUReq 7 (span 6 24))) 0 (32 ∷ 0 ∷ 0x01 ∷ 0x02 ∷ 7 ∷ 0 ∷ 0 ∷ 0 ∷ 24 ∷ 0 ∷ letters 24)
    ∷ refused (message (CNUReq 7 (span 6 25))) 300 5
    ∷ written (message (CFriendReq login 9 (span 6 24))) 0 (44 ∷ 0 ∷ 0x04 ∷ 0x02 ∷ user_bytes ++ nine ++ (24 ∷ 0 ∷ letters 24))
    ∷ refused (message (CFriendReq login 9 (span 6 25))) 300 5
    ∷ written (message (CPost login 9 (span 6 40))) 0 (60 ∷ 0 ∷ 0x03 ∷ 0x02 ∷ user_bytes ++ nine ++ (40 ∷ 0 ∷ letters 40))
    ∷ refused (message (CPost login 9 (span 6 41))) 300 5
    ∷ written (message (UUser login 0 (span 6 24) (span 6 56))) 0
    (106 ∷ 0 ∷ 0x01 ∷ 0x04 ∷ user_bytes ++ replicate 8 0 ++ (24 ∷ 0 ∷ letters 24) ++ (56 ∷ 0 ∷ letters 56))
    ∷ refused (message (UUser login 0 (span 6 25) (span 6 56))) 300 5
    ∷ refused (message (UUser login 0 (span 6 24) (span 6 57))) 300 5
    ∷ written (message (UTitlePost login 9 (span 6 40))) 0 (60 ∷ 0 ∷ 0x02 ∷ 0x04 ∷ user_bytes ++ nine ++ (40 ∷ 0 ∷ letters 40))
    ∷ refused (message (UTitlePost login 9 (span 6 41))) 300 5
    ∷ written (message (UTextPost login 9 (span 6 256))) 0 (20 ∷ 1 ∷ 0x03 ∷ 0x04 ∷ user_bytes ++ nine ++ (0 ∷ 1 ∷ letters 256))
    ∷ refused (message (UTextPost login 9 (span 6 257))) 300 5
    -- the last two of the 300 lent bytes, and one byte past them; an empty string at their end, and one past it; start and length that pass 2^64
    ∷ written (message (CPost login 9 (span 298 2))) 0 (22 ∷ 0 ∷ 0x03 ∷ 0x02 ∷ user_bytes ++ nine ++ (2 ∷ 0 ∷ letters 2))
    ∷ refused (message (CPost login 9 (span 299 2))) 300 5
    ∷ written (message (CPost login 9 (span 300 0))) 0 (20 ∷ 0 ∷ 0x03 ∷ 0x02 ∷ user_bytes ++ nine ++ (0 ∷ 0 ∷ []))
    ∷ refused (message (CPost login 9 (span 301 0))) 300 5
    ∷ refused (message (CPost login 9 (span (2 ^ 64 - 1) 2))) 300 5
    -- visibility 0, 2 and 255 (1 stands above); a staff number 0 of the sender and of another, a post number 0
    ∷ written (message (UVisPost login 9 0)) 0 (19 ∷ 0 ∷ 0x05 ∷ 0x04 ∷ user_bytes ++ nine ++ (0 ∷ []))
    ∷ refused (message (UVisPost login 9 2)) 300 5
    ∷ refused (message (UVisPost login 9 255)) 300 5
    ∷ refused (message (LAllPosts nobody)) 300 5
    ∷ refused (message (CFriend login 0)) 300 5
    ∷ refused (message (RTextPost login 0)) 300 5
    -- the refusal case
    ∷ refused (message (Refused Frame)) 300 5
    ∷ refused (message (Refused Kind)) 300 5
    ∷ refused (message (Refused Body)) 300 5
    -- 5 comes before 13
    ∷ refused (message (RTextPost login 0)) 0 5
    ∷ []

-- ---- messages that are given as words

word_examples : List Example
word_examples =
    -- a string as its start and its length
    written (words 0x0203 (7 ∷ 1 ∷ 9 ∷ 4 ∷ 2 ∷ [])) 0 (22 ∷ 0 ∷ 0x03 ∷ 0x02 ∷ user_bytes ++ nine ++ hi_bytes)
    ∷ refused (words 0x0203 (7 ∷ 1 ∷ 9 ∷ 4 ∷ 2 ∷ [])) 23 13
    -- an unknown kind, with no values and with some; the number of a refusal; a kind of more than two bytes
    ∷ refused (words 0x0607 []) 300 5
    ∷ refused (words 0x0607 (7 ∷ 1 ∷ [])) 300 5
    ∷ refused (words 3 []) 300 5
    ∷ refused (words (65536 + 0x0603) (7 ∷ 1 ∷ [])) 300 5
    -- no value, one too few and one too many; a string without its length; start and length that pass 2^64
    ∷ refused (words 0x0603 []) 300 5
    ∷ refused (words 0x0603 (7 ∷ [])) 300 5
    ∷ refused (words 0x0603 (7 ∷ 1 ∷ 0 ∷ [])) 300 5
    ∷ refused (words 0x0203 (7 ∷ 1 ∷ 9 ∷ 4 ∷ [])) 300 5
    ∷ refused (words 0x0203 (7 ∷ 1 ∷ 9 ∷ 4 ∷ 2 ∷ 0 ∷ [])) 300 5
    ∷ refused (words 0x0203 (7 ∷ 1 ∷ 9 ∷ (2 ^ 64 - 1) ∷ 2 ∷ [])) 300 5
    -- the widest numbers of four and of eight bytes, and too wide ones
    ∷ written (words 0x0603 ((2 ^ 32 - 1) ∷ (2 ^ 64 - 1) ∷ [])) 0 (14 ∷ 0 ∷ 0x03 ∷ 0x06 ∷ replicate 12 255)
    ∷ refused (words 0x0603 ((2 ^ 32) ∷ 1 ∷ [])) 300 5
    ∷ written (words 0x0404 (7 ∷ 1 ∷ 9 ∷ (2 ^ 32 - 1) ∷ [])) 0 (22 ∷ 0 ∷ 0x04 ∷ 0x04 ∷ user_bytes ++ nine ++ replicate 4 255)
    ∷ refused (words 0x0404 (7 ∷ 1 ∷ 9 ∷ (2 ^ 32) ∷ [])) 300 5
    ∷ refused (words 0x0405 (7 ∷ 1 ∷ 9 ∷ 256 ∷ [])) 300 5
    ∷ []

encoded_as_expected : map (λ (e : Example). e.computed) (kind_examples ++ limit_examples ++ word_examples)
    ≡ map (λ (e : Example). e.expected) (kind_examples ++ limit_examples ++ word_examples)
unfolding kind_examples limit_examples word_examples encode_of encode_fields put_whole kind_fields fields_in kinds enum_content word_content listed_fields word_values word_count word_value span_value values_fit value_fits is_string values_bytes value_bytes string_bytes frame_bytes to_le_bytes bytes_at patch
encoded_as_expected = refl

-- ---- the way back

-- the words are written, with so many more places; or nothing is
abbrev read_as : List ℕ → ℕ → List ℕ → Example
read_as msg more ws =
    record { computed = read_of (message_content msg) (replicate (length ws + more) 7); expected = result 0 (length ws) (ws ++ replicate more 7) }

abbrev not_read : List ℕ → ℕ → ℕ → Example
not_read msg room number = record { computed = read_of (message_content msg) (replicate room 7); expected = result number 0 (replicate room 7) }

abbrev new_post : List ℕ
new_post = 22 ∷ 0 ∷ 0x03 ∷ 0x02 ∷ user_bytes ++ nine ++ hi_bytes

read_examples : List Example
read_examples =
    -- 0203: post 9, and "Hi" at place 18 of the body; just enough places, one more, one too few
    read_as new_post 0 (7 ∷ 1 ∷ 9 ∷ 18 ∷ 2 ∷ [])
    ∷ read_as new_post 1 (7 ∷ 1 ∷ 9 ∷ 18 ∷ 2 ∷ [])
    ∷ not_read new_post 4 13
    -- 0401 has the most words; here its two strings are empty
    ∷ read_as (26 ∷ 0 ∷ 0x01 ∷ 0x04 ∷ user_bytes ++ replicate 8 255 ++ (0 ∷ 0 ∷ 0 ∷ 0 ∷ [])) 0 (7 ∷ 1 ∷ (2 ^ 64 - 1) ∷ 22 ∷ 0 ∷ 24 ∷ 0 ∷ [])
    -- 3 for a lone byte, 4 for an unknown kind, 5 for a staff number 0; a refusal comes before 13
    ∷ not_read (5 ∷ []) 9 3
    ∷ not_read (2 ∷ 0 ∷ 0x07 ∷ 0x06 ∷ []) 9 4
    ∷ not_read (14 ∷ 0 ∷ 0x03 ∷ 0x06 ∷ replicate 12 0) 9 5
    ∷ not_read (14 ∷ 0 ∷ 0x03 ∷ 0x06 ∷ replicate 12 0) 0 5
    ∷ []

read_as_expected : map (λ (e : Example). e.computed) read_examples ≡ map (λ (e : Example). e.expected) read_examples
unfolding read_examples read_of message_content body_content is_frame frame_length_up_to length_field kind_of body_of is_kind kind_fields fields_in kinds fields_fit field_fits field_end field_values field_value is_string values_words value_words put_whole bytes_at patch from_le_bytes
read_as_expected = refl

-- ---- what the statements of reader and writer are made of

-- a 0203; a lone byte, an unknown kind, a staff number 0
accepted_as_expected : map is_accepted (new_post ∷ (5 ∷ []) ∷ (2 ∷ 0 ∷ 0x07 ∷ 0x06 ∷ []) ∷ (14 ∷ 0 ∷ 0x03 ∷ 0x06 ∷ replicate 12 0) ∷ [])
    ≡ true ∷ false ∷ false ∷ false ∷ []
unfolding is_accepted message_content body_content is_frame frame_length_up_to length_field kind_of body_of is_kind kind_fields fields_in kinds fields_fit field_fits field_end is_string bytes_at from_le_bytes
accepted_as_expected = refl

-- a string by its bytes, at whatever place, and a number as it is
by_bytes_as_expected : by_bytes (message (CPost login 9 (span 4 2))) ≡ content 0x0203 (number_value 7 ∷ number_value 1 ∷ number_value 9 ∷ string_value 0 (72 ∷ 105 ∷ []) ∷ [])
unfolding by_bytes without_place enum_content span_value bytes_at
by_bytes_as_expected = refl

-- the frame, without what stands behind it
frame_as_expected : frame_in (result 0 2 (14 ∷ 0 ∷ 7 ∷ [])) ≡ 14 ∷ 0 ∷ []
unfolding frame_in
frame_as_expected = refl

-- ---- the reasons for 5, at least one example of each

reasons : List ((c : Content) × Reason (kind_fields c.code) c.values)
unfolding kind_fields fields_in kinds enum_content word_content listed_fields word_values word_count word_value span_value bytes_at
reasons =
    -- an unknown kind, and the refusal case
    (words 0x0607 (7 ∷ 1 ∷ []), no_kind)
    ∷ (message (Refused Frame), no_kind)
    -- a staff number 0, and a post number 0
    ∷ (message (LAllPosts nobody), first (below_least (lit< tt)))
    ∷ (message (RTextPost login 0), later (later (first (below_least (lit< tt)))))
    -- visibility 2, and a staff number that is too wide
    ∷ (message (UVisPost login 9 2), later (later (later (first (above_greatest (lit< tt))))))
    ∷ (words 0x0603 ((2 ^ 32) ∷ 1 ∷ []), first (above_greatest (lit< tt)))
    -- a title over its limit, and one that reaches past the lent bytes
    ∷ (message (CPost login 9 (span 6 41)), later (later (later (first (over_limit (lit< tt))))))
    ∷ (message (CPost login 9 (span 299 2)), later (later (later (first past_lent))))
    -- one value too few, and one too many
    ∷ (words 0x0603 (7 ∷ []), later missing)
    ∷ (words 0x0603 (7 ∷ 1 ∷ 0 ∷ []), later (later left_over))
    -- a value of the other sort
    ∷ (content 0x0603 (string_value 0 [] ∷ number_value 1 ∷ []), first string_for_number)
    ∷ (content 0x0603 (out_of_body ∷ number_value 1 ∷ []), first nothing_for_number)
    ∷ (content 0x0201 (number_value 7 ∷ number_value 0 ∷ []), later (first number_for_string))
    ∷ []
