-- What the accepted messages so far decide, and whether a post is closed to a set of staff ("shut").
use Rattle.std.specs.Prelude.{ℕ, List, [], ◌∷◌, Bool, true, false, not, cond, ◌&&◌, ◌||◌, length, eqb, leb}
use Rattle.std.proofs.Math.Option.{Option, some, none}
use Rattle.layout.specs.Bytes.{bytes_at}
use Rattle.layout.specs.Numbers.{from_le_bytes}
use Rattle.reader.specs.Frames.{body_of}
use Rattle.reader.specs.Messages.{Content, message_content}
use Rattle.model.specs.Lists.{for_all}
use Rattle.model.specs.Actions.{number_arg, string_arg}
use Rattle.confidentiality.specs.Traces.{Event}

-- ---- messages

-- "It is sent under the number in the first four bytes of its body, whatever its kind; a shorter body has no sender."
unfoldable pub sender : List ℕ → Option ℕ
sender m = cond (leb 4 (length (body_of m))) (some (from_le_bytes (bytes_at (body_of m) 0 4))) none

-- "At each place, before a message or after the last, the accepted messages so far decide": each as its kind and the values of its
-- fields, the latest first
abbrev pub History : Type 0
History = List Content

unfoldable pub after_event : History → Event → History
after_event h e = cond e.accepted (message_content e.frame ∷ h) h

unfoldable pub is_kind : ℕ → Content → Bool
is_kind k m = eqb m.code k

-- the fields by their places in the table of kinds: U, then P, then V or N, then a text or a visibility
abbrev pub user_field : Content → ℕ
user_field m = number_arg m.values 0

abbrev pub target_field : Content → ℕ
target_field m = number_arg m.values 2

abbrev pub visibility_field : Content → ℕ
visibility_field m = number_arg m.values 3

abbrev pub text_field : Content → List ℕ
text_field m = string_arg m.values 3

-- a message of a kind about post n, and one between two users
unfoldable pub is_about : ℕ → ℕ → Content → Bool
is_about k n m = is_kind k m && eqb (target_field m) n

unfoldable pub is_between : ℕ → ℕ → ℕ → Content → Bool
is_between k a b m = is_kind k m && (eqb (user_field m) a && eqb (target_field m) b || eqb (user_field m) b && eqb (target_field m) a)

-- ---- users and posts

-- "Registered: U of 0101 and V of each 0202."
unfoldable pub registered : History → List ℕ
registered [] = []
registered (m ∷ h) =
    let earlier : List ℕ = registered h in
    cond (is_kind 0x0101 m) (user_field m ∷ earlier) (cond (is_kind 0x0202 m) (target_field m ∷ earlier) earlier)

-- "Owner of a post: U of the 0203 that made it."
unfoldable pub owner : ℕ → History → Option ℕ
owner n [] = none
owner n (m ∷ h) = cond (is_about 0x0203 n m) (some (user_field m)) (owner n h)

-- "Friends: two with a 0205 between them and no 0301 between them since."
unfoldable pub befriended : ℕ → ℕ → History → Bool
befriended a b [] = false
befriended a b (m ∷ h) = cond (is_between 0x0205 a b m) true (cond (is_between 0x0301 a b m) false (befriended a b h))

-- "Public: a post whose last 0405 has 1."
unfoldable pub is_public : ℕ → History → Bool
is_public n [] = false
is_public n (m ∷ h) = cond (is_about 0x0405 n m) (eqb (visibility_field m) 1) (is_public n h)

-- ---- closed

-- u is the owner or a friend of the owner; "A post not made yet has no owner"
unfoldable pub owns_or_befriends : Option ℕ → ℕ → History → Bool
owns_or_befriends none u h = false
owns_or_befriends (some o) u h = eqb u o || befriended u o h

-- closed ("shut"), in the words of demand 3 and not of document 01: no registered member of the set owns the post or is a friend of its
-- owner, and the post is not public or nobody of the set is registered
unfoldable pub closed_to : (ℕ → Bool) → ℕ → History → Bool
closed_to observers n h =
    for_all (λ (u : ℕ). not (observers u && owns_or_befriends (owner n h) u h)) (registered h)
    && (not (is_public n h) || for_all (λ (u : ℕ). not (observers u)) (registered h))

-- ---- updates

-- "An update of a post's text is a 0403 with its number", here an accepted one
unfoldable pub is_text_update : ℕ → Event → Bool
is_text_update n e = e.accepted && is_about 0x0403 n (message_content e.frame)
