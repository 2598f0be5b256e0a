-- What stands at a place of a state that fits, used or not, has room in its record: numbers below their width, strings within their limits.
use Prim.Native.Nat.{ℕ, ◌+◌, ◌*◌, ◌^◌, ◌≤◌, ◌<◌}
use mathlib.Core.Path.{◌≡◌, refl, sym, ap, ◌∙◌}
use mathlib.Core.List.{List, []}
use mathlib.Core.Bool.{true}
use lib.ListN.{length, get_or}
use lib.Dec.{lit<}
use borrow.Author.Tests.{ltb-true}
use Rattle.layout.specs.StringFields.{is_string}
use Rattle.layout.proofs.StringFieldLaws.{string_le}
use Rattle.model.specs.Lists.{for_all}
use Rattle.model.specs.State.{User, Post, Pending, State, user_limit, post_limit, pending_limit, note_count, no_user, no_post, no_pending, user_at, post_at, pending_at, note_at}
use Rattle.model.specs.Board.{StoredField, unsigned, string, filler, user_fields, post_fields, pending_fields, note_fields}
use Rattle.model.proofs.StateRules.{stored_fits}
use Rattle.model.proofs.ListLaws.{all_at, all_default}
use Rattle.model.proofs.RecordTheorems.{user_codec, post_codec, pending_codec, note_codec}
use Rattle.model.proofs.TableRecordLaws.{fits_records}
use Rattle.model.proofs.BoardTheorems.{FittingState}
use Rattle.model.proofs.ReadingLaws.{note_number}

-- the number in field k of a record that fits is below its width, a string there within its limit
pub number_below_lem : (fields : List StoredField) (k width n : ℕ) → for_all stored_fits fields ≡ true → k < length fields
    → get_or fields k (filler 0) ≡ unsigned width n → n < 256 ^ width
unfolding stored_fits
number_below_lem fields k width n e h q = ltb-true n (256 ^ width) (ap stored_fits (sym q) ∙ all_at stored_fits fields k (filler 0) e h)

pub string-short : (fields : List StoredField) (k limit : ℕ) (x : List ℕ) → for_all stored_fits fields ≡ true → k < length fields
    → get_or fields k (filler 0) ≡ string limit x → length x ≤ limit
unfolding stored_fits
string-short fields k limit x e h q = string_le limit x (ap stored_fits (sym q) ∙ all_at stored_fits fields k (filler 0) e h)

module _ (s : State) (f : FittingState s) where
  pub user-fits : (i : ℕ) → for_all stored_fits (user_fields (user_at s i)) ≡ true
  unfolding user_at for_all stored_fits user_fields is_string
  user-fits i =
      all_default (λ (u : User). for_all stored_fits (user_fields u)) no_user refl s.users
      (fits_records user_codec user_limit s.users f.users) i

  pub post-fits : (i : ℕ) → for_all stored_fits (post_fields (post_at s i)) ≡ true
  unfolding post_at for_all stored_fits post_fields is_string
  post-fits i =
      all_default (λ (p : Post). for_all stored_fits (post_fields p)) no_post refl s.posts
      (fits_records post_codec post_limit s.posts f.posts) i

  pub pending-fits : (i : ℕ) → for_all stored_fits (pending_fields (pending_at s i)) ≡ true
  unfolding pending_at for_all stored_fits pending_fields is_string
  pending-fits i =
      all_default (λ (p : Pending). for_all stored_fits (pending_fields p)) no_pending refl s.pending
      (fits_records pending_codec pending_limit s.pending f.pending) i

  pub note-fits : (i j : ℕ) → for_all stored_fits (note_fields (note_at s i j)) ≡ true
  unfolding for_all stored_fits note_fields is_string
  note-fits i j =
      rw (note_number s i j)
      (all_default (λ (note : List ℕ). for_all stored_fits (note_fields note)) [] refl s.notes
      (fits_records note_codec note_count s.notes f.notes) (user_limit * i + j))

  pub friends_width : (i : ℕ) → (user_at s i).friends < 2 ^ 32
  unfolding user_fields
  friends_width i = number_below_lem (user_fields (user_at s i)) 2 4 (user_at s i).friends (user-fits i) (lit< tt) refl

  pub requests_width : (i : ℕ) → (user_at s i).requests < 2 ^ 32
  unfolding user_fields
  requests_width i = number_below_lem (user_fields (user_at s i)) 3 4 (user_at s i).requests (user-fits i) (lit< tt) refl
