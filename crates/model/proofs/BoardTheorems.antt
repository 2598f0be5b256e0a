-- States and boards: the records of a state that fits have their sizes, and hold that state.
use Prim.Native.Nat.{ℕ, ◌^◌}
use native.Mathlib.Omega.{arith}
use mathlib.Core.Path.{◌≡◌, refl, ap, ◌∙◌}
use mathlib.Core.List.{List, [], ◌∷◌, map, sum}
use mathlib.Core.Bool.{Bool, true}
use lib.ListN.{length, take}
use lib.Dec.{lit<, eqb}
use borrow.Author.Tests.{eqb-true, eq-eqb, lt-ltb}
use Rattle.layout.specs.Bytes.{offset}
use Rattle.layout.specs.StringFields.{field_string}
use Rattle.layout.proofs.BooleanLaws.{and_both}
use Rattle.model.specs.Lists.{for_all, all_true}
use Rattle.model.specs.State.{State, user_limit, post_limit, pending_limit, note_count}
use Rattle.model.specs.Board.{board_size, header_fields, user_fields, post_fields, pending_fields, note_fields, decode_user, decode_post, decode_pending, cut_board, records_of, user_count, post_count, pending_count, state_of, encode, decode}
use Rattle.model.proofs.StateRules.{stored_fits, table_fits, state_fits}
use Rattle.model.proofs.ListLaws.{true_at}
use Rattle.model.proofs.RecordLaws.{stored_size, own-record, field_number}
use Rattle.model.proofs.RecordTheorems.{length-header, user_codec, post_codec, pending_codec, note_codec}
use Rattle.model.proofs.TableRecordLaws.{fits_count, table-full, sizes-table, table-read}
use Rattle.model.proofs.CutLaws.{RightSizes, cut_join, length_join}

-- what `state_fits` says
pub record FittingState (s : State) : Type 0 where
  pub users : table_fits user_limit user_fields s.users ≡ true
  pub posts : table_fits post_limit post_fields s.posts ≡ true
  pub pending : table_fits pending_limit pending_fields s.pending ≡ true
  pub notes : table_fits note_count note_fields s.notes ≡ true
  pub full : length s.notes ≡ note_count

pub fitting : (s : State) → state_fits s ≡ true → FittingState s
unfolding state_fits
fitting s e =
    let tests : List Bool =
    table_fits user_limit user_fields s.users ∷ table_fits post_limit post_fields s.posts ∷ table_fits pending_limit pending_fields s.pending
    ∷ table_fits note_count note_fields s.notes ∷ eqb (length s.notes) note_count ∷ []
    in
    record {
      users = true_at tests 0 e (lit< tt);
      posts = true_at tests 1 e (lit< tt);
      pending = true_at tests 2 e (lit< tt);
      notes = true_at tests 3 e (lit< tt);
      full = eqb-true (length s.notes) note_count (true_at tests 4 e (lit< tt));
    }

pub fits-state : (s : State) → FittingState s → state_fits s ≡ true
unfolding state_fits all_true for_all
fits-state s f =
    and_both f.users (and_both f.posts (and_both f.pending (and_both f.notes
    (and_both (eq-eqb (length s.notes) note_count f.full) refl))))

module _ (s : State) (f : FittingState s) where
  -- ---- the counts of the header

  pub header-fits : for_all stored_fits (header_fields s) ≡ true
  unfolding header_fields for_all stored_fits
  header-fits =
      let n = fits_count user_codec user_limit s.users f.users in
      let m = fits_count post_codec post_limit s.posts f.posts in
      let k = fits_count pending_codec pending_limit s.pending f.pending in
      and_both (lt-ltb (length s.users) (256 ^ 2) (omega arith)) (and_both (lt-ltb (length s.posts) (256 ^ 2) (omega arith))
      (and_both (lt-ltb (length s.pending) (256 ^ 2) (omega arith)) (and_both refl refl)))

  pub user-count : user_count (records_of s) ≡ length s.users
  unfolding user_count records_of header_fields stored_size offset sum
  user-count = field_number (own-record (header_fields s) header-fits) 0 (lit< tt) 2 (length s.users) refl

  pub post-count : post_count (records_of s) ≡ length s.posts
  unfolding post_count records_of header_fields stored_size offset sum
  post-count = field_number (own-record (header_fields s) header-fits) 1 (lit< tt) 2 (length s.posts) refl

  pub pending-count : pending_count (records_of s) ≡ length s.pending
  unfolding pending_count records_of header_fields stored_size offset sum
  pending-count = field_number (own-record (header_fields s) header-fits) 2 (lit< tt) 2 (length s.pending) refl

  -- ---- sizes

  pub right_sizes : RightSizes (records_of s)
  unfolding records_of
  right_sizes = record {
    header = length-header s header-fits;
    users = sizes-table user_codec user_limit s.users f.users;
    posts = sizes-table post_codec post_limit s.posts f.posts;
    pending = sizes-table pending_codec pending_limit s.pending f.pending;
    notes = sizes-table note_codec note_count s.notes f.notes;
  }

  pub length-encode : length (encode s) ≡ board_size
  unfolding encode
  length-encode = length_join (records_of s) right_sizes

  pub cut-encode : cut_board (encode s) ≡ records_of s
  unfolding encode
  cut-encode = cut_join (records_of s) right_sizes

  -- ---- the state is read back

  pub state_records : state_of (records_of s) ≡ s
  unfolding state_of records_of
  state_records =
      let us : map decode_user (take (user_count (records_of s)) (records_of s).users) ≡ s.users =
      ap (λ (n : ℕ). map decode_user (take n (records_of s).users)) user-count ∙ table-read user_codec user_limit s.users f.users
      in
      let ps : map decode_post (take (post_count (records_of s)) (records_of s).posts) ≡ s.posts =
      ap (λ (n : ℕ). map decode_post (take n (records_of s).posts)) post-count ∙ table-read post_codec post_limit s.posts f.posts
      in
      let ks : map decode_pending (take (pending_count (records_of s)) (records_of s).pending) ≡ s.pending =
      ap (λ (n : ℕ). map decode_pending (take n (records_of s).pending)) pending-count
      ∙ table-read pending_codec pending_limit s.pending f.pending
      in
      let ns : map field_string (records_of s).notes ≡ s.notes =
      ap (map field_string) (table-full note_codec note_count s.notes f.full) ∙ table-read note_codec note_count s.notes f.notes
      in
      λ i. record { users = us i; posts = ps i; pending = ks i; notes = ns i }

  pub decode-encode : decode (encode s) ≡ s
  unfolding decode
  decode-encode = ap state_of cut-encode ∙ state_records

-- ---- boards of states

-- b is the encoding of s, and s fits
pub record Encodes (b : List ℕ) (s : State) : Type 0 where
  pub bytes : b ≡ encode s
  pub fits : FittingState s

pub encodes : (s : State) → FittingState s → Encodes (encode s) s
encodes s f = record { bytes = refl; fits = f }
