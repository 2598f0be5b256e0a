-- The clauses about bytes hold of the records of a state that fits; and records of which they hold are those of their state.
use Prim.Native.Nat.{ℕ, zero, suc, ◌+◌, ◌*◌, ◌≤◌, ◌<◌}
use native.Mathlib.Nat.{suc-mul, le_refl}
use native.Mathlib.Omega.{arith}
use mathlib.Core.Path.{◌≡◌, refl, sym, ap, ◌∙◌}
use mathlib.Core.List.{List, [], ◌∷◌, map}
use mathlib.Core.Bool.{Bool, true, ◌&&◌}
use lib.ListN.{length, take, drop, get_or, replicate, length-map, length-replicate, drop_of_length-le}
use lib.Seq.{take_all}
use lib.Dec.{eqb, leb, lit<}
use lib.Pow.{are_bytes}
use borrow.Author.Tests.{leb-true, le-leb, eq-eqb}
use Rattle.layout.specs.Bytes.{bytes_at, all_zero, pieces}
use Rattle.layout.specs.StringFields.{field_string, is_string_field}
use Rattle.layout.proofs.BooleanLaws.{and_left, and_right, and_both}
use Rattle.layout.proofs.ByteLaws.{length-bytes_at}
use Rattle.layout.proofs.NumberLaws.{bytes-bytes_at}
use Rattle.reader.specs.Fields.{note_limit}
use Rattle.model.specs.Lists.{for_all, all_true}
use Rattle.model.specs.State.{State, no_user, no_post, no_pending, user_limit, post_limit, pending_limit, note_count}
use Rattle.model.specs.Board.{StoredField, user_fields, post_fields, pending_fields, board_size, note_fields, BoardRecords, cut_board, table_records, records_of, user_count, post_count, pending_count, state_of}
use Rattle.model.specs.Soundness.{counts_within_limits, unused_records_zero, user_strings, post_strings, pending_strings, strings_within_limits, filler_zero}
use Rattle.model.proofs.StateRules.{table_fits}
use Rattle.model.proofs.ListLaws.{true_at, all_take, all_and, all_weaken}
use Rattle.model.proofs.RecordTheorems.{good_user, good_post, good_pending, good_note, user-strings, post-strings, pending-strings, pending-filler, note-holds, header-filler, header-back, user_codec, post_codec, pending_codec, note_codec, user-holds, post-holds, pending-holds}
use Rattle.model.proofs.TableRecordLaws.{codec_fits, fits_count, used-pass, unused-zero, table-full, GoodTable, count-good, table-back, table_fits_lem}
use Rattle.model.proofs.RecordLaws.{RecordCodec, is_record, holds_fields}
use Rattle.model.proofs.CutLaws.{RightSizes, cut-sizes}
use Rattle.model.proofs.BoardTheorems.{FittingState, header-fits, user-count, post-count, pending-count}

-- ---- a state that fits

-- a test of a count, from the test of the number that the count is
by_count : (t : ℕ → Bool) {n m : ℕ} → n ≡ m → t m ≡ true → t n ≡ true
by_count t e h = ap t e ∙ h

module _ (s : State) (f : FittingState s) where
  pub counts_hold : counts_within_limits (records_of s) ≡ true
  unfolding counts_within_limits all_true for_all
  counts_hold =
      and_both (within user_codec user_limit s.users (user-count s f) f.users)
      (and_both (within post_codec post_limit s.posts (post-count s f) f.posts)
      (and_both (within pending_codec pending_limit s.pending (pending-count s f) f.pending) refl))
    where
      within : {A : Type 0} (c : RecordCodec A) (limit : ℕ) (xs : List A) {n : ℕ} → n ≡ length xs → codec_fits c limit xs ≡ true → leb n limit ≡ true
      within c limit xs {n} e t = let h = fits_count c limit xs t in le-leb n limit (omega arith)

  pub unused_hold : unused_records_zero (records_of s) ≡ true
  unfolding unused_records_zero records_of all_true for_all
  unused_hold =
      and_both (by_count (λ n. for_all all_zero (drop n (records_of s).users)) (user-count s f) (unused-zero user_codec user_limit s.users))
      (and_both (by_count (λ n. for_all all_zero (drop n (records_of s).posts)) (post-count s f) (unused-zero post_codec post_limit s.posts))
      (and_both
      (by_count (λ n. for_all all_zero (drop n (records_of s).pending)) (pending-count s f) (unused-zero pending_codec pending_limit s.pending))
      refl))

  pub strings_hold : strings_within_limits (records_of s) ≡ true
  unfolding strings_within_limits records_of all_true for_all
  strings_hold =
      and_both
      (by_count (λ n. for_all user_strings (take n (records_of s).users)) (user-count s f)
      (used-pass user_codec user_limit user_strings user-strings s.users f.users))
      (and_both
      (by_count (λ n. for_all post_strings (take n (records_of s).posts)) (post-count s f)
      (used-pass post_codec post_limit post_strings post-strings s.posts f.posts))
      (and_both
      (by_count (λ n. for_all pending_strings (take n (records_of s).pending)) (pending-count s f)
      (used-pass pending_codec pending_limit pending_strings pending-strings s.pending f.pending))
      (and_both
      (ap (for_all (is_string_field note_limit)) (table-full note_codec note_count s.notes f.full)
      ∙ used-pass note_codec note_count (is_string_field note_limit) note-holds s.notes f.notes) refl)))

  pub filler_hold : filler_zero (records_of s) ≡ true
  unfolding filler_zero records_of
  filler_hold =
      and_both (header-filler s (header-fits s f))
      (by_count (λ n. for_all (λ p. all_zero (bytes_at p 30 2)) (take n (records_of s).pending)) (pending-count s f)
      (used-pass pending_codec pending_limit (λ p. all_zero (bytes_at p 30 2)) pending-filler s.pending f.pending))

-- ---- records of which the clauses hold

-- the records of a board of bytes: their sizes, and each is bytes
pub record ByteRecords (r : BoardRecords) : Type 0 where
  pub sizes : RightSizes r
  pub header : is_record 16 r.header ≡ true
  pub users : for_all (is_record 104) r.users ≡ true
  pub posts : for_all (is_record 312) r.posts ≡ true
  pub pending : for_all (is_record 32) r.pending ≡ true
  pub notes : for_all are_bytes r.notes ≡ true

record_piece : (b : List ℕ) (o size : ℕ) → are_bytes b ≡ true → o + size ≤ length b → is_record size (bytes_at b o size) ≡ true
record_piece b o size y h = and_both (eq-eqb (length (bytes_at b o size)) size (length-bytes_at b o size h)) (bytes-bytes_at b o size y)

record-pieces : (b : List ℕ) (size n o : ℕ) → are_bytes b ≡ true → o + n * size ≤ length b
    → for_all (is_record size) (pieces (replicate n size) o b) ≡ true
unfolding for_all pieces
record-pieces b size zero o y h = refl
record-pieces b size (suc n) o y h =
    let m = suc-mul n size in
    and_both (record_piece b o size y (omega arith)) (record-pieces b size n (o + size) y (omega arith))

pub cut-bytes : (b : List ℕ) → are_bytes b ≡ true → length b ≡ board_size → ByteRecords (cut_board b)
unfolding cut_board
cut-bytes b y l = record {
  sizes = cut-sizes b l;
  header = record_piece b 0 16 y (omega arith);
  users = record-pieces b 104 user_limit 16 y (omega arith);
  posts = record-pieces b 312 post_limit 3344 y (omega arith);
  pending = record-pieces b 32 pending_limit 23312 y (omega arith);
  notes = all_weaken (is_record 26) are_bytes (λ r e. and_right (eqb (length r) 26) (are_bytes r) e) (pieces (replicate note_count 26) 23824 b)
      (record-pieces b 26 note_count 23824 y (omega arith));
}

-- what the clause about counts says
pub within-limits : (r : BoardRecords) → counts_within_limits r ≡ true
    → (user_count r ≤ user_limit) × (post_count r ≤ post_limit) × (pending_count r ≤ pending_limit)
unfolding counts_within_limits
within-limits r e =
    let limits : List Bool = leb (user_count r) user_limit ∷ leb (post_count r) post_limit ∷ leb (pending_count r) pending_limit ∷ [] in
    let holds : (i : ℕ) → i < 3 → get_or limits i true ≡ true = λ i l. true_at limits i e l in (
      leb-true (user_count r) user_limit (holds 0 (lit< tt)),
      leb-true (post_count r) post_limit (holds 1 (lit< tt)),
      leb-true (pending_count r) pending_limit (holds 2 (lit< tt)),
    )

-- what the clauses about bytes say
pub record RecordsHold (r : BoardRecords) : Type 0 where
  pub counts : counts_within_limits r ≡ true
  pub unused : unused_records_zero r ≡ true
  pub strings : strings_within_limits r ≡ true
  pub filler : filler_zero r ≡ true

-- records that pass a test by which the fields can stand in them
good-used : (size n : ℕ) (fs : List StoredField) (test : List ℕ → Bool) → ((r : List ℕ) → test r ≡ true → holds_fields fs r 0 ≡ true)
    → (rs : List (List ℕ)) → for_all (is_record size) rs ≡ true → for_all test (take n rs) ≡ true
    → for_all (λ r. is_record size r && holds_fields fs r 0) (take n rs) ≡ true
good-used size n fs test implies rs g t =
    all_and (is_record size) (λ r. holds_fields fs r 0) (take n rs) (all_take (is_record size) n rs g)
    (all_weaken test (λ r. holds_fields fs r 0) implies (take n rs) t)

module _ (r : BoardRecords) (g : ByteRecords r) (h : RecordsHold r) where
  zeros : List Bool
  zeros =
      for_all all_zero (drop (user_count r) r.users) ∷ for_all all_zero (drop (post_count r) r.posts)
      ∷ for_all all_zero (drop (pending_count r) r.pending) ∷ []

  zeros_hold : (i : ℕ) → i < 3 → get_or zeros i true ≡ true
  unfolding unused_records_zero zeros
  zeros_hold i l = true_at zeros i h.unused l

  strings : List Bool
  strings =
      for_all user_strings (take (user_count r) r.users) ∷ for_all post_strings (take (post_count r) r.posts)
      ∷ for_all pending_strings (take (pending_count r) r.pending) ∷ for_all (is_string_field note_limit) r.notes ∷ []

  string-holds : (i : ℕ) → i < 4 → get_or strings i true ≡ true
  unfolding strings_within_limits strings
  string-holds i l = true_at strings i h.strings l

  good-users : GoodTable user_codec user_limit (user_count r) r.users
  unfolding good_user zeros strings
  good-users = record {
    sizes = g.sizes.users;
    count = (within-limits r h.counts).0;
    used = good-used 104 (user_count r) (user_fields no_user) user_strings user-holds r.users g.users (string-holds 0 (lit< tt));
    unused = zeros_hold 0 (lit< tt);
  }

  good-posts : GoodTable post_codec post_limit (post_count r) r.posts
  unfolding good_post zeros strings
  good-posts = record {
    sizes = g.sizes.posts;
    count = (within-limits r h.counts).1;
    used = good-used 312 (post_count r) (post_fields no_post) post_strings post-holds r.posts g.posts (string-holds 1 (lit< tt));
    unused = zeros_hold 1 (lit< tt);
  }

  -- the filler of the header, and of the used pending records
  fillers : (all_zero (bytes_at r.header 6 10) ≡ true) × (for_all (λ p. all_zero (bytes_at p 30 2)) (take (pending_count r) r.pending) ≡ true)
  unfolding filler_zero
  fillers =
      let a : Bool = all_zero (bytes_at r.header 6 10) in
      let b : Bool = for_all (λ p. all_zero (bytes_at p 30 2)) (take (pending_count r) r.pending) in
      (and_left a b h.filler, and_right a b h.filler)

  good-pending : GoodTable pending_codec pending_limit (pending_count r) r.pending
  unfolding good_pending zeros strings
  good-pending = record {
    sizes = g.sizes.pending;
    count = (within-limits r h.counts).2;
    used =
        good-used 32 (pending_count r) (pending_fields no_pending) (λ p. pending_strings p && all_zero (bytes_at p 30 2)) pending-holds
        r.pending g.pending
        (all_and pending_strings (λ p. all_zero (bytes_at p 30 2)) (take (pending_count r) r.pending) (string-holds 2 (lit< tt)) fillers.1);
    unused = zeros_hold 2 (lit< tt);
  }

  count-notes : length r.notes ≤ note_count
  count-notes =
      let l : length r.notes ≡ note_count =
      sym (length-map r.notes length) ∙ ap length g.sizes.notes ∙ length-replicate {A = ℕ} note_count 26
      in
      omega arith

  all_notes : take note_count r.notes ≡ r.notes
  all_notes = take_all note_count r.notes count-notes

  good-notes : GoodTable note_codec note_count note_count r.notes
  unfolding good_note strings for_all
  good-notes = record {
    sizes = g.sizes.notes;
    count = le_refl note_count;
    used = ap (for_all good_note) all_notes ∙ all_and are_bytes (is_string_field note_limit) r.notes g.notes (string-holds 3 (lit< tt));
    unused = ap (for_all all_zero) (drop_of_length-le r.notes {i = note_count} count-notes);
  }

  pub records_state : records_of (state_of r) ≡ r
  unfolding records_of state_of user_count post_count pending_count
  records_state =
      let head =
      header-back (state_of r) r.header g.header fillers.0
      (count-good user_codec user_limit (user_count r) r.users good-users)
      (count-good post_codec post_limit (post_count r) r.posts good-posts)
      (count-good pending_codec pending_limit (pending_count r) r.pending good-pending)
      in
      let us = table-back user_codec user_limit (user_count r) r.users good-users in
      let ps = table-back post_codec post_limit (post_count r) r.posts good-posts in
      let ks = table-back pending_codec pending_limit (pending_count r) r.pending good-pending in
      let ns =
      ap (λ (l : List (List ℕ)). table_records 26 note_count note_fields (map field_string l)) (sym all_notes)
      ∙ table-back note_codec note_count note_count r.notes good-notes
      in
      λ i. record { header = head i; users = us i; posts = ps i; pending = ks i; notes = ns i }

  pub state-fits : FittingState (state_of r)
  unfolding state_of
  state-fits = record {
    users = table_fits_lem user_codec user_limit (user_count r) r.users good-users;
    posts = table_fits_lem post_codec post_limit (post_count r) r.posts good-posts;
    pending = table_fits_lem pending_codec pending_limit (pending_count r) r.pending good-pending;
    notes =
        ap (λ (l : List (List ℕ)). table_fits note_count note_fields (map field_string l)) (sym all_notes)
        ∙ table_fits_lem note_codec note_count note_count r.notes good-notes;
    full =
        ap (λ (l : List (List ℕ)). length (map field_string l)) (sym all_notes)
        ∙ count-good note_codec note_count note_count r.notes good-notes;
  }
