-- The clauses that test each record of a table, as the code tests them: one field of the used records at a time.
use Prim.Native.Nat.{ℕ}
use mathlib.Core.Path.{◌≡◌, sym, ap, ap₂, ◌∙◌}
use mathlib.Core.List.{List}
use mathlib.Core.Bool.{Bool, true, ◌&&◌, and_assoc, and-true}
use lib.ListN.{length, drop}
use lib.Dec.{ltb, leb, lit≤, leb-suc-suc}
use Rattle.layout.specs.Bytes.{bytes_at, all_zero}
use Rattle.layout.proofs.BooleanLaws.{below_one}
use Rattle.layout.proofs.ByteLaws.{bytes_at-bytes_at}
use Rattle.layout.proofs.WordLaws.{word_zero}
use Rattle.reader.specs.Fields.{name_limit, info_limit, title_limit, text_limit, note_limit, number_in}
use Rattle.model.specs.Lists.{for_all, all_true}
use Rattle.model.specs.State.{Post, user_limit, post_limit, pending_limit}
use Rattle.model.specs.Board.{cut_board, pending_filler, state_of, decode, decode_post}
use Rattle.model.specs.Soundness.{unused_records_zero, user_strings, post_strings, pending_strings, filler_zero, owners_registered, visibility_valid}
use Rattle.model.proofs.ListLaws.{all_map, all_same, all_both}
use Rattle.board.specs.declared.counted.CountedBoard.{CountedBoard}
use Rattle.board.specs.BoardTests.{records_at, used_users, used_posts, used_pending, holds_string, number_below, table_strings}
use Rattle.board.proofs.RecordPlaces.{used-counts, decoded-count}

-- ---- unused records

-- those of a table behind the first n
abbrev pub unused_zero : List ℕ → ℕ → ℕ → ℕ → ℕ → Bool
unused_zero b base size limit n = for_all all_zero (drop n (records_at b base size limit))

-- ---- strings

-- two fields of each record, one after the other
two-strings : (at limit at' limit' : ℕ) (rs : List (List ℕ))
    → for_all (λ (r : List ℕ). holds_string at limit r && (holds_string at' limit' r && true)) rs
    ≡ (for_all (holds_string at limit) rs && for_all (holds_string at' limit') rs)
two-strings at limit at' limit' rs =
    sym (all_both (holds_string at limit) (λ (r : List ℕ). holds_string at' limit' r && true) rs)
    ∙ ap (λ (t : Bool). for_all (holds_string at limit) rs && t) (all_same _ (holds_string at' limit') (λ r. and-true (holds_string at' limit' r)) rs)

-- every string field of the used records
abbrev pub strings_held : List (List ℕ) → List (List ℕ) → List (List ℕ) → Bool
strings_held users posts pending =
    for_all (holds_string 20 name_limit) users && (for_all (holds_string 46 info_limit) users
    && (for_all (holds_string 12 title_limit) posts && (for_all (holds_string 54 text_limit) posts && for_all (holds_string 4 note_limit) pending)))

-- ---- the clauses, by the used records

module _ (board : CountedBoard) where
  abbrev b : List ℕ
  b = board.bytes.now

  abbrev users : List (List ℕ)
  users = board.users.now

  abbrev posts : List (List ℕ)
  posts = board.posts.now

  abbrev pending : List (List ℕ)
  pending = board.pending.now

  pub unused-tables : unused_records_zero (cut_board b)
      ≡ (unused_zero b 16 104 user_limit (length users)
      && (unused_zero b 3344 312 post_limit (length posts) && unused_zero b 23312 32 pending_limit (length pending)))
  unfolding unused_records_zero all_true for_all cut_board
  unused-tables = let n = used-counts board in rw (n.0, n.1, n.2) (simp and-true)

  pub string-fields : table_strings (cut_board b) ≡ strings_held users posts pending
  unfolding table_strings user_strings post_strings pending_strings holds_string all_true for_all
  string-fields =
      ap₂ (λ (s t : Bool). s && (t && for_all (holds_string 4 note_limit) (used_pending b)))
      (two-strings 20 name_limit 46 info_limit (used_users b)) (two-strings 12 title_limit 54 text_limit (used_posts b))
      ∙ (simp and_assoc) ∙ sym (λ i. strings_held (board.users_used i) (board.posts_used i) (board.pending_used i))

  -- the filler of the header, and those of the pending records as numbers
  pub filler-fields : filler_zero (cut_board b) ≡ (all_zero (bytes_at b 6 10) && for_all (number_below 30 1) pending)
  unfolding filler_zero number_below cut_board
  filler-fields =
      ap₂ ◌&&◌ (ap all_zero (bytes_at-bytes_at b 0 16 6 10 (lit≤ tt)))
      (all_same (λ (r : List ℕ). all_zero (pending_filler r)) (number_below 30 1)
      (λ r. sym (below_one (number_in r 30 2) ∙ word_zero (bytes_at r 30 2))) (used_pending b)
      ∙ ap (for_all (number_below 30 1)) (sym board.pending_used))

  pub owner-fields : owners_registered (decode b) ≡ for_all (number_below 8 (length users)) posts
  unfolding owners_registered decode state_of decode_post number_below
  owner-fields =
      all_map (λ (p : Post). ltb p.owner (length (decode b).users)) decode_post (used_posts b)
      ∙ ap₂ (λ (k : ℕ) (rs : List (List ℕ)). for_all (number_below 8 k) rs) (decoded-count board) (sym board.posts_used)

  pub visibility-fields : visibility_valid (decode b) ≡ for_all (number_below 10 2) posts
  unfolding visibility_valid decode state_of decode_post number_below
  visibility-fields =
      all_map (λ (p : Post). leb p.visibility 1) decode_post (used_posts b)
      ∙ all_same (λ (r : List ℕ). leb (number_in r 10 2) 1) (number_below 10 2) (λ r. sym (leb-suc-suc (number_in r 10 2) 1)) (used_posts b)
      ∙ ap (for_all (number_below 10 2)) (sym board.posts_used)
