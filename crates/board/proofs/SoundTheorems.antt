-- The clauses in the groups in which the code tests them: together they are soundness.
use Prim.Native.Nat.{ℕ}
use mathlib.Core.Path.{◌≡◌, refl, sym, ap, ◌∙◌}
use mathlib.Core.List.{List}
use mathlib.Core.Bool.{Bool, true, false, not, ◌&&◌, ◌||◌, and_assoc, and-true, and-false}
use lib.ListN.{length, replicate}
use lib.Dec.{eqb}
use borrow.Author.Tests.{ne_eqb, eq-eqb, eqb-true, eqb-false}
use borrow.Table.Steps.{cases}
use Rattle.layout.specs.Bytes.{bytes_at, all_zero}
use Rattle.layout.specs.StringFields.{is_string_field}
use Rattle.layout.proofs.BooleanLaws.{tests_agree, refuted}
use Rattle.layout.proofs.ByteLaws.{bytes_at_all, zero-replicate}
use Rattle.reader.specs.Fields.{note_limit}
use Rattle.model.specs.Lists.{for_all, all_true}
use Rattle.model.specs.Board.{board_size, cut_board, user_count, decode, empty_board}
use Rattle.model.specs.Soundness.{counts_within_limits, unused_records_zero, strings_within_limits, filler_zero, numbers_not_zero, numbers_distinct, pending_not_registered, friends_symmetric, no_own_bit, bits_below_count, friends_not_requested, notes_requested, owners_registered, visibility_valid, zero_without_users, clause_results, is_sound}
use Rattle.model.proofs.SoundnessTheorems.{sound_parts, empty-sound, wrong-length}
use Rattle.board.specs.declared.counted.CountedBoard.{CountedBoard}
use Rattle.board.specs.BoardTests.{BoardWithinLimits, table_strings}
use Rattle.board.proofs.RecordPlaces.{used-counts}

-- ---- the groups in which the code tests the clauses

abbrev pub record_group : List ℕ → Bool
record_group b = unused_records_zero (cut_board b) && (table_strings (cut_board b) && filler_zero (cut_board b))

abbrev pub number_group : List ℕ → Bool
number_group b = numbers_not_zero (decode b) && (numbers_distinct (decode b) && pending_not_registered (decode b))

abbrev pub friend_group : List ℕ → Bool
friend_group b = friends_symmetric (decode b) && (no_own_bit (decode b) && (bits_below_count (decode b) && friends_not_requested (decode b)))

abbrev pub note_group : List ℕ → Bool
note_group b = for_all (is_string_field note_limit) (cut_board b).notes && notes_requested (decode b)

abbrev pub post_group : List ℕ → Bool
post_group b = owners_registered (decode b) && visibility_valid (decode b)

abbrev pub all_groups : List ℕ → Bool
all_groups b = record_group b && (number_group b && (friend_group b && (note_group b && post_group b)))

-- ---- soundness

module _ (b : List ℕ) (l : length b ≡ board_size) where
  -- with no users a board is sound exactly if all of it is zero
  pub sound_empty : user_count (cut_board b) ≡ 0 → all_zero (bytes_at b 0 board_size) ≡ is_sound b
  unfolding zero_without_users
  sound_empty n =
      let same : all_zero (bytes_at b 0 board_size) ≡ all_zero b = ap all_zero (bytes_at_all b board_size l) in
      let clause : zero_without_users b ≡ all_zero b = ap (λ (k : ℕ). not (eqb k 0) || all_zero b) n in
      same
      ∙ tests_agree (all_zero b) (is_sound b)
      (λ z. ap is_sound (zero-replicate b z ∙ ap (λ (k : ℕ). replicate k 0) l) ∙ unfold empty_board in empty-sound)
      (λ e. sym clause ∙ (sound_parts b e).zero-part)

  -- a board whose counts are not within limits is not sound
  pub counts_fail : counts_within_limits (cut_board b) ≡ false → false ≡ is_sound b
  unfolding is_sound clause_results all_true for_all
  counts_fail e = rw (eq-eqb (length b) board_size l, e) refl

  -- with users, on a board whose counts are within limits, the groups are soundness: the same tests, but those of the notes and of
  -- requests between friends stand elsewhere
  pub sound_groups : (user_count (cut_board b) ≡ 0 → ⊥) → counts_within_limits (cut_board b) ≡ true
      → all_groups b ≡ is_sound b
  unfolding is_sound clause_results zero_without_users strings_within_limits table_strings all_true for_all
  sound_groups n k =
      rw (eq-eqb (length b) board_size l, k, ne_eqb (user_count (cut_board b)) 0 n)
      (cases (for_all (is_string_field note_limit) (cut_board b).notes)
      (λ e. cases (friends_not_requested (decode b)) (λ a. rw (e, a) (simp (and_assoc, and-true))) (λ a. rw (e, a) (simp (and_assoc, and-false))))
      (λ e. rw e (simp (and_assoc, and-false))))

-- a board whose length is another, or one of whose counts is over its limit, is not sound
pub uncounted_fails : (b : List ℕ) → (BoardWithinLimits b → ⊥) → false ≡ is_sound b
uncounted_fails b n =
    cases (eqb (length b) board_size)
    (λ l. let size = eqb-true (length b) board_size l in counts_fail b size (refuted (counts_within_limits (cut_board b)) (λ k. n (size, k))))
    (λ l. sym (wrong-length b (eqb-false (length b) board_size l)))

-- a counted board is sound, with no users, exactly if all of it is zero, and else exactly if the groups hold
module _ (board : CountedBoard) where
  pub sound-empty : length board.users.now ≡ 0 → all_zero (bytes_at board.bytes.now 0 board_size) ≡ is_sound board.bytes.now
  sound-empty e = sound_empty board.bytes.now board.within.0 (sym (used-counts board).0 ∙ e)

  pub sound-groups : (length board.users.now ≡ 0 → ⊥) → all_groups board.bytes.now ≡ is_sound board.bytes.now
  sound-groups n = sound_groups board.bytes.now board.within.0 (λ e. n ((used-counts board).0 ∙ e)) board.within.1
