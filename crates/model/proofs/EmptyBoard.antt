-- The empty board: it is the board of the empty state, and a state with no users that keeps the rules is the empty one.
use Prim.Native.Nat.{ℕ, ◌+◌, ◌*◌, ◌≤◌, zero-le}
use native.Mathlib.Nat.{le_refl}
use mathlib.Core.Path.{◌≡◌, refl, sym, ap, ◌∙◌}
use mathlib.Core.List.{List, [], ◌∷◌, flatten, append-nil, map-id}
use mathlib.Core.Bool.{Bool, true, ◌||◌, not}
use lib.ListN.{length, replicate, replicate-append-replicate}
use lib.Dec.{eqb, lit<}
use borrow.Author.Tests.{eqb-true}
use Rattle.layout.specs.Numbers.{to_le_bytes}
use Rattle.layout.proofs.ConcatenationLaws.{flatten-zeros}
use Rattle.layout.specs.StringFields.{is_string}
use Rattle.model.specs.Lists.{for_all, all_true, all_below, distinct}
use Rattle.model.specs.State.{State, user_limit, post_limit, pending_limit, note_count, no_user, no_post, no_pending, empty_state, user_numbers, post_numbers, pending_numbers, user_at, notes_to}
use Rattle.model.specs.Board.{stored_bytes, record_bytes, header_fields, note_fields, join_records, records_of, encode, empty_board}
use Rattle.model.specs.Soundness.{numbers_not_zero, numbers_distinct, pending_not_registered, friends_symmetric, no_own_bit, bits_below_count, notes_requested, owners_registered, visibility_valid, friends_not_requested}
use Rattle.model.proofs.StateRules.{stored_fits, table_fits, state_fits, nothing_without_users, keeps_rules}
use Rattle.layout.specs.Bits.{bit_at, has_bit}
use Rattle.model.proofs.ListLaws.{true_at, map_constant, length_nil}
use Rattle.model.proofs.TableRecordLaws.{codec_table, zero-table}
use Rattle.model.proofs.RecordLaws.{RecordCodec}
use Rattle.model.proofs.RecordTheorems.{zero-user, zero-post, zero-pending, zero-note, user_codec, post_codec, pending_codec, note_codec}
use Rattle.model.proofs.CutLaws.{regions}
use Rattle.model.proofs.BoardTheorems.{FittingState}

-- ---- its bytes

zero_region : {A : Type 0} (c : RecordCodec A) (limit : ℕ) (x : A) → record_bytes (c.fields x) ≡ replicate c.size 0 → (n : ℕ) → n ≤ limit
    → flatten (codec_table c limit (replicate n x)) ≡ replicate (limit * c.size) 0
zero_region c limit x e n h = ap flatten (zero-table c limit x e n h) ∙ flatten-zeros limit c.size

runs : (a b c d e : ℕ)
    → flatten {A = ℕ} (replicate a 0 ∷ replicate b 0 ∷ replicate c 0 ∷ replicate d 0 ∷ replicate e 0 ∷ []) ≡ replicate (a + (b + (c + (d + e)))) 0
unfolding flatten
runs a b c d e = simp (append-nil, replicate-append-replicate)

zero-header : record_bytes (header_fields empty_state) ≡ replicate 16 0
unfolding record_bytes header_fields stored_bytes to_le_bytes flatten empty_state
zero-header = refl

pub empty-encoded : encode empty_state ≡ empty_board
unfolding encode empty_board join_records records_of empty_state
empty-encoded =
    let us = zero_region user_codec user_limit no_user zero-user 0 zero-le in
    let ps = zero_region post_codec post_limit no_post zero-post 0 zero-le in
    let ks = zero_region pending_codec pending_limit no_pending zero-pending 0 zero-le in
    let ns = zero_region note_codec note_count [] zero-note note_count (le_refl note_count) in
    let five : regions (records_of empty_state) ≡ replicate 16 0 ∷ replicate 3328 0 ∷ replicate 19968 0 ∷ replicate 512 0 ∷ replicate 26624 0 ∷ [] =
    λ i. zero-header i ∷ us i ∷ ps i ∷ ks i ∷ ns i ∷ []
    in
    ap flatten five ∙ runs 16 3328 19968 512 26624

-- ---- its state

pub empty-fits : state_fits empty_state ≡ true
unfolding state_fits table_fits all_true for_all note_fields stored_fits is_string empty_state
empty-fits = refl

pub empty_nothing : nothing_without_users empty_state ≡ true
unfolding nothing_without_users all_true for_all empty_state
empty_nothing = refl

pub empty-keeps : keeps_rules empty_state ≡ true
unfolding keeps_rules nothing_without_users numbers_not_zero numbers_distinct pending_not_registered friends_symmetric no_own_bit bits_below_count notes_requested owners_registered visibility_valid friends_not_requested all_true for_all all_below distinct user_numbers post_numbers pending_numbers user_at notes_to has_bit bit_at empty_state
empty-keeps = refl

-- a state with no users that keeps the rules is the empty state
pub no_users : (s : State) → FittingState s → nothing_without_users s ≡ true → length s.users ≡ 0 → s ≡ empty_state
unfolding nothing_without_users empty_state
no_users s f r z =
    let tests : List Bool =
    eqb (length s.posts) 0 ∷ eqb (length s.pending) 0 ∷ for_all (λ (note : List ℕ). eqb (length note) 0) s.notes ∷ []
    in
    let t : all_true tests ≡ true = sym (ap (λ (n : ℕ). not (eqb n 0) || all_true tests) z) ∙ r in
    let us = length_nil s.users z in
    let ps = length_nil s.posts (eqb-true (length s.posts) 0 (true_at tests 0 t (lit< tt))) in
    let ks = length_nil s.pending (eqb-true (length s.pending) 0 (true_at tests 1 t (lit< tt))) in
    let empty : (note : List ℕ) → eqb (length note) 0 ≡ true → note ≡ [] = λ note e. length_nil note (eqb-true (length note) 0 e) in
    let ns : s.notes ≡ replicate note_count [] =
    sym (map-id s.notes)
    ∙ map_constant (λ (note : List ℕ). eqb (length note) 0) (λ (note : List ℕ). note) [] empty s.notes (true_at tests 2 t (lit< tt))
    ∙ ap (λ (n : ℕ). replicate n []) f.full
    in
    λ i. record { users = us i; posts = ps i; pending = ks i; notes = ns i }
