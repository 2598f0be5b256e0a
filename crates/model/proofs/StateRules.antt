-- The states that sound boards encode: those that fit the board and keep the rules (`sound_exactly` of SoundnessTheorems).
use Prim.Native.Nat.{ℕ, ◌^◌}
use mathlib.Core.List.{List, [], ◌∷◌}
use mathlib.Core.Bool.{Bool, true, not, ◌&&◌, ◌||◌}
use lib.ListN.{length}
use lib.Dec.{eqb, leb, ltb}
use Rattle.layout.specs.StringFields.{is_string}
use Rattle.model.specs.Lists.{for_all, all_true}
use Rattle.model.specs.State.{State, user_limit, post_limit, pending_limit, note_count}
use Rattle.model.specs.Board.{StoredField, unsigned, string, filler, user_fields, post_fields, pending_fields, note_fields}
use Rattle.model.specs.Soundness.{state_clauses}

-- ---- states that fit

-- the field has room for it
unfoldable pub stored_fits : StoredField → Bool
stored_fits (unsigned width n) = ltb n (256 ^ width)
stored_fits (string limit s) = is_string limit s
stored_fits (filler n) = true

-- a state fits the board: each list has room, and so has every field, and the notes are all there
unfoldable pub table_fits : {A : Type 0} → ℕ → (A → List StoredField) → List A → Bool
table_fits limit fields xs = leb (length xs) limit && for_all (λ x. for_all stored_fits (fields x)) xs

unfoldable pub state_fits : State → Bool
state_fits s =
    all_true (table_fits user_limit user_fields s.users ∷ table_fits post_limit post_fields s.posts
    ∷ table_fits pending_limit pending_fields s.pending ∷ table_fits note_count note_fields s.notes
    ∷ eqb (length s.notes) note_count ∷ [])

-- ---- the rules of a state: what the state of a sound board keeps

-- with no users there is nothing else
unfoldable pub nothing_without_users : State → Bool
nothing_without_users s =
    not (eqb (length s.users) 0)
    || all_true (eqb (length s.posts) 0 ∷ eqb (length s.pending) 0 ∷ for_all (λ (note : List ℕ). eqb (length note) 0) s.notes ∷ [])

unfoldable pub keeps_rules : State → Bool
keeps_rules s = for_all (λ (rule : State → Bool). rule s) (nothing_without_users ∷ state_clauses)
