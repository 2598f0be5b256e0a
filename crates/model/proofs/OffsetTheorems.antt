-- The offsets of docs/FORMAT.md: where the fields of header and records stand, and the regions of the board.
use Prim.Native.Nat.{ℕ, ◌+◌}
use mathlib.Core.Path.{◌≡◌, refl, ap}
use mathlib.Core.List.{List, [], ◌∷◌, map}
use lib.ListN.{length}
use Rattle.model.specs.State.{User, Post, Pending, State}
use Rattle.model.specs.Board.{records_of, header_fields, user_fields, post_fields, pending_fields, note_fields}
use Rattle.model.proofs.RecordLaws.{stored_size}
use Rattle.model.proofs.CutLaws.{regions, sizes-regions}
use Rattle.model.proofs.BoardTheorems.{FittingState, right_sizes}

-- where parts of these sizes start, one behind the other, and where the last one ends
unfoldable pub starts_of : ℕ → List ℕ → List ℕ
starts_of at [] = at ∷ []
starts_of at (z ∷ zs) = at ∷ starts_of (at + z) zs

-- the fields of header and records, as they are written
pub field_offsets : (s : State) (u : User) (p : Post) (k : Pending) (note : List ℕ)
    → (starts_of 0 (map stored_size (header_fields s)) ≡ 0 ∷ 2 ∷ 4 ∷ 6 ∷ 16 ∷ [])
    × (starts_of 0 (map stored_size (user_fields u)) ≡ 0 ∷ 4 ∷ 12 ∷ 16 ∷ 20 ∷ 46 ∷ 104 ∷ [])
    × (starts_of 0 (map stored_size (post_fields p)) ≡ 0 ∷ 4 ∷ 8 ∷ 10 ∷ 12 ∷ 54 ∷ 312 ∷ [])
    × (starts_of 0 (map stored_size (pending_fields k)) ≡ 0 ∷ 4 ∷ 30 ∷ 32 ∷ [])
    × (starts_of 0 (map stored_size (note_fields note)) ≡ 0 ∷ 26 ∷ [])
unfolding starts_of stored_size header_fields user_fields post_fields pending_fields note_fields
field_offsets s u p k note = (refl, refl, refl, refl, refl)

-- header, users, posts, pending and notes of a state that fits
pub region_offsets : (s : State) → FittingState s
    → starts_of 0 (map length (regions (records_of s))) ≡ 0 ∷ 16 ∷ 3344 ∷ 23312 ∷ 23824 ∷ 50448 ∷ []
unfolding starts_of
region_offsets s f = ap (starts_of 0) (sizes-regions (records_of s) (right_sizes s f))
