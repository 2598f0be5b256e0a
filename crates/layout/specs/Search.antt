-- The index of a number in a list.
use Rattle.std.specs.Prelude.{ℕ, suc, Bool, true, false, cond, List, [], ◌∷◌, eqb, ltb, Option, Some, None}

-- the index in a list with one more element in front: 0 if that element is the number, else one more than in the rest
abbrev pub index_after : Bool → ℕ → ℕ
index_after true i = 0
index_after false i = suc i

-- the index of the first x in a list, or the list's length where there is none
unfoldable pub index_of : ℕ → List ℕ → ℕ
index_of x [] = 0
index_of x (y ∷ ys) = index_after (eqb y x) (index_of x ys)

-- a place among n, or none: what a search in a list of n elements gives for the index
abbrev pub place_below : ℕ → ℕ → Option ℕ
place_below n i = cond (ltb i n) (Some i) None
