-- Tests over lists, in the form in which the rules of a board are written down.
use Rattle.std.specs.Prelude.{ℕ, zero, suc, List, [], ◌∷◌, ◌++◌, Bool, true, not, ◌&&◌, length, take, drop, ltb}
use Rattle.layout.specs.Search.{index_of}

-- every element of a list passes; the library's `all` cannot be unfolded, so nothing could be computed with it
unfoldable pub for_all : {A : Type 0} → (A → Bool) → List A → Bool
for_all p [] = true
for_all p (x ∷ xs) = p x && for_all p xs

-- every test of a list holds
unfoldable pub all_true : List Bool → Bool
all_true tests = for_all (λ (t : Bool). t) tests

-- every number below n passes
unfoldable pub all_below : ℕ → (ℕ → Bool) → Bool
all_below zero p = true
all_below (suc n) p = all_below n p && p n

-- x is in the list; its place is `index_of` of layout's `Search`
unfoldable pub contains : ℕ → List ℕ → Bool
contains x xs = ltb (index_of x xs) (length xs)

-- no element stands twice
unfoldable pub distinct : List ℕ → Bool
distinct [] = true
distinct (x ∷ xs) = not (contains x xs) && distinct xs

-- the list without its element at place i; the later ones move up
unfoldable pub remove_at : {A : Type 0} → ℕ → List A → List A
remove_at i xs = take i xs ++ drop (suc i) xs
