-- Laws of the tests over lists, of the numbers that a list contains and their places, and of `map` beside `set` and `drop` (beside `take` it
-- is in layout).
use Prim.Native.Nat.{ℕ, zero, suc, ◌-◌, ◌≤◌, ◌<◌, zero-le}
use native.Mathlib.Nat.{not-suc-le-zero, le_of_suc-le-suc, zero-lt-suc, eq-or-lt_of_le, sub-zero}
use native.Mathlib.Omega.{arith}
use mathlib.Core.Path.{◌≡◌, refl, sym, ap, ap₂, ◌∙◌}
use mathlib.Core.Logic.{◌⊎◌, inl, inr}
use mathlib.Core.List.{List, [], ◌∷◌, ◌++◌, map, map-append}
use mathlib.Core.Bool.{Bool, true, false, not, ◌&&◌, ◌||◌, and_assoc, or_assoc, true≢false, or-true}
use lib.ListN.{length, take, drop, get_or, set, replicate, length-append, get_or-map, get_or-append}
use lib.Seq.{map-set_same, get_or-append_seam}
use lib.Dec.{eqb, ltb, leb-zero, leb-suc-suc, eqb-suc-zero}
use borrow.Table.Steps.{cases}
use borrow.Author.Tests.{ltb-true, ltb-false, eqb-true, eqb-false, ne_eqb, not-true, eq-eqb}
use Rattle.layout.specs.Search.{index_of, index_after}
use Rattle.layout.proofs.BooleanLaws.{and_left, and_right, and_both, and_exchange, or_neither, refuted}
use Rattle.layout.proofs.TableLaws.{map-take, index_found, index_le}
use Rattle.model.specs.Lists.{for_all, all_true, all_below, contains, distinct, remove_at}

-- ---- every element passes

module _ {A : Type 0} (p : A → Bool) where
  pub all_at : (xs : List A) (i : ℕ) (d : A) → for_all p xs ≡ true → i < length xs → p (get_or xs i d) ≡ true
  unfolding for_all
  all_at [] i d e h = absurd (not-suc-le-zero h)
  all_at (x ∷ xs) zero d e h = and_left (p x) (for_all p xs) e
  all_at (x ∷ xs) (suc i) d e h = all_at xs i d (and_right (p x) (for_all p xs) e) (le_of_suc-le-suc h)

  pub all_by : (xs : List A) (d : A) → ((i : ℕ) → i < length xs → p (get_or xs i d) ≡ true) → for_all p xs ≡ true
  unfolding for_all
  all_by [] d f = refl
  all_by (x ∷ xs) d f = and_both (f 0 (zero-lt-suc (length xs))) (all_by xs d (λ i h. f (suc i) (omega arith)))

  pub all_append : (xs ys : List A) → for_all p (xs ++ ys) ≡ (for_all p xs && for_all p ys)
  unfolding for_all
  all_append [] ys = refl
  all_append (x ∷ xs) ys = ap (λ (t : Bool). p x && t) (all_append xs ys) ∙ sym (and_assoc (p x) (for_all p xs) (for_all p ys))

  pub all_take : (n : ℕ) (xs : List A) → for_all p xs ≡ true → for_all p (take n xs) ≡ true
  unfolding for_all
  all_take zero xs e = refl
  all_take (suc n) [] e = refl
  all_take (suc n) (x ∷ xs) e = and_both (and_left (p x) (for_all p xs) e) (all_take n xs (and_right (p x) (for_all p xs) e))

  pub all_drop : (n : ℕ) (xs : List A) → for_all p xs ≡ true → for_all p (drop n xs) ≡ true
  unfolding for_all
  all_drop zero xs e = e
  all_drop (suc n) [] e = refl
  all_drop (suc n) (x ∷ xs) e = all_drop n xs (and_right (p x) (for_all p xs) e)

  pub all_set : (xs : List A) (i : ℕ) (a : A) → for_all p xs ≡ true → p a ≡ true → for_all p (set xs i a) ≡ true
  unfolding for_all
  all_set [] i a e h = refl
  all_set (x ∷ xs) zero a e h = and_both h (and_right (p x) (for_all p xs) e)
  all_set (x ∷ xs) (suc i) a e h = and_both (and_left (p x) (for_all p xs) e) (all_set xs i a (and_right (p x) (for_all p xs) e) h)

  pub all_replicate : (n : ℕ) (a : A) → p a ≡ true → for_all p (replicate n a) ≡ true
  unfolding for_all
  all_replicate zero a h = refl
  all_replicate (suc n) a h = and_both h (all_replicate n a h)

pub all_map : {A B : Type 0} (p : B → Bool) (f : A → B) (xs : List A) → for_all p (map f xs) ≡ for_all (λ (x : A). p (f x)) xs
unfolding for_all
all_map p f [] = refl
all_map p f (x ∷ xs) = ap (λ (t : Bool). p (f x) && t) (all_map p f xs)

-- what passes in a list passes at any place, if the default passes too
pub all_default : {A : Type 0} (p : A → Bool) (d : A) → p d ≡ true → (xs : List A) → for_all p xs ≡ true → (i : ℕ) → p (get_or xs i d) ≡ true
unfolding for_all
all_default p d z [] e i = z
all_default p d z (x ∷ xs) e zero = and_left (p x) (for_all p xs) e
all_default p d z (x ∷ xs) e (suc i) = all_default p d z xs (and_right (p x) (for_all p xs) e) i

-- a test of a list of them
pub true_at : (tests : List Bool) (i : ℕ) → all_true tests ≡ true → i < length tests → get_or tests i true ≡ true
unfolding all_true
true_at tests i e h = all_at (λ (t : Bool). t) tests i true e h

-- one test implies another
pub all_weaken : {A : Type 0} (p q : A → Bool) → ((x : A) → p x ≡ true → q x ≡ true) → (xs : List A) → for_all p xs ≡ true → for_all q xs ≡ true
unfolding for_all
all_weaken p q f [] e = refl
all_weaken p q f (x ∷ xs) e = and_both (f x (and_left (p x) (for_all p xs) e)) (all_weaken p q f xs (and_right (p x) (for_all p xs) e))

-- a test that agrees with another
pub all_same : {A : Type 0} (p q : A → Bool) → ((x : A) → p x ≡ q x) → (xs : List A) → for_all p xs ≡ for_all q xs
all_same p q e xs = λ i. for_all (λ x. e x i) xs

-- two tests are one
pub all_both : {A : Type 0} (p q : A → Bool) (xs : List A) → (for_all p xs && for_all q xs) ≡ for_all (λ (x : A). p x && q x) xs
unfolding for_all
all_both p q [] = refl
all_both p q (x ∷ xs) =
    and_exchange (p x) (for_all p xs) (q x) (for_all q xs) ∙ ap (λ (t : Bool). p x && q x && t) (all_both p q xs)

pub all_and : {A : Type 0} (p q : A → Bool) (xs : List A) → for_all p xs ≡ true → for_all q xs ≡ true → for_all (λ (x : A). p x && q x) xs ≡ true
all_and p q xs e f = sym (all_both p q xs) ∙ and_both e f

-- ---- every number below n passes

pub below_at : (n : ℕ) (p : ℕ → Bool) → all_below n p ≡ true → (i : ℕ) → i < n → p i ≡ true
unfolding all_below
below_at zero p e i h = absurd (not-suc-le-zero h)
below_at (suc n) p e i h = by_place (eq-or-lt_of_le (le_of_suc-le-suc h)) (below_at n p (and_left (all_below n p) (p n) e))
  where
    by_place : (i ≡ n) ⊎ (i < n) → ((j : ℕ) → j < n → p j ≡ true) → p i ≡ true
    by_place (inl q) f = ap p q ∙ and_right (all_below n p) (p n) e
    by_place (inr l) f = f i l

pub below_by : (n : ℕ) (p : ℕ → Bool) → ((i : ℕ) → i < n → p i ≡ true) → all_below n p ≡ true
unfolding all_below
below_by zero p f = refl
below_by (suc n) p f = and_both (below_by n p (λ i h. f i (omega arith))) (f n (omega arith))

-- ---- map

module _ {A B : Type 0} (f : A → B) where
  pub map-set : (xs : List A) (i : ℕ) (a : A) → map f (set xs i a) ≡ set (map f xs) i (f a)
  map-set [] i a = refl
  map-set (x ∷ xs) zero a = refl
  map-set (x ∷ xs) (suc i) a = ap (λ (ys : List B). f x ∷ ys) (map-set xs i a)

  pub map-drop : (n : ℕ) (xs : List A) → map f (drop n xs) ≡ drop n (map f xs)
  map-drop zero xs = refl
  map-drop (suc n) [] = refl
  map-drop (suc n) (x ∷ xs) = map-drop n xs

  pub map-replicate : (n : ℕ) (a : A) → map f (replicate n a) ≡ replicate n (f a)
  map-replicate zero a = refl
  map-replicate (suc n) a = ap (λ (ys : List B). f a ∷ ys) (map-replicate n a)

pub drop-replicate : {B : Type 0} (n m : ℕ) (x : B) → n ≤ m → drop n (replicate m x) ≡ replicate (m - n) x
drop-replicate zero m x h = ap (λ (k : ℕ). replicate k x) (sym (sub-zero m))
drop-replicate (suc n) zero x h = absurd (not-suc-le-zero h)
drop-replicate (suc n) (suc m) x h =
    let e : m - n ≡ suc m - suc n = omega arith in
    drop-replicate n m x (le_of_suc-le-suc h) ∙ ap (λ (k : ℕ). replicate k x) e

-- functions that agree on the elements that pass
pub map_agree : {A B : Type 0} (p : A → Bool) (f g : A → B) → ((x : A) → p x ≡ true → f x ≡ g x) → (xs : List A) → for_all p xs ≡ true
    → map f xs ≡ map g xs
unfolding for_all
map_agree p f g h [] e = refl
map_agree {B = B} p f g h (x ∷ xs) e =
    ap₂ (λ (y : B) (ys : List B). y ∷ ys) (h x (and_left (p x) (for_all p xs) e)) (map_agree p f g h xs (and_right (p x) (for_all p xs) e))

-- the image of a list is constant where the function is
pub map_constant : {A B : Type 0} (p : A → Bool) (f : A → B) (y : B) → ((x : A) → p x ≡ true → f x ≡ y) → (xs : List A) → for_all p xs ≡ true
    → map f xs ≡ replicate (length xs) y
unfolding for_all
map_constant p f y h [] e = refl
map_constant {B = B} p f y h (x ∷ xs) e =
    ap₂ (λ (z : B) (zs : List B). z ∷ zs) (h x (and_left (p x) (for_all p xs) e)) (map_constant p f y h xs (and_right (p x) (for_all p xs) e))

pub length_nil : {A : Type 0} (xs : List A) → length xs ≡ 0 → xs ≡ []
length_nil [] e = refl
length_nil (x ∷ xs) e = absurd (omega arith)

-- ---- numbers that a list contains

pub contains_cons : (x y : ℕ) (ys : List ℕ) → contains x (y ∷ ys) ≡ (eqb y x || contains x ys)
unfolding contains index_of
contains_cons x y ys = by_test (eqb y x)
  where
    by_test : (t : Bool) → ltb (index_after t (index_of x ys)) (suc (length ys)) ≡ (t || ltb (index_of x ys) (length ys))
    by_test true = leb-suc-suc 0 (length ys) ∙ leb-zero (length ys)
    by_test false = leb-suc-suc (suc (index_of x ys)) (length ys)

pub contained_at : (xs : List ℕ) (i : ℕ) → i < length xs → contains (get_or xs i 0) xs ≡ true
contained_at [] i h = absurd (not-suc-le-zero h)
contained_at (x ∷ xs) zero h = contains_cons x x xs ∙ ap (λ (t : Bool). t || contains x xs) (eq-eqb x x refl)
contained_at (x ∷ xs) (suc i) h =
    contains_cons (get_or xs i 0) x xs ∙ ap (λ (t : Bool). eqb x (get_or xs i 0) || t) (contained_at xs i (le_of_suc-le-suc h))
    ∙ or-true (eqb x (get_or xs i 0))

pub contains_append : (x : ℕ) (xs ys : List ℕ) → contains x (xs ++ ys) ≡ (contains x xs || contains x ys)
unfolding contains index_of
contains_append x [] ys = refl
contains_append x (y ∷ xs) ys =
    contains_cons x y (xs ++ ys) ∙ ap (λ (t : Bool). eqb y x || t) (contains_append x xs ys)
    ∙ sym (or_assoc (eqb y x) (contains x xs) (contains x ys)) ∙ ap (λ (t : Bool). t || contains x ys) (sym (contains_cons x y xs))

-- a contained number stands at its place, and no other number has that place
pub contained_found : (x : ℕ) (xs : List ℕ) → contains x xs ≡ true → get_or xs (index_of x xs) 0 ≡ x
unfolding contains
contained_found x xs c = index_found x xs (ltb-true (index_of x xs) (length xs) c)

pub index_injective : (x y : ℕ) (xs : List ℕ) → contains x xs ≡ true → index_of x xs ≡ index_of y xs → x ≡ y
unfolding contains
index_injective x y xs c e =
    sym (contained_found x xs c) ∙ ap (λ (i : ℕ). get_or xs i 0) e
    ∙ contained_found y xs (ap (λ (i : ℕ). ltb i (length xs)) (sym e) ∙ c)

-- what all elements pass, a contained number passes
pub all_contained : (p : ℕ → Bool) (xs : List ℕ) (x : ℕ) → for_all p xs ≡ true → contains x xs ≡ true → p x ≡ true
unfolding contains
all_contained p xs x e c =
    ap p (sym (contained_found x xs c)) ∙ all_at p xs (index_of x xs) 0 e (ltb-true (index_of x xs) (length xs) c)

-- the same place, or two behind the first n
abbrev pub SamePlace : ℕ → ℕ → ℕ → Type 0
SamePlace n i k = (i ≡ k) ⊎ ((n ≤ i) × (n ≤ k))

-- numbers added at the end: a place in the list stays, one behind it is behind it still
pub place_added : (x : ℕ) (xs ys : List ℕ) → SamePlace (length xs) (index_of x (xs ++ ys)) (index_of x xs)
unfolding index_of
place_added x [] ys = inr (zero-le, zero-le)
place_added x (y ∷ xs) ys = by_test (eqb y x) (place_added x xs ys)
  where
    by_test : (t : Bool) → SamePlace (length xs) (index_of x (xs ++ ys)) (index_of x xs)
        → SamePlace (suc (length xs)) (index_after t (index_of x (xs ++ ys))) (index_after t (index_of x xs))
    by_test true r = inl refl
    by_test false (inl e) = inl (ap suc e)
    by_test false (inr b) = inr (omega (arith, b.0), omega (arith, b.1))

-- what is constant behind the first n depends on the place only
pub at_same-place : {B : Type 0} (f : ℕ → B) (c : B) (n : ℕ) → ((i : ℕ) → n ≤ i → f i ≡ c) → (i k : ℕ) → SamePlace n i k → f i ≡ f k
at_same-place f c n behind i k (inl e) = ap f e
at_same-place f c n behind i k (inr b) = behind i b.0 ∙ sym (behind k b.1)

-- a number that a list does not contain
module _ (x : ℕ) where
  pub absent_cons : (y : ℕ) (ys : List ℕ) → contains x (y ∷ ys) ≡ false → (eqb y x ≡ false) × (contains x ys ≡ false)
  absent_cons y ys e = or_neither (eqb y x) (contains x ys) (sym (contains_cons x y ys) ∙ e)

  cons_absent : (y : ℕ) (ys : List ℕ) → eqb y x ≡ false → contains x ys ≡ false → contains x (y ∷ ys) ≡ false
  cons_absent y ys e f = contains_cons x y ys ∙ ap₂ (λ (t u : Bool). t || u) e f

  pub absent_add : (xs : List ℕ) (y : ℕ) → contains x xs ≡ false → (y ≡ x → ⊥) → contains x (xs ++ (y ∷ [])) ≡ false
  absent_add xs y e n =
      contains_append x xs (y ∷ [])
      ∙ ap₂ (λ (t u : Bool). t || u) e (cons_absent y [] (ne_eqb y x n) (unfold contains index_of in refl))

  pub absent_remove : (i : ℕ) (xs : List ℕ) → contains x xs ≡ false → contains x (remove_at i xs) ≡ false
  unfolding remove_at
  absent_remove zero [] e = e
  absent_remove (suc i) [] e = e
  absent_remove zero (y ∷ ys) e = (absent_cons y ys e).1
  absent_remove (suc i) (y ∷ ys) e = let a = absent_cons y ys e in cons_absent y (remove_at i ys) a.0 (absent_remove i ys a.1)

-- a search in a list of n numbers finds no place for it
pub absent_by_search : (x : ℕ) (xs : List ℕ) {n : ℕ} → length xs ≡ n → eqb (index_of x xs) n ≡ not (contains x xs)
unfolding contains
absent_by_search x xs {n} q =
    cases (ltb (index_of x xs) (length xs))
    (λ e. let h = ltb-true (index_of x xs) (length xs) e in ne_eqb (index_of x xs) n (λ f. omega arith) ∙ ap not (sym e))
    (λ e.
    let h = ltb-false (index_of x xs) (length xs) e in
    let l = index_le x xs in
    eq-eqb (index_of x xs) n (omega arith) ∙ ap not (sym e))

-- 0 is not in a list exactly if every number of it is above 0
pub zero_absent : (xs : List ℕ) → not (contains 0 xs) ≡ for_all (ltb 0) xs
unfolding for_all contains index_of
zero_absent [] = refl
zero_absent (x ∷ xs) = ap not (contains_cons 0 x xs) ∙ first x ∙ ap (λ (t : Bool). ltb 0 x && t) (zero_absent xs)
  where
    first : (x : ℕ) → not (eqb x 0 || contains 0 xs) ≡ (ltb 0 x && not (contains 0 xs))
    first zero = refl
    first (suc x) = rw (eqb-suc-zero x, leb-suc-suc 0 x, leb-zero x)

-- where no number of ks is in xs, none is in xs with a further number
pub none_in_add : (xs ks : List ℕ) (x : ℕ) → for_all (λ (k : ℕ). not (contains k xs)) ks ≡ true → contains x ks ≡ false
    → for_all (λ (k : ℕ). not (contains k (xs ++ (x ∷ [])))) ks ≡ true
unfolding for_all
none_in_add xs [] x e n = refl
none_in_add xs (k ∷ ks) x e n =
    let a = absent_cons x k ks n in
    let outside : Bool = for_all (λ (j : ℕ). not (contains j xs)) ks in
    let first : contains k xs ≡ false = not-true (contains k xs) (and_left (not (contains k xs)) outside e) in
    and_both (ap not (absent_add k xs x first (λ q. eqb-false k x a.0 (sym q))))
    (none_in_add xs ks x (and_right (not (contains k xs)) outside e) a.1)

-- ---- distinct numbers

module _ (y : ℕ) (ys : List ℕ) (e : distinct (y ∷ ys) ≡ true) where
  distinct_head : contains y ys ≡ false
  unfolding distinct
  distinct_head = not-true (contains y ys) (and_left (not (contains y ys)) (distinct ys) e)

  distinct_tail : distinct ys ≡ true
  unfolding distinct
  distinct_tail = and_right (not (contains y ys)) (distinct ys) e

-- the numbers at two places of a list without duplicates differ
pub distinct_places : (xs : List ℕ) → distinct xs ≡ true → (i j : ℕ) → i < j → j < length xs → get_or xs i 0 ≡ get_or xs j 0 → ⊥
distinct_places [] d i j h l e = absurd (not-suc-le-zero l)
distinct_places (x ∷ xs) d i zero h l e = absurd (not-suc-le-zero h)
distinct_places (x ∷ xs) d zero (suc j) h l e =
    true≢false (sym (contained_at xs j (le_of_suc-le-suc l)) ∙ ap (λ (y : ℕ). contains y xs) (sym e)
    ∙ distinct_head x xs d)
distinct_places (x ∷ xs) d (suc i) (suc j) h l e =
    distinct_places xs (distinct_tail x xs d) i j (le_of_suc-le-suc h) (le_of_suc-le-suc l) e

-- so none stands twice
pub repeated : (xs : List ℕ) (x : ℕ) (ys : List ℕ) → contains x xs ≡ true → distinct (xs ++ (x ∷ ys)) ≡ false
unfolding contains
repeated xs x ys c =
    let h = ltb-true (index_of x xs) (length xs) c in
    let l = length-append xs (x ∷ ys) in
    refuted (distinct (xs ++ (x ∷ ys))) (λ d.
    distinct_places (xs ++ (x ∷ ys)) d (index_of x xs) (length xs) h (omega arith)
    (get_or-append xs (x ∷ ys) 0 (index_of x xs) h ∙ contained_found x xs c ∙ sym (get_or-append_seam xs x ys 0)))

-- and each is found at its place
pub distinct_index : (xs : List ℕ) → distinct xs ≡ true → (i : ℕ) → i < length xs → index_of (get_or xs i 0) xs ≡ i
unfolding index_of
distinct_index [] d i h = absurd (not-suc-le-zero h)
distinct_index (x ∷ xs) d zero h = ap (λ (t : Bool). index_after t (index_of x xs)) (eq-eqb x x refl)
distinct_index (x ∷ xs) d (suc i) h =
    ap (λ (t : Bool). index_after t (index_of (get_or xs i 0) xs)) (ne_eqb x (get_or xs i 0) (distinct_places (x ∷ xs) d 0 (suc i) (zero-lt-suc i) h))
    ∙ ap suc (distinct_index xs (distinct_tail x xs d) i (le_of_suc-le-suc h))

pub distinct_add : (xs : List ℕ) (x : ℕ) → distinct xs ≡ true → contains x xs ≡ false → distinct (xs ++ (x ∷ [])) ≡ true
unfolding distinct contains index_of
distinct_add [] x e n = refl
distinct_add (y ∷ ys) x e n =
    let a = absent_cons x y ys n in
    and_both (ap not (absent_add y ys x (distinct_head y ys e) (λ q. eqb-false y x a.0 (sym q)))) (distinct_add ys x (distinct_tail y ys e) a.1)

pub distinct_remove : (i : ℕ) (xs : List ℕ) → distinct xs ≡ true → distinct (remove_at i xs) ≡ true
unfolding distinct remove_at
distinct_remove zero [] e = e
distinct_remove (suc i) [] e = e
distinct_remove zero (y ∷ ys) e = distinct_tail y ys e
distinct_remove (suc i) (y ∷ ys) e =
    and_both (ap not (absent_remove y i ys (distinct_head y ys e))) (distinct_remove i ys (distinct_tail y ys e))

-- removed from a list of distinct numbers, a number is no longer in it
pub removed_absent : (x : ℕ) (xs : List ℕ) → distinct xs ≡ true → contains x (remove_at (index_of x xs) xs) ≡ false
unfolding remove_at index_of
removed_absent x [] e = unfold contains in refl
removed_absent x (y ∷ ys) e = by_test (eqb y x) refl (removed_absent x ys (distinct_tail y ys e))
  where
    by_test : (t : Bool) → eqb y x ≡ t → contains x (remove_at (index_of x ys) ys) ≡ false
        → contains x (remove_at (index_after t (index_of x ys)) (y ∷ ys)) ≡ false
    by_test true q f = ap (λ (z : ℕ). contains z ys) (sym (eqb-true y x q)) ∙ distinct_head y ys e
    by_test false q f = cons_absent x y (remove_at (index_of x ys) ys) q f

-- ---- an element removed

pub all_remove : {A : Type 0} (p : A → Bool) (i : ℕ) (xs : List A) → for_all p xs ≡ true → for_all p (remove_at i xs) ≡ true
unfolding remove_at
all_remove p i xs e =
    all_append p (take i xs) (drop (suc i) xs) ∙ and_both (all_take p i xs e) (all_drop p (suc i) xs e)

pub map_remove : {A B : Type 0} (f : A → B) (i : ℕ) (xs : List A) → map f (remove_at i xs) ≡ remove_at i (map f xs)
unfolding remove_at
map_remove {B = B} f i xs =
    map-append f (take i xs) (drop (suc i) xs) ∙ ap₂ (λ (ys zs : List B). ys ++ zs) (map-take f i xs) (map-drop f (suc i) xs)

-- ---- a field of the elements that a changed or an added element has too

pub field-set : {A B : Type 0} (f : A → B) (xs : List A) (i : ℕ) (y d : A) → f y ≡ f (get_or xs i d) → (j : ℕ)
    → f (get_or (set xs i y) j d) ≡ f (get_or xs j d)
field-set {B = B} f xs i y d e j =
    sym (get_or-map f (set xs i y) j d) ∙ ap (λ (ys : List B). get_or ys j (f d)) (map-set_same f xs i y d e) ∙ get_or-map f xs j d

pub field_add : {A B : Type 0} (f : A → B) (xs : List A) (y d : A) → f y ≡ f d → (j : ℕ) → f (get_or (xs ++ (y ∷ [])) j d) ≡ f (get_or xs j d)
field_add f [] y d e zero = e
field_add f [] y d e (suc j) = refl
field_add f (x ∷ xs) y d e zero = refl
field_add f (x ∷ xs) y d e (suc j) = field_add f xs y d e j
