-- Laws of rows of bits: what a shift leaves, a bit after another one was set or cleared, bounds, and the places of the set bits.
use Prim.Native.Nat.{ℕ, zero, suc, ◌+◌, ◌-◌, ◌*◌, ◌/◌, ◌%◌, ◌^◌, min, max, ◌≤◌, ◌<◌}
use native.Mathlib.Nat.{add-zero, add-mul, one-mul, zero-mul, sub-zero, sub-le, le_refl, lt_of_lt_of_le, max-zero, max-eq_right, mod-lt, mod-one, mod-eq_of_lt, div-eq_of_lt, div-lt_iff_lt-mul, add-mul-div_right, eq-or-lt_of_le, le_of_suc-le-suc}
use native.Mathlib.Numerals.{add-one, one-add}
use native.Mathlib.Omega.{arith}
use mathlib.Core.Path.{◌≡◌, refl, sym, ap, ap₂, ◌∙◌, subst}
use mathlib.Core.Logic.{◌≢◌, inl, inr}
use mathlib.Core.Bool.{Bool, true, false, cond, true≢false}
use mathlib.Core.List.Memᴰ
use mathlib.Core.List.{List, [], ◌∷◌, ◌++◌, map, map-append, append-nil, Memᴰ}
use lib.ListN.{length, length-append}
use lib.Dec.{eqb, ltb, lit≤}
use lib.Bits.{bit_and, bit_or, or_add_and, or_disjoint, or_lt, and_le_l}
use lib.Count.{ones, ones_cat}
use lib.Pow.{pow_pos, pow_mono, pow-lt, mod-pow-add}
use borrow.Table.Steps.{cases}
use borrow.Author.Tests.{lt-ltb, le-ltb, ltb-true, ltb-false, eq-eqb, eqb-true}
use Rattle.std.proofs.lemmas.Nat.Bits.{bit_at_above, bit_at-pow_same, bit_at-pow_other, bit_at_or, bit_at_and, bit_at-zero, bit_at_ones, and_pow, same_from_bits_below}
use Rattle.layout.specs.Bits.{bit_at, has_bit, set_bit, clear_bit, set_places}
use Rattle.layout.proofs.BooleanLaws.{tests_agree}

-- ---- a row shifted

-- nothing is left of a row below 2 ^ n after a shift by n or more
shift_none : (row n j : ℕ) → row < 2 ^ n → n ≤ j → row / 2 ^ j ≡ 0
shift_none row n j h l = div-eq_of_lt (lt_of_lt_of_le h (pow_mono l))

-- and only of such a row
pub below_power : (row n : ℕ) → ltb row (2 ^ n) ≡ eqb (row / 2 ^ n) 0
below_power row n =
    tests_agree (ltb row (2 ^ n)) (eqb (row / 2 ^ n) 0) (λ e. eq-eqb (row / 2 ^ n) 0 (shift_none row n n (ltb-true row (2 ^ n) e) (le_refl n)))
    (λ e.
    let z = eqb-true (row / 2 ^ n) 0 e in
    let h : row < 1 * 2 ^ n = (div-lt_iff_lt-mul (pow_pos n)).0 (omega arith) in
    lt-ltb row (2 ^ n) (omega arith))

-- so where something is left, the shift was by less than n
pub shift_below : (row n j : ℕ) → row < 2 ^ n → row / 2 ^ j ≢ 0 → j < n
shift_below row n j h left = cases (ltb j n) (ltb-true j n) (λ e. absurd (left (shift_none row n j h (ltb-false j n e))))

-- ---- a bit

pub bit_lt : (row j : ℕ) → bit_at row j < 2
unfolding bit_at
bit_lt row j = omega arith

-- a row below 2 ^ n has no bit at or above n
pub bit_beyond : (row n j : ℕ) → row < 2 ^ n → n ≤ j → bit_at row j ≡ 0
unfolding bit_at
bit_beyond row n j h l = bit_at_above row n j h l

pub bit_power : (j : ℕ) → bit_at (2 ^ j) j ≡ 1
unfolding bit_at
bit_power j = bit_at-pow_same j

bit_power_other : (j k : ℕ) → k ≢ j → bit_at (2 ^ j) k ≡ 0
unfolding bit_at
bit_power_other j k n = bit_at-pow_other j k n

pub bit_or_lem : (a b k : ℕ) → bit_at (bit_or a b) k ≡ max (bit_at a k) (bit_at b k)
unfolding bit_at
bit_or_lem a b k = bit_at_or a b k

pub bit_and_lem : (a b k : ℕ) → bit_at (bit_and a b) k ≡ min (bit_at a k) (bit_at b k)
unfolding bit_at
bit_and_lem a b k = bit_at_and a b k

-- a row below 2 ^ n without a bit below n is 0
pub no_bits : (n row : ℕ) → row < 2 ^ n → ((j : ℕ) → j < n → bit_at row j ≡ 0) → row ≡ 0
unfolding bit_at
no_bits n row h e = same_from_bits_below n row 0 h (pow_pos n) (λ j l. e j l ∙ sym (bit_at-zero j))

-- ---- set and clear, as the code does them: by an or, and by an and with all other bits

pub and_power : (row j : ℕ) → bit_and row (2 ^ j) ≡ bit_at row j * 2 ^ j
unfolding bit_at
and_power row j = and_pow row j

pub set_or : (row j : ℕ) → j < 32 → set_bit row j ≡ bit_or row (2 ^ j)
unfolding set_bit
set_or row j h =
    ap (λ (t : Bool). cond t (row + (1 - bit_at row j) * 2 ^ j) row) (lt-ltb j 32 h)
    ∙ sums (bit_at row j) (2 ^ j) (bit_lt row j) (or_add_and row (2 ^ j)) (and_power row j)
  where
    sums : (b p : ℕ) → b < 2 → bit_or row p + bit_and row p ≡ row + p → bit_and row p ≡ b * p → row + (1 - b) * p ≡ bit_or row p
    sums b p l o a =
        let e : b + (1 - b) ≡ 1 = omega arith in
        let s : b * p + (1 - b) * p ≡ p = sym (add-mul b (1 - b) p) ∙ ap (λ (x : ℕ). x * p) e ∙ one-mul p in
        omega arith

pub set_beyond : (row j : ℕ) → 32 ≤ j → set_bit row j ≡ row
unfolding set_bit
set_beyond row j h = ap (λ (t : Bool). cond t (row + (1 - bit_at row j) * 2 ^ j) row) (le-ltb j 32 h)

-- a 1 shifted by less than the width
pub one_shifted : {w : ℕ} (j : ℕ) → j < w → 1 * 2 ^ j % 2 ^ w ≡ 2 ^ j
one_shifted j h = rw one-mul (mod-eq_of_lt (pow-lt h))

pub clear_beyond : (row j : ℕ) → row < 2 ^ 32 → 32 ≤ j → clear_bit row j ≡ row
unfolding clear_bit
clear_beyond row j l h = rw (bit_beyond row 32 j l h, zero-mul, sub-zero)

-- ---- bits after a bit was set

pub bit-set : (row j : ℕ) → j < 32 → bit_at (set_bit row j) j ≡ 1
bit-set row j h =
    let l = bit_lt row j in
    ap (λ (x : ℕ). bit_at x j) (set_or row j h) ∙ bit_or_lem row (2 ^ j) j
    ∙ ap (max (bit_at row j)) (bit_power j) ∙ max-eq_right {n = bit_at row j} {m = 1} (omega arith)

or_other : (row j k : ℕ) → k ≢ j → bit_at (bit_or row (2 ^ j)) k ≡ bit_at row k
or_other row j k n = bit_or_lem row (2 ^ j) k ∙ ap (max (bit_at row k)) (bit_power_other j k n) ∙ max-zero (bit_at row k)

pub bit-set_other : (row j k : ℕ) → k ≢ j → bit_at (set_bit row j) k ≡ bit_at row k
bit-set_other row j k n =
    cases (ltb j 32) (λ e. ap (λ (x : ℕ). bit_at x k) (set_or row j (ltb-true j 32 e)) ∙ or_other row j k n)
    (λ e. ap (λ (x : ℕ). bit_at x k) (set_beyond row j (ltb-false j 32 e)))

-- ---- bits after a bit was cleared

pub clear_le : (row j : ℕ) → clear_bit row j ≤ row
unfolding clear_bit
clear_le row j = sub-le row (bit_at row j * 2 ^ j)

clear_add : (row j : ℕ) → clear_bit row j + bit_at row j * 2 ^ j ≡ row
unfolding clear_bit
clear_add row j = let l : bit_at row j * 2 ^ j ≤ row = rw and_power at (and_le_l row (2 ^ j)) in omega arith

pub bit_clear : (row j : ℕ) → bit_at (clear_bit row j) j ≡ 0
unfolding bit_at
bit_clear row j =
    let d : row / 2 ^ j ≡ clear_bit row j / 2 ^ j + bit_at row j =
    ap (λ (x : ℕ). x / 2 ^ j) (sym (clear_add row j)) ∙ add-mul-div_right (clear_bit row j) (bit_at row j) (pow_pos j)
    in
    omega arith

pub bit_clear_other : (row j k : ℕ) → k ≢ j → bit_at (clear_bit row j) k ≡ bit_at row k
bit_clear_other row j k n = by_test (bit_at row j) (bit_lt row j) (clear_add row j)
  where
    by_test : (b : ℕ) → b < 2 → clear_bit row j + b * 2 ^ j ≡ row → bit_at (clear_bit row j) k ≡ bit_at row k
    by_test zero h e = let s : clear_bit row j ≡ row = omega arith in ap (λ (x : ℕ). bit_at x k) s
    by_test (suc zero) h e =
        let d : bit_and (clear_bit row j) (2 ^ j) ≡ 0 =
        and_power (clear_bit row j) j ∙ ap (λ (x : ℕ). x * 2 ^ j) (bit_clear row j) ∙ zero-mul (2 ^ j)
        in
        let s : bit_or (clear_bit row j) (2 ^ j) ≡ row = or_disjoint (clear_bit row j) (2 ^ j) d ∙ omega arith in
        sym (or_other (clear_bit row j) j k n) ∙ ap (λ (x : ℕ). bit_at x k) s
    by_test (suc (suc b)) h e = absurd (omega arith)

-- ---- bounds

pub set_lt : (n row j : ℕ) → row < 2 ^ n → j < n → set_bit row j < 2 ^ n
set_lt n row j h l = by_test (ltb j 32) refl
  where
    by_test : (t : Bool) → ltb j 32 ≡ t → set_bit row j < 2 ^ n
    by_test true e = subst (λ (x : ℕ). x < 2 ^ n) (sym (set_or row j (ltb-true j 32 e))) (or_lt n row (2 ^ j) h (pow-lt l))
    by_test false e = subst (λ (x : ℕ). x < 2 ^ n) (sym (set_beyond row j (ltb-false j 32 e))) h

-- ---- the same of `has_bit`

pub has_beyond : (row n j : ℕ) → row < 2 ^ n → n ≤ j → has_bit row j ≡ false
unfolding has_bit
has_beyond row n j h l = ap (λ (x : ℕ). eqb x 1) (bit_beyond row n j h l)

pub has_set : (row j : ℕ) → j < 32 → has_bit (set_bit row j) j ≡ true
unfolding has_bit
has_set row j h = ap (λ (x : ℕ). eqb x 1) (bit-set row j h)

pub has_set_other : (row j k : ℕ) → k ≢ j → has_bit (set_bit row j) k ≡ has_bit row k
unfolding has_bit
has_set_other row j k n = ap (λ (x : ℕ). eqb x 1) (bit-set_other row j k n)

pub has_clear : (row j : ℕ) → has_bit (clear_bit row j) j ≡ false
unfolding has_bit
has_clear row j = ap (λ (x : ℕ). eqb x 1) (bit_clear row j)

pub has_clear_other : (row j k : ℕ) → k ≢ j → has_bit (clear_bit row j) k ≡ has_bit row k
unfolding has_bit
has_clear_other row j k n = ap (λ (x : ℕ). eqb x 1) (bit_clear_other row j k n)

-- a bit that is set in a row below 2 ^ n is one of the first n
pub has_below : (row n j : ℕ) → row < 2 ^ n → has_bit row j ≡ true → j < n
has_below row n j h t = cases (ltb j n) (ltb-true j n) (λ e. absurd (true≢false (sym t ∙ has_beyond row n j h (ltb-false j n e))))

-- the first n bits are set in 2 ^ n less 1
pub has_low : (n j : ℕ) → j < n → has_bit (2 ^ n - 1) j ≡ true
unfolding has_bit bit_at
has_low n j h = ap (λ (x : ℕ). eqb x 1) (bit_at_ones n j h)

-- ---- the places of the set bits: how many there are, and which

pub length_places : (row n : ℕ) → length (set_places row n) ≡ ones (row % 2 ^ n)
unfolding set_places has_bit bit_at ones
length_places row zero = ap ones (sym (mod-one row))
length_places row (suc n) =
    length-append (set_places row n) (cond (has_bit row n) (n ∷ []) [])
    ∙ ap₂ (λ (x y : ℕ). x + y) (length_places row n) (one (bit_at row n) (bit_lt row n))
    ∙ omega (arith, ones_cat n (bit_at row n) (row % 2 ^ n) (mod-lt row (pow_pos n)))
    ∙ ap ones (sym (mod-pow-add row 1 n) ∙ ap (λ (x : ℕ). row % 2 ^ x) (one-add n))
  where
    one : (b : ℕ) → b < 2 → length (cond (eqb b 1) (n ∷ []) []) ≡ ones b
    one zero h = refl
    one (suc zero) h = refl
    one (suc (suc b)) h = absurd (omega arith)

pub places_le : (row n : ℕ) → length (set_places row n) ≤ n
unfolding set_places
places_le row zero = lit≤ tt
places_le row (suc j) =
    let h = places_le row j in
    let l = length-append (set_places row j) (cond (has_bit row j) (j ∷ []) []) in
    let k = one_place (has_bit row j) in
    omega arith
  where
    one_place : (b : Bool) → length {A = ℕ} (cond b (j ∷ []) []) ≤ 1
    one_place true = lit≤ tt
    one_place false = lit≤ tt

pub place_member : (row n j : ℕ) → j < n → has_bit row j ≡ true → Memᴰ j (set_places row n)
unfolding set_places
place_member row zero j h t = absurd (omega arith)
place_member row (suc n) j h t = elim (eq-or-lt_of_le (le_of_suc-le-suc h)) [ inl e ↦ Memᴰ.append_right (set_places row n) (last n e t) | inr l ↦ Memᴰ.append_left (cond (has_bit row n) (n ∷ []) []) (place_member row n j l t) ]
  where
    last : (n : ℕ) → j ≡ n → has_bit row j ≡ true → Memᴰ j (cond (has_bit row n) (n ∷ []) [])
    last n e t = rw (← e, t) (Memᴰ.head refl)

pub member_place : (row n j : ℕ) → Memᴰ j (set_places row n) → (j < n) × (has_bit row j ≡ true)
unfolding set_places
member_place row zero j m = absurd (Memᴰ.not-nil m)
member_place row (suc n) j m = elim (Memᴰ.append_cases (set_places row n) m) [ inl l ↦ (let p = member_place row n j l in (omega arith, p.1)) | inr l ↦ last (has_bit row n) refl l ]
  where
    last : (t : Bool) → has_bit row n ≡ t → Memᴰ j (cond t (n ∷ []) []) → (j < suc n) × (has_bit row j ≡ true)
    last true e l = let q : j ≡ n = Memᴰ.eq_of_singleton l in (omega arith, ap (has_bit row) q ∙ e)
    last false e l = absurd (Memᴰ.not-nil l)

-- ---- the set places below j + 1, those of a row below 2 ^ n, and a map over them

module _ (row j : ℕ) where
  pub places_set : has_bit row j ≡ true → set_places row (j + 1) ≡ set_places row j ++ (j ∷ [])
  unfolding set_places
  places_set t = ap (set_places row) (add-one j) ∙ ap (λ (b : Bool). set_places row j ++ cond b (j ∷ []) []) t

  pub places_unset : has_bit row j ≡ false → set_places row (j + 1) ≡ set_places row j
  unfolding set_places
  places_unset t =
      ap (set_places row) (add-one j) ∙ ap (λ (b : Bool). set_places row j ++ cond b (j ∷ []) []) t ∙ append-nil (set_places row j)

pub places_beyond : (row n d : ℕ) → row < 2 ^ n → set_places row (n + d) ≡ set_places row n
places_beyond row n zero h = ap (set_places row) (add-zero n)
places_beyond row n (suc d) h =
    let e : n + suc d ≡ n + d + 1 = omega arith in
    let l : n ≤ n + d = omega arith in
    ap (set_places row) e ∙ places_unset row (n + d) (has_beyond row n (n + d) h l) ∙ places_beyond row n d h

pub map_places : {A : Type 0} (f g : ℕ → A) (row n : ℕ) → ((j : ℕ) → has_bit row j ≡ true → f j ≡ g j)
    → map f (set_places row n) ≡ map g (set_places row n)
unfolding set_places
map_places f g row zero same = refl
map_places {A = A} f g row (suc n) same =
    map-append f (set_places row n) (cond (has_bit row n) (n ∷ []) [])
    ∙ ap₂ (λ (x y : List A). x ++ y) (map_places f g row n same) (last (has_bit row n) refl)
    ∙ sym (map-append g (set_places row n) (cond (has_bit row n) (n ∷ []) []))
  where
    last : (t : Bool) → has_bit row n ≡ t → map f (cond t (n ∷ []) []) ≡ map g (cond t (n ∷ []) [])
    last true e = ap (λ (x : A). x ∷ []) (same n e)
    last false e = refl
