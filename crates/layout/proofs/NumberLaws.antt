-- Laws of little-endian numbers, over the width: lengths, both round trips, bounds, and a number of m + n bytes as two.
use Prim.Native.Nat.{ℕ, zero, suc, ◌+◌, ◌-◌, ◌*◌, ◌/◌, ◌%◌, ◌^◌, ◌≤◌, ◌<◌, zero-le, suc-le-suc}
use native.Mathlib.Nat.{add-zero, zero-add, suc-add, mul_assoc, mul_comm, mul-add, one-mul, add_assoc, pow-suc, div-lt_iff_lt-mul, div-one, div-div-eq-div-mul, one-le-pow}
use native.Mathlib.Numerals.{add-one}
use native.Mathlib.Omega.{arith}
use mathlib.Core.Path.{◌≡◌, refl, sym, ap, ap₂, ◌∙◌, subst}
use mathlib.Core.List.{List, [], ◌∷◌, ◌++◌}
use mathlib.Core.Bool.{true}
use lib.ListN.{length, take, drop, get_or, set, replicate}
use lib.Dec.{ltb, lit<}
use lib.Arith.{lt-one, mod-mul}
use lib.Pow.{are_bytes}
use borrow.Author.Tests.{lt-ltb, ltb-true}
use Rattle.std.specs.Int.{byte_worth, sum_through}
use Rattle.std.specs.Array.{IsWholeChunk}
use Rattle.std.proofs.lemmas.List.{take_more_set}
use lib.Seq.{length-take-le, take-suc, take_all}
use Rattle.layout.specs.Bytes.{bytes_at}
use Rattle.layout.specs.Numbers.{to_le_bytes, from_le_bytes}
use Rattle.layout.proofs.BooleanLaws.{and_left, and_right, and_both}
use Rattle.layout.proofs.ByteLaws.{length-bytes_at, bytes_at_none, bytes_at_cons, bytes_at_join}

-- ---- lists of bytes (the library's `are_bytes`)

-- what a slice of bytes knows of each element
pub bytes_of : (b : List ℕ) → ((i : ℕ) → i < length b → get_or b i 0 < 256) → are_bytes b ≡ true
bytes_of [] h = refl
bytes_of (x ∷ b) h = and_both (lt-ltb x 256 (h 0 (suc-le-suc zero-le))) (bytes_of b (λ i k. h (suc i) (suc-le-suc k)))

pub bytes_take : (n : ℕ) (xs : List ℕ) → are_bytes xs ≡ true → are_bytes (take n xs) ≡ true
bytes_take zero xs e = refl
bytes_take (suc n) [] e = refl
bytes_take (suc n) (x ∷ xs) e =
    and_both (and_left (ltb x 256) (are_bytes xs) e) (bytes_take n xs (and_right (ltb x 256) (are_bytes xs) e))

pub bytes_drop : (n : ℕ) (xs : List ℕ) → are_bytes xs ≡ true → are_bytes (drop n xs) ≡ true
bytes_drop zero xs e = e
bytes_drop (suc n) [] e = e
bytes_drop (suc n) (x ∷ xs) e = bytes_drop n xs (and_right (ltb x 256) (are_bytes xs) e)

pub bytes-bytes_at : (b : List ℕ) (at n : ℕ) → are_bytes b ≡ true → are_bytes (bytes_at b at n) ≡ true
unfolding bytes_at
bytes-bytes_at b at n e = bytes_take n (drop at b) (bytes_drop at b e)

-- ---- lengths and bounds

pub length_to : (w n : ℕ) → length (to_le_bytes w n) ≡ w
unfolding to_le_bytes
length_to zero n = refl
length_to (suc w) n = ap suc (length_to w (n / 256))

pub from_lt : (xs : List ℕ) → are_bytes xs ≡ true → from_le_bytes xs < 256 ^ length xs
unfolding from_le_bytes
from_lt [] e = lit< tt
from_lt (x ∷ xs) e =
    let h : x < 256 = ltb-true x 256 (and_left (ltb x 256) (are_bytes xs) e) in
    let t = from_lt xs (and_right (ltb x 256) (are_bytes xs) e) in
    rw pow-suc (omega arith)

-- ---- round trips

pub from_to : (w n : ℕ) → n < 256 ^ w → from_le_bytes (to_le_bytes w n) ≡ n
unfolding to_le_bytes from_le_bytes
from_to zero n h = sym (lt-one h)
from_to (suc w) n h =
    let d : n / 256 < 256 ^ w = (div-lt_iff_lt-mul (lit< tt)).1 (rw pow-suc at h) in
    let e : from_le_bytes (to_le_bytes w (n / 256)) ≡ n / 256 = from_to w (n / 256) d in
    omega arith

to_from-own : (xs : List ℕ) → are_bytes xs ≡ true → to_le_bytes (length xs) (from_le_bytes xs) ≡ xs
unfolding to_le_bytes from_le_bytes
to_from-own [] e = refl
to_from-own (x ∷ xs) e =
    let h : x < 256 = ltb-true x 256 (and_left (ltb x 256) (are_bytes xs) e) in
    let m : (x + 256 * from_le_bytes xs) % 256 ≡ x = omega arith in
    let d : (x + 256 * from_le_bytes xs) / 256 ≡ from_le_bytes xs = omega arith in
    ap₂ (λ (a : ℕ) (r : List ℕ). a ∷ r) m
    (ap (to_le_bytes (length xs)) d ∙ to_from-own xs (and_right (ltb x 256) (are_bytes xs) e))

pub to_from : (w : ℕ) (xs : List ℕ) → are_bytes xs ≡ true → length xs ≡ w → to_le_bytes w (from_le_bytes xs) ≡ xs
to_from w xs e l = subst (λ (k : ℕ). to_le_bytes k (from_le_bytes xs) ≡ xs) l (to_from-own xs e)

pub to_zero : (w : ℕ) → to_le_bytes w 0 ≡ replicate w 0
unfolding to_le_bytes
to_zero zero = refl
to_zero (suc w) = ap (λ (r : List ℕ). 0 ∷ r) (to_zero w)

-- ---- a number of m + n bytes is one of m and one of n

pub from_append : (xs ys : List ℕ) → from_le_bytes (xs ++ ys) ≡ from_le_bytes xs + 256 ^ length xs * from_le_bytes ys
unfolding from_le_bytes
from_append [] ys = sym (zero-add (1 * from_le_bytes ys) ∙ one-mul (from_le_bytes ys))
from_append (x ∷ xs) ys =
    ap (λ (n : ℕ). x + 256 * n) (from_append xs ys)
    ∙ ap (λ (n : ℕ). x + n) (mul-add 256 (from_le_bytes xs) (256 ^ length xs * from_le_bytes ys))
    ∙ sym (add_assoc x (256 * from_le_bytes xs) (256 * (256 ^ length xs * from_le_bytes ys)))
    ∙ ap (λ (n : ℕ). x + 256 * from_le_bytes xs + n)
    (sym (mul_assoc 256 (256 ^ length xs) (from_le_bytes ys)) ∙ ap (λ (n : ℕ). n * from_le_bytes ys) (mul_comm 256 (256 ^ length xs) ∙ sym (pow-suc 256 (length xs))))

pub from_join : (b : List ℕ) (at m n : ℕ) → at + m ≤ length b
    → from_le_bytes (bytes_at b at (m + n)) ≡ from_le_bytes (bytes_at b at m) + 256 ^ m * from_le_bytes (bytes_at b (at + m) n)
from_join b at m n h =
    ap from_le_bytes (bytes_at_join b at m n) ∙ from_append (bytes_at b at m) (bytes_at b (at + m) n)
    ∙ ap (λ (k : ℕ). from_le_bytes (bytes_at b at m) + 256 ^ k * from_le_bytes (bytes_at b (at + m) n)) (length-bytes_at b at m h)

-- the low m bytes do not see what stands above them
pub to_join : (m n x : ℕ) → to_le_bytes (m + n) x ≡ to_le_bytes m x ++ to_le_bytes n (x / 256 ^ m)
unfolding to_le_bytes
to_join zero n x = rw (zero-add, div-one)
to_join (suc m) n x =
    rw suc-add
    (ap (λ (r : List ℕ). x % 256 ∷ r)
    (to_join m n (x / 256)
    ∙ ap (λ (k : ℕ). to_le_bytes m (x / 256) ++ to_le_bytes n k) (div-div-eq-div-mul x 256 (256 ^ m) ∙ ap (λ (k : ℕ). x / k) (mul_comm 256 (256 ^ m) ∙ sym (pow-suc 256 m)))))

pub to_mod : (m x : ℕ) → to_le_bytes m (x % 256 ^ m) ≡ to_le_bytes m x
unfolding to_le_bytes
to_mod zero x = refl
to_mod (suc m) x =
    let e : x % (256 ^ m * 256) ≡ x / 256 % 256 ^ m * 256 + x % 256 = mod-mul x (one-le-pow m 256 (lit< tt)) (lit< tt) in
    let l : x % 256 ^ suc m % 256 ≡ x % 256 = rw pow-suc (omega arith) in
    let h : x % 256 ^ suc m / 256 ≡ x / 256 % 256 ^ m = rw pow-suc (omega arith) in
    ap₂ (λ (a : ℕ) (r : List ℕ). a ∷ r) l (ap (to_le_bytes m) h ∙ to_mod m (x / 256))

-- ---- as code reads and writes them: a byte, two bytes, one byte more

pub from_one : (b : List ℕ) (at : ℕ) → at < length b → from_le_bytes (bytes_at b at 1) ≡ get_or b at 0
unfolding from_le_bytes
from_one b at h =
    ap from_le_bytes (bytes_at_cons b at 0 h)
    ∙ ap (λ (l : List ℕ). get_or b at 0 + 256 * from_le_bytes l) (bytes_at_none b (at + 1))
    ∙ add-zero (get_or b at 0)

-- a number is the sum of its bytes, each for what it is worth at its place, as the library reads them
from_each : (xs : List ℕ) (k : ℕ) → suc k ≤ length xs
    → from_le_bytes (take (suc k) xs) ≡ sum_through (λ i. byte_worth i (get_or xs i 0)) k
unfolding from_le_bytes
from_each [] k h = absurd (omega arith)
from_each (x ∷ xs) zero h = add-zero x
from_each (x ∷ xs) (suc k) h =
    let l : List ℕ = x ∷ xs in
    let last : ℕ = get_or l (suc k) 0 in
    ap from_le_bytes (take-suc l (suc k) 0 (omega arith)) ∙ from_append (take (suc k) l) (last ∷ [])
    ∙ ap₂ (λ (n y : ℕ). n + y) (from_each (x ∷ xs) k (omega arith))
    (ap₂ (λ (w y : ℕ). 256 ^ w * y) (length-take-le (suc k) l (omega arith)) (add-zero last) ∙ mul_comm (256 ^ suc k) last)

-- the bytes from a place on, in an array
pub from_array : (b : List ℕ) (at k : ℕ) {bytes : List ℕ} → at + suc k ≤ length b
    → IsWholeChunk (take (at + suc k - at) (drop at b)) bytes (suc k)
    → sum_through (λ i. byte_worth i (get_or bytes i 0)) k ≡ from_le_bytes (bytes_at b at (suc k))
unfolding bytes_at
from_array b at k {bytes} h c =
    let n : at + suc k - at ≡ suc k = omega arith in
    let e : bytes ≡ bytes_at b at (suc k) = c.same ∙ ap (bytes_at b at) n in
    let l = ap length e ∙ length-bytes_at b at (suc k) h in
    sym (from_each bytes k (omega arith)) ∙ ap from_le_bytes (take_all (suc k) bytes (omega arith) ∙ e)

-- one more byte behind the first j, and what is left of x
pub number_more : (p : List ℕ) (j x : ℕ) → j < length p → take j p ≡ to_le_bytes j x
    → take (j + 1) (set p j (x / 256 ^ j % 256)) ≡ to_le_bytes (j + 1) x
unfolding to_le_bytes
number_more p j x h e =
    take_more_set p j (x / 256 ^ j % 256) h ∙ ap (λ (l : List ℕ). l ++ (x / 256 ^ j % 256 ∷ [])) e ∙ sym (to_join j 1 x)

pub rest_more : (j x : ℕ) → x / 256 ^ j / 256 ≡ x / 256 ^ (j + 1)
rest_more j x = div-div-eq-div-mul x (256 ^ j) 256 ∙ ap (λ (k : ℕ). x / k) (sym (rw add-one (pow-suc 256 j)))
