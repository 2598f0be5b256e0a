-- The clauses about friend rows and request rows, read off the bytes: each is a test of the rows of each slot.
use Prim.Native.Nat.{ℕ, ◌+◌, ◌/◌, ◌%◌, ◌^◌, min, ◌<◌}
use native.Mathlib.Nat.{lt_of_le_of_lt}
use native.Mathlib.Numerals.{add-one}
use native.Mathlib.Omega.{arith}
use mathlib.Core.Path.{◌≡◌, refl, sym, ap, ap₂, ◌∙◌}
use mathlib.Core.List.{List}
use mathlib.Core.Bool.{Bool, true, not, ◌&&◌, false≢true}
use lib.ListN.{length}
use lib.Dec.{eqb, ltb, lit<}
use lib.Bits.{bit_and, bit_or, bit_xor, or_mod, xor_mod, xor_self, xor_add_and, and_le_l, and_le_r}
use borrow.Author.Tests.{eqb-true, eqb-false, eq-eqb}
use borrow.Table.Steps.{cases}
use Rattle.layout.specs.Bits.{bit_at, has_bit}
use Rattle.layout.proofs.BooleanLaws.{tests_agree}
use Rattle.layout.proofs.RunLaws.{or_zero}
use Rattle.layout.proofs.BitLaws.{below_power, bit_lt, bit_beyond, bit_and_lem, no_bits}
use Rattle.model.specs.Lists.{for_all, all_below}
use Rattle.model.specs.State.{User, State, user_limit, no_user, user_at}
use Rattle.model.specs.Board.{decode}
use Rattle.model.specs.Soundness.{friends_symmetric, no_own_bit, bits_below_count, friends_not_requested}
use Rattle.model.proofs.ListLaws.{below_at, below_by}
use Rattle.model.proofs.BelowLaws.{below-same, half_of_pairs, all_below_lem}
use Rattle.board.specs.declared.counted.CountedBoard.{CountedBoard}
use Rattle.board.specs.BoardTests.{friend_row, request_row, symmetric_at}
use Rattle.board.proofs.RecordPlaces.{decoded-count, user-decoded}

-- ---- bits

-- a xor is zero when its parts are the same
xor_zero : (x y : ℕ) → eqb (bit_xor x y) 0 ≡ eqb x y
xor_zero x y =
    tests_agree (eqb (bit_xor x y) 0) (eqb x y)
    (λ e.
    let z = eqb-true (bit_xor x y) 0 e in
    let s = xor_add_and x y in
    let l = and_le_l x y in
    let r = and_le_r x y in
    eq-eqb x y (omega arith))
    (λ e. eq-eqb (bit_xor x y) 0 (ap (bit_xor x) (sym (eqb-true x y e)) ∙ xor_self x))

-- the lowest bit of what is gathered stays zero when those of x and y are the same
lowest_gathered : (d x y : ℕ) → eqb (bit_or d (bit_xor x y) % 2) 0 ≡ (eqb (d % 2) 0 && eqb (x % 2) (y % 2))
lowest_gathered d x y =
    ap (λ (r : ℕ). eqb r 0) (or_mod d (bit_xor x y) 1) ∙ or_zero (d % 2) (bit_xor x y % 2)
    ∙ ap (λ (t : Bool). eqb (d % 2) 0 && t) (ap (λ (r : ℕ). eqb r 0) (xor_mod x y 1) ∙ xor_zero (x % 2) (y % 2))

-- `x & y` is 0 exactly if no bit is set in both
pub and_zero : (x y : ℕ) → x < 2 ^ user_limit → eqb (bit_and x y) 0 ≡ all_below user_limit (λ (j : ℕ). not (has_bit x j && has_bit y j))
unfolding has_bit
and_zero x y h =
    tests_agree (eqb (bit_and x y) 0) (all_below user_limit apart)
    (λ e. below_by user_limit apart (λ j l.
    not_both j (sym (bit_and_lem x y j) ∙ ap (λ (z : ℕ). bit_at z j) (eqb-true (bit_and x y) 0 e) ∙ bit_beyond 0 0 j (lit< tt) (omega arith))))
    (λ e. eq-eqb (bit_and x y) 0
    (no_bits user_limit (bit_and x y) (lt_of_le_of_lt (and_le_l x y) h) (λ j l. bit_and_lem x y j ∙ least j (below_at user_limit apart e j l))))
  where
    apart : ℕ → Bool
    apart j = not (eqb (bit_at x j) 1 && eqb (bit_at y j) 1)

    not_both : (j : ℕ) → min (bit_at x j) (bit_at y j) ≡ 0 → apart j ≡ true
    not_both j z =
        cases (eqb (bit_at x j) 1) (λ p. cases (eqb (bit_at y j) 1)
        (λ q. absurd (omega (arith, z, eqb-true (bit_at x j) 1 p, eqb-true (bit_at y j) 1 q)))
        (λ q. ap not (ap₂ ◌&&◌ p q)))
        (λ p. ap (λ (t : Bool). not (t && eqb (bit_at y j) 1)) p)

    least : (j : ℕ) → apart j ≡ true → min (bit_at x j) (bit_at y j) ≡ 0
    least j e =
        let u = bit_lt x j in
        let v = bit_lt y j in
        cases (eqb (bit_at x j) 1) (λ p. cases (eqb (bit_at y j) 1)
        (λ q. absurd (false≢true (sym (ap not (ap₂ ◌&&◌ p q)) ∙ e)))
        (λ q. let n = eqb-false (bit_at y j) 1 q in omega arith))
        (λ p. let n = eqb-false (bit_at x j) 1 p in omega arith)

-- ---- symmetric rows

-- a loop that gathers the bits that differ: bit j of row i and bit i of row j are the lowest of what is left of the rows
pub gather_bits : (users : List (List ℕ)) (i j differing : ℕ) {rest row : ℕ} → rest ≡ friend_row users i / 2 ^ j → row ≡ friend_row users j
    → eqb (differing % 2) 0 ≡ all_below j (symmetric_at users i)
    → eqb (bit_or differing (bit_xor rest (row / 2 ^ i)) % 2) 0 ≡ all_below (j + 1) (symmetric_at users i)
unfolding all_below symmetric_at bit_at
gather_bits users i j differing {rest} {row} p q e =
    lowest_gathered differing rest (row / 2 ^ i) ∙ ap₂ ◌&&◌ e (ap₂ (λ (x y : ℕ). eqb (x % 2) (y / 2 ^ i % 2)) p q)
    ∙ ap (λ (k : ℕ). all_below k (symmetric_at users i)) (sym (add-one j))

-- ---- the clauses

-- slot i is a friend of each slot before it exactly if that one is a friend of slot i
abbrev pub symmetric_below : List (List ℕ) → ℕ → Bool
symmetric_below users i = all_below i (symmetric_at users i)

-- the rows of slot i are without bit i, and without the bits from n on
abbrev pub without_own_bit : List (List ℕ) → ℕ → Bool
without_own_bit users i = not (has_bit (friend_row users i) i) && not (has_bit (request_row users i) i)

abbrev pub without_bits_from : List (List ℕ) → ℕ → ℕ → Bool
without_bits_from users n i = eqb (friend_row users i / 2 ^ n) 0 && eqb (request_row users i / 2 ^ n) 0

-- no bit is set in both rows of slot i
abbrev pub rows_apart : List (List ℕ) → ℕ → Bool
rows_apart users i = all_below user_limit (λ (j : ℕ). not (has_bit (friend_row users i) j && has_bit (request_row users i) j))

module _ (board : CountedBoard) where
  abbrev state : State
  state = decode board.bytes.now

  abbrev users : List (List ℕ)
  users = board.users.now

  friends_at : (i : ℕ) → (user_at state i).friends ≡ friend_row users i
  friends_at i = ap (λ (u : User). u.friends) (user-decoded board i)

  requests_at : (i : ℕ) → (user_at state i).requests ≡ request_row users i
  requests_at i = ap (λ (u : User). u.requests) (user-decoded board i)

  -- half of the pairs are enough
  pub symmetric-half : friends_symmetric state ≡ all_below (length users) (symmetric_below users)
  unfolding friends_symmetric symmetric_at
  symmetric-half =
      let n : ℕ = length users in
      let same : ℕ → ℕ → Bool = λ i j. eqb (bit_at (user_at state i).friends j) (bit_at (user_at state j).friends i) in
      ap (λ (k : ℕ). all_below k (λ (i : ℕ). all_below k (same i))) (decoded-count board)
      ∙ below-same n (λ (i : ℕ). all_below n (same i)) (λ (i : ℕ). all_below n (symmetric_at users i))
      (λ i h. below-same n (same i) (symmetric_at users i) (λ j l. ap₂ (λ (x y : ℕ). eqb (bit_at x j) (bit_at y i)) (friends_at i) (friends_at j)))
      ∙ sym (half_of_pairs n (symmetric_at users) swapped (λ i. eq-eqb (bit_at (friend_row users i) i) (bit_at (friend_row users i) i) refl))
    where
      swapped : (i j : ℕ) → symmetric_at users i j ≡ true → symmetric_at users j i ≡ true
      swapped i j t =
          let x : ℕ = bit_at (friend_row users i) j in
          let y : ℕ = bit_at (friend_row users j) i in
          eq-eqb y x (sym (eqb-true x y t))

  -- a test of both rows of each slot, in the state and on the board
  each_slot : (p : ℕ → ℕ → ℕ → Bool)
      → all_below (length state.users) (λ (i : ℕ). p i (user_at state i).friends (user_at state i).requests)
      ≡ all_below (length users) (λ (i : ℕ). p i (friend_row users i) (request_row users i))
  each_slot p =
      let user : ℕ → Bool = λ i. p i (user_at state i).friends (user_at state i).requests in
      ap (λ (k : ℕ). all_below k user) (decoded-count board)
      ∙ below-same (length users) user (λ (i : ℕ). p i (friend_row users i) (request_row users i))
      (λ i h. ap₂ (p i) (friends_at i) (requests_at i))

  pub own_bits : no_own_bit state ≡ all_below (length users) (without_own_bit users)
  unfolding no_own_bit
  own_bits = each_slot (λ (i f r : ℕ). not (has_bit f i) && not (has_bit r i))

  pub bits_below : bits_below_count state ≡ all_below (length users) (without_bits_from users (length users))
  unfolding bits_below_count user_at
  bits_below =
      let n : ℕ = length users in
      let below : ℕ → User → Bool = λ k u. ltb u.friends (2 ^ k) && ltb u.requests (2 ^ k) in
      ap (λ (k : ℕ). for_all (below k) state.users) (decoded-count board)
      ∙ all_below_lem (below n) state.users no_user (user_at state) refl (λ i h. refl)
      ∙ each_slot (λ (i f r : ℕ). ltb f (2 ^ n) && ltb r (2 ^ n))
      ∙ (λ t. all_below n (λ (i : ℕ). below_power (friend_row users i) n t && below_power (request_row users i) n t))

  pub apart-rows : friends_not_requested state ≡ all_below (length users) (rows_apart users)
  unfolding friends_not_requested user_at
  apart-rows =
      let apart : ℕ → ℕ → Bool = λ f r. all_below user_limit (λ (j : ℕ). not (has_bit f j && has_bit r j)) in
      all_below_lem (λ (u : User). apart u.friends u.requests) state.users no_user (user_at state) refl (λ i h. refl)
      ∙ each_slot (λ (i f r : ℕ). apart f r)
