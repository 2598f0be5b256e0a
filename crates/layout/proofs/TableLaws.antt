-- Laws of tables: their numbers, the search for one, and the removal of a record.
use Prim.Native.Nat.{ℕ, zero, suc, ◌+◌, ◌-◌, ◌*◌, ◌≤◌, ◌<◌, zero-le}
use native.Mathlib.Nat.{add-zero, zero-add, suc-add, add-mul, zero-mul, suc-mul, sub_self, le_of_lt, le_of_suc-le-suc, not-suc-le-zero}
use native.Mathlib.Numerals.{add-one}
use native.Mathlib.Omega.{arith}
use mathlib.Core.Path.{◌≡◌, refl, sym, ap, ap₂, ◌∙◌}
use mathlib.Core.Bool.{Bool, true, false, ◌&&◌, cond, and-false}
use mathlib.Core.List.{List, [], ◌∷◌, ◌++◌, map, flatten, sum, append_assoc, append-nil}
use lib.ListN.{length, take, drop, get_or, replicate, length-append, length-map, length-replicate, get_or-map, drop_of_length-le, take-append-drop}
use lib.Seq.{take_at, drop_at, length-take-le, get_or-take, ext_get_or}
use lib.Dec.{eqb, leb, ltb}
use borrow.Author.Tests.{eq-eqb, ne_eqb, eqb-true, eqb-false, lt-ltb, le-ltb, ltb-true, ltb-false, le-leb, lt-leb, leb-true}
use Rattle.std.proofs.lemmas.List.{take-map}
use Rattle.std.specs.Option.{is_none}
use Rattle.std.specs.Prelude.{Some, None}
use borrow.Table.Steps.{cases}
use Rattle.layout.specs.Search.{index_of, index_after, place_below}
use Rattle.layout.specs.Bytes.{bytes_at, patch, write_at}
use Rattle.layout.specs.Numbers.{from_le_bytes}
use Rattle.layout.specs.Tables.{record_number, record_numbers, without_record, remove_record}
use Rattle.layout.proofs.BooleanLaws.{and_left, and_right}
use Rattle.layout.proofs.ByteLaws.{length-bytes_at, length-patch, take-bytes_at, bytes_at-bytes_at, bytes_at_end, patch-bytes_at, patch_join, write-within}
use Rattle.layout.proofs.ConcatenationLaws.{bytes_at-record, flatten_append, length-flatten, sum-replicate, take-replicate}

-- ---- the numbers of the records

pub length-numbers : (b : List ℕ) (at size n : ℕ) → length (record_numbers b at size n) ≡ n
unfolding record_numbers
length-numbers b at size zero = refl
length-numbers b at size (suc n) = ap suc (length-numbers b (at + size) size n)

pub number_at : (b : List ℕ) (at size n i : ℕ) → i < n → get_or (record_numbers b at size n) i 0 ≡ from_le_bytes (bytes_at b (at + i * size) 4)
unfolding record_numbers
number_at b at size zero i h = absurd (not-suc-le-zero h)
number_at b at size (suc n) zero h = ap (λ (k : ℕ). from_le_bytes (bytes_at b k 4)) (sym (ap (λ (k : ℕ). at + k) (zero-mul size) ∙ add-zero at))
number_at b at size (suc n) (suc i) h =
    let e : at + size + i * size ≡ at + suc i * size = rw suc-mul (omega arith) in
    number_at b (at + size) size n i (le_of_suc-le-suc h) ∙ ap (λ (k : ℕ). from_le_bytes (bytes_at b k 4)) e

-- the numbers of m records and those of the n records behind them
pub numbers_join : (b : List ℕ) (at size m n : ℕ)
    → record_numbers b at size (m + n) ≡ record_numbers b at size m ++ record_numbers b (at + m * size) size n
unfolding record_numbers
numbers_join b at size zero n = rw (zero-add, zero-mul, add-zero)
numbers_join b at size (suc m) n =
    let e : at + size + m * size ≡ at + suc m * size = rw suc-mul (omega arith) in
    ap (record_numbers b at size) (suc-add m n)
    ∙ ap (λ (xs : List ℕ). from_le_bytes (bytes_at b at 4) ∷ xs)
    (numbers_join b (at + size) size m n ∙ ap (λ (o : ℕ). record_numbers b (at + size) size m ++ record_numbers b o size n) e)

-- the numbers of the first n records of a table are those of the records
pub numbers-flatten : (b : List ℕ) (base size c : ℕ) (rs : List (List ℕ)) → 4 ≤ size → bytes_at b base (c * size) ≡ flatten rs
    → map length rs ≡ replicate c size → (n : ℕ) → n ≤ c → record_numbers b base size n ≡ map record_number (take n rs)
unfolding record_number from_le_bytes
numbers-flatten b base size c rs h e s n l =
    let lr : length rs ≡ c = sym (length-map rs length) ∙ ap length s ∙ length-replicate c size in
    let lt : length (take n rs) ≡ n = length-take-le n rs (omega arith) in
    let ln : length (record_numbers b base size n) ≡ n = length-numbers b base size n in
    ext_get_or 0 (record_numbers b base size n) (map record_number (take n rs)) (ln ∙ sym (length-map (take n rs) record_number ∙ lt))
    (λ i k.
    number_at b base size n i (omega arith)
    ∙ ap from_le_bytes (sym (take-bytes_at b (base + i * size) 4 size h))
    ∙ ap record_number (bytes_at-record b base size c rs e s i (omega arith))
    ∙ ap record_number (sym (get_or-take n rs i [] (omega arith))) ∙ sym (get_or-map record_number (take n rs) i []))

-- ---- the search

index_first : (x y : ℕ) (xs : List ℕ) → y ≡ x → index_of x (y ∷ xs) ≡ 0
unfolding index_of
index_first x y xs e = ap (λ (t : Bool). index_after t (index_of x xs)) (eq-eqb y x e)

index_later : (x y : ℕ) (xs : List ℕ) → (y ≡ x → ⊥) → index_of x (y ∷ xs) ≡ suc (index_of x xs)
unfolding index_of
index_later x y xs n = ap (λ (t : Bool). index_after t (index_of x xs)) (ne_eqb y x n)

pub index_le : (x : ℕ) (xs : List ℕ) → index_of x xs ≤ length xs
unfolding index_of
index_le x [] = zero-le
index_le x (y ∷ xs) = by_test (eqb y x) (index_le x xs)
  where
    by_test : (t : Bool) → index_of x xs ≤ length xs → index_after t (index_of x xs) ≤ suc (length xs)
    by_test true h = zero-le
    by_test false h = omega arith

pub index_found : (x : ℕ) (xs : List ℕ) → index_of x xs < length xs → get_or xs (index_of x xs) 0 ≡ x
unfolding index_of
index_found x [] h = absurd (not-suc-le-zero h)
index_found x (y ∷ xs) h = by_test (eqb y x) refl (index_found x xs) h
  where
    by_test : (t : Bool) → eqb y x ≡ t → (index_of x xs < length xs → get_or xs (index_of x xs) 0 ≡ x)
        → index_after t (index_of x xs) < suc (length xs) → get_or (y ∷ xs) (index_after t (index_of x xs)) 0 ≡ x
    by_test true e f l = eqb-true y x e
    by_test false e f l = f (le_of_suc-le-suc l)

-- no earlier element is x, and none at all where the index is the length
pub index_before : (x : ℕ) (xs : List ℕ) (k : ℕ) → k < index_of x xs → get_or xs k 0 ≡ x → ⊥
unfolding index_of
index_before x [] k h e = not-suc-le-zero h
index_before x (y ∷ xs) k h e = by_test (eqb y x) refl k h e (index_before x xs)
  where
    by_test : (t : Bool) → eqb y x ≡ t → (k : ℕ) → k < index_after t (index_of x xs) → get_or (y ∷ xs) k 0 ≡ x
        → ((k : ℕ) → k < index_of x xs → get_or xs k 0 ≡ x → ⊥) → ⊥
    by_test true q k h e f = not-suc-le-zero h
    by_test false q zero h e f = eqb-false y x q e
    by_test false q (suc k) h e f = f k (le_of_suc-le-suc h) e

pub record-before : (size i : ℕ) → 0 < i → i * size ≡ (i - 1) * size + size
record-before size i h = let e : i ≡ suc (i - 1) = omega arith in ap (λ (k : ℕ). k * size) e ∙ suc-mul (i - 1) size

-- the loop that goes from the last record to the first: where it starts, where it ends, and at record i - 1 with its number r
pub found_none : (b : List ℕ) (at size x n : ℕ) → n ≡ n + index_of x (record_numbers b at size (n - n))
unfolding record_numbers index_of
found_none b at size x n = rw (sub_self n) (sym (add-zero n))

pub found_all : (b : List ℕ) (base size x n : ℕ) {i found : ℕ} → found ≡ i + index_of x (record_numbers b (base + i * size) size (n - i)) → i ≡ 0
    → found ≡ index_of x (record_numbers b base size n)
found_all b base size x n {i} {found} v z =
    let q : base + i * size ≡ base = ap (λ (k : ℕ). base + k * size) z ∙ ap (λ (k : ℕ). base + k) (zero-mul size) ∙ add-zero base in
    let m : n - i ≡ n = omega arith in
    v ∙ ap₂ (λ (k o : ℕ). k + index_of x (record_numbers b o size (n - i))) z q
    ∙ ap (λ (k : ℕ). 0 + index_of x (record_numbers b base size k)) m ∙ zero-add (index_of x (record_numbers b base size n))

module _ (b : List ℕ) (base size x n i : ℕ) (h : 0 < i) (l : i ≤ n) {r : ℕ} (e : r ≡ from_le_bytes (bytes_at b (base + (i - 1) * size) 4)) where
  left : n - (i - 1) ≡ suc (n - i)
  left = omega arith

  pub found_here : r ≡ x → i - 1 ≡ i - 1 + index_of x (record_numbers b (base + (i - 1) * size) size (n - (i - 1)))
  unfolding record_numbers
  found_here t =
      let at : ℕ = base + (i - 1) * size in
      let f = index_first x (from_le_bytes (bytes_at b at 4)) (record_numbers b (at + size) size (n - i)) (sym e ∙ t) in
      rw left (omega arith)

  pub found_later : {found : ℕ} → (r ≡ x → ⊥) → found ≡ i + index_of x (record_numbers b (base + i * size) size (n - i))
      → found ≡ i - 1 + index_of x (record_numbers b (base + (i - 1) * size) size (n - (i - 1)))
  unfolding record_numbers
  found_later t v =
      let at : ℕ = base + (i - 1) * size in
      let p = record-before size i h in
      let q : base + i * size ≡ at + size = omega arith in
      let w = v ∙ ap (λ (k : ℕ). i + index_of x (record_numbers b k size (n - i))) q in
      let f = index_later x (from_le_bytes (bytes_at b at 4)) (record_numbers b (at + size) size (n - i)) (λ z. t (e ∙ z)) in
      rw left (omega arith)

-- a search that finds a place, and one that finds none
pub place_found : (n : ℕ) {found i : ℕ} → found ≡ i → found < n → Some found ≡ place_below n i
place_found n {found} e l = sym (ap (λ (t : Bool). cond t (Some found) None) (lt-ltb found n l)) ∙ ap (place_below n) e

pub place_none : (n : ℕ) {found i : ℕ} → found ≡ i → n ≤ found → None ≡ place_below n i
place_none n {found} e l = sym (ap (λ (t : Bool). cond t (Some found) None) (le-ltb found n l)) ∙ ap (place_below n) e

-- it finds none just when the index is the number of elements
pub nowhere : (n i : ℕ) → i ≤ n → is_none (place_below n i) ≡ eqb i n
nowhere n i h =
    cases (ltb i n)
    (λ e. let l = ltb-true i n e in ap is_none (sym (place_found n refl l)) ∙ sym (ne_eqb i n (λ z. omega arith)))
    (λ e. let l = ltb-false i n e in ap is_none (sym (place_none n {found = i} refl l)) ∙ sym (eq-eqb i n (omega arith)))

-- ---- places of records

-- a table is what stands before record i, record i, and the rest
pub record_parts : (size n i : ℕ) → i < n → ((i + 1) * size ≡ i * size + size) × ((i + 1) * size + (n - (i + 1)) * size ≡ n * size)
record_parts size n i h =
    let e : i + 1 + (n - (i + 1)) ≡ n = omega arith in
    (ap (λ (k : ℕ). k * size) (add-one i) ∙ suc-mul i size, sym (add-mul (i + 1) (n - (i + 1)) size) ∙ ap (λ (k : ℕ). k * size) e)

-- and record i lies where the table does
pub record-within : (base size n i len : ℕ) → i < n → base + n * size ≤ len → base + i * size + size ≤ len
record-within base size n i len h l = let p = record_parts size n i h in omega arith

-- ---- a removal, within range and beyond it

module _ (b : List ℕ) (base size n i : ℕ) where
  pub remove_within : i < n → base + n * size ≤ length b → remove_record b base size n i ≡ without_record b base size n i
  unfolding remove_record
  remove_within h f =
      ap₂ (λ (s t : Bool). cond (s && t) (without_record b base size n i) b) (lt-ltb i n h) (le-leb (base + n * size) (length b) f)

  pub remove_absent : n ≤ i → remove_record b base size n i ≡ b
  unfolding remove_record
  remove_absent h =
      ap (λ (s : Bool). cond (s && leb (base + n * size) (length b)) (without_record b base size n i) b) (le-ltb i n h)

  pub remove_beyond : length b < base + n * size → remove_record b base size n i ≡ b
  unfolding remove_record
  remove_beyond f =
      ap (λ (s : Bool). cond s (without_record b base size n i) b)
      (ap (λ (t : Bool). ltb i n && t) (lt-leb (base + n * size) (length b) f) ∙ and-false (ltb i n))

  rest : List ℕ
  rest = bytes_at b (base + (i + 1) * size) ((n - (i + 1)) * size)

  length_rest : i < n → base + n * size ≤ length b → length rest ≡ (n - (i + 1)) * size
  unfolding rest
  length_rest h f = let p = record_parts size n i h in length-bytes_at b (base + (i + 1) * size) ((n - (i + 1)) * size) (omega arith)

  length_without : i < n → base + n * size ≤ length b → length (without_record b base size n i) ≡ length b
  unfolding without_record rest
  length_without h f =
      let p = record_parts size n i h in
      let l = length-append rest (replicate size 0) in
      let r = length_rest h f in
      let z = length-replicate {A = ℕ} size 0 in
      length-patch b (base + i * size) (rest ++ replicate size 0) (omega arith)

  pub length_remove : length (remove_record b base size n i) ≡ length b
  unfolding remove_record
  length_remove = by_test (ltb i n && leb (base + n * size) (length b)) refl
    where
      by_test : (t : Bool) → (ltb i n && leb (base + n * size) (length b)) ≡ t → length (cond t (without_record b base size n i) b) ≡ length b
      by_test true e =
          length_without
          (ltb-true i n (and_left (ltb i n) (leb (base + n * size) (length b)) e))
          (leb-true (base + n * size) (length b) (and_right (ltb i n) (leb (base + n * size) (length b)) e))
      by_test false e = refl

  -- the later records moved, and then the last one zeroed
  pub moved_zeroed : {b₁ b₂ : List ℕ} → i < n → base + n * size ≤ length b
      → b₁ ≡ patch b (base + i * size) (bytes_at b (base + (i + 1) * size) ((n - (i + 1)) * size))
      → b₂ ≡ write_at b₁ (base + i * size + (n - (i + 1)) * size) (replicate size 0) → b₂ ≡ remove_record b base size n i
  unfolding without_record rest
  moved_zeroed h f e₁ e₂ =
      let p = record_parts size n i h in
      let r = length_rest h f in
      let z = length-replicate {A = ℕ} size 0 in
      let l = length-patch b (base + i * size) rest (omega arith) in
      e₂ ∙ ap (λ (y : List ℕ). write_at y (base + i * size + (n - (i + 1)) * size) (replicate size 0)) e₁
      ∙ write-within (patch b (base + i * size) rest) (base + i * size + (n - (i + 1)) * size) (replicate size 0) (length-replicate size 0) (omega arith)
      ∙ ap (λ (k : ℕ). patch (patch b (base + i * size) rest) (base + i * size + k) (replicate size 0)) (sym r)
      ∙ patch_join b (base + i * size) rest (replicate size 0) (omega arith) ∙ sym (remove_within h f)

-- ---- a table as a concatenation of records rs

pub map-take : {A B : Type 0} (f : A → B) (n : ℕ) (l : List A) → map f (take n l) ≡ take n (map f l)
map-take f n l = sym (take-map f n l)

module _ (size n : ℕ) (rs : List (List ℕ)) (s : map length rs ≡ replicate n size) (i : ℕ) (h : i ≤ n) where
  length_front : length (flatten (take i rs)) ≡ i * size
  length_front =
      length-flatten (take i rs) ∙ ap (sum ◌+◌ 0) (map-take length i rs ∙ ap (take i) s ∙ take-replicate i n size h)
      ∙ sum-replicate i size

  front_rest : flatten rs ≡ flatten (take i rs) ++ flatten (drop i rs)
  front_rest = ap flatten (sym (take-append-drop i rs)) ∙ flatten_append (take i rs) (drop i rs)

  pub take_records : take (i * size) (flatten rs) ≡ flatten (take i rs)
  take_records = ap (take (i * size)) front_rest ∙ take_at (flatten (take i rs)) (flatten (drop i rs)) (i * size) length_front

  pub drop_records : drop (i * size) (flatten rs) ≡ flatten (drop i rs)
  drop_records = ap (drop (i * size)) front_rest ∙ drop_at (flatten (take i rs)) (flatten (drop i rs)) (i * size) length_front

-- record i removed: the later ones move up, and a zero record comes last
module _ (b : List ℕ) (base size n : ℕ) (rs : List (List ℕ)) (e : bytes_at b base (n * size) ≡ flatten rs) (s : map length rs ≡ replicate n size) (i : ℕ) (h : i < n) (f : base + n * size ≤ length b) where
  length-table : length (flatten rs) ≡ n * size
  length-table = length-flatten rs ∙ ap (sum ◌+◌ 0) s ∙ sum-replicate n size

  later : bytes_at b (base + (i + 1) * size) ((n - (i + 1)) * size) ≡ flatten (drop (suc i) rs)
  later =
      let p = record_parts size n i h in
      let l = length-table in
      sym (bytes_at-bytes_at b base (n * size) ((i + 1) * size) ((n - (i + 1)) * size) (omega arith))
      ∙ ap (λ (t : List ℕ). bytes_at t ((i + 1) * size) ((n - (i + 1)) * size)) e
      ∙ bytes_at_end (flatten rs) ((i + 1) * size) ((n - (i + 1)) * size) (omega arith)
      ∙ ap (λ (k : ℕ). drop (k * size) (flatten rs)) (add-one i) ∙ drop_records size n rs s (suc i) h

  over : (x : List ℕ) → length x ≡ (n - (i + 1)) * size + size → patch (flatten rs) (i * size) x ≡ flatten (take i rs) ++ x
  unfolding patch
  over x l =
      let p = record_parts size n i h in
      let t = length-table in
      let d : drop (i * size + length x) (flatten rs) ≡ [] = drop_of_length-le (flatten rs) {i = i * size + length x} (omega arith) in
      ap₂ (λ (y z : List ℕ). y ++ (x ++ z)) (take_records size n rs s i (le_of_lt h)) d
      ∙ ap (λ (y : List ℕ). flatten (take i rs) ++ y) (append-nil x)

  pub without_table : without_record b base size n i ≡ patch b base (flatten ((take i rs ++ drop (suc i) rs) ++ (replicate size 0 ∷ [])))
  unfolding without_record flatten
  without_table =
      let p = record_parts size n i h in
      let x : List ℕ = flatten (drop (suc i) rs) ++ replicate size 0 in
      let lr : length (flatten (drop (suc i) rs)) ≡ (n - (i + 1)) * size = ap length (sym later) ∙ length-bytes_at b (base + (i + 1) * size) ((n - (i + 1)) * size) (omega arith) in
      let lx : length x ≡ (n - (i + 1)) * size + size = length-append (flatten (drop (suc i) rs)) (replicate size 0) ∙ ap₂ (λ (k m : ℕ). k + m) lr (length-replicate size 0) in
      ap (λ (y : List ℕ). patch b (base + i * size) (y ++ replicate size 0)) later
      ∙ sym (patch-bytes_at b base (n * size) (i * size) x f (omega arith))
      ∙ ap (λ (t : List ℕ). patch b base (patch t (i * size) x)) e ∙ ap (patch b base) (over x lx ∙ sym ends)
    where
      ends : flatten ((take i rs ++ drop (suc i) rs) ++ (replicate size 0 ∷ [])) ≡ flatten (take i rs) ++ (flatten (drop (suc i) rs) ++ replicate size 0)
      ends =
          flatten_append (take i rs ++ drop (suc i) rs) (replicate size 0 ∷ [])
          ∙ ap₂ (λ (x y : List ℕ). x ++ y) (flatten_append (take i rs) (drop (suc i) rs)) (append-nil (replicate size 0))
          ∙ append_assoc (flatten (take i rs)) (flatten (drop (suc i) rs)) (replicate size 0)
