-- A table over the fields of its records, their size and the table's limit: which records stand where, a record changed, added or removed,
-- and both round trips.
use Prim.Native.Nat.{ℕ, zero, suc, ◌+◌, ◌-◌, ◌≤◌, ◌<◌}
use native.Mathlib.Nat.{add-zero}
use native.Mathlib.Omega.{arith}
use mathlib.Core.Path.{◌≡◌, refl, sym, ap, ap₂, ◌∙◌}
use mathlib.Core.List.{List, [], ◌∷◌, ◌++◌, map, map-append, map-map, map-id, append_assoc, append-nil}
use mathlib.Core.Bool.{Bool, true}
use lib.ListN.{length, take, drop, get_or, set, replicate, length-append, length-map, length-replicate, length-set, length-take, length-drop, get_or-map, get_or-append, take-append-drop, get_or-replicate, replicate-append-replicate}
use lib.Seq.{take_at, drop_at, set-append_left, set_at, set-get_or, get_or-drop, length-take-le, take-append-le, drop-append-le}
use lib.Dec.{leb}
use borrow.Author.Tests.{le-leb, leb-true}
use Rattle.layout.specs.Bytes.{all_zero}
use Rattle.layout.proofs.BooleanLaws.{and_left, and_right, and_both}
use Rattle.layout.proofs.ByteLaws.{zero-replicate, replicate-zero}
use Rattle.layout.proofs.TableLaws.{map-take}
use Rattle.model.specs.Lists.{for_all}
use Rattle.model.specs.Board.{record_bytes, table_records}
use Rattle.model.proofs.StateRules.{stored_fits, table_fits}
use Rattle.model.proofs.RecordLaws.{RecordCodec, length_codec}
use Rattle.model.proofs.ListLaws.{all_append, all_map, all_weaken, all_replicate, all_take, all_drop, all_set, map-set, map-drop, map-replicate, drop-replicate, map_agree, map_constant}

-- ---- zeros

-- zero records of one size
zero_records : (size n : ℕ) (rs : List (List ℕ)) → map length rs ≡ replicate n size → for_all all_zero rs ≡ true → rs ≡ replicate n (replicate size 0)
zero_records size n rs e z =
    sym (map-id rs) ∙ map_agree all_zero (λ r. r) (λ r. replicate (length r) 0) zero-replicate rs z
    ∙ sym (map-map (λ (k : ℕ). replicate k 0) length rs) ∙ ap (map (λ (k : ℕ). replicate k 0)) e
    ∙ map-replicate (λ (k : ℕ). replicate k 0) n size

-- ---- records that have room for their fields

abbrev pub record_fits : {A : Type 0} → RecordCodec A → A → Bool
record_fits c x = for_all stored_fits (c.fields x)

abbrev pub codec_fits : {A : Type 0} → RecordCodec A → ℕ → List A → Bool
codec_fits c limit xs = table_fits limit c.fields xs

abbrev pub codec_table : {A : Type 0} → RecordCodec A → ℕ → List A → List (List ℕ)
codec_table c limit xs = table_records c.size limit c.fields xs

module _ {A : Type 0} (c : RecordCodec A) (limit : ℕ) where
  pub fits_count : (xs : List A) → codec_fits c limit xs ≡ true → length xs ≤ limit
  unfolding table_fits
  fits_count xs e = leb-true (length xs) limit (and_left (leb (length xs) limit) (for_all (record_fits c) xs) e)

  pub fits_records : (xs : List A) → codec_fits c limit xs ≡ true → for_all (record_fits c) xs ≡ true
  unfolding table_fits
  fits_records xs e = and_right (leb (length xs) limit) (for_all (record_fits c) xs) e

  pub fits_by : (xs : List A) → length xs ≤ limit → for_all (record_fits c) xs ≡ true → codec_fits c limit xs ≡ true
  unfolding table_fits
  fits_by xs h e = and_both (le-leb (length xs) limit h) e

  module _ (xs : List A) (f : codec_fits c limit xs ≡ true) where
    pub fits-set : (i : ℕ) (x : A) → record_fits c x ≡ true → codec_fits c limit (set xs i x) ≡ true
    fits-set i x e =
        fits_by (set xs i x) (rw length-set (fits_count xs f)) (all_set (record_fits c) xs i x (fits_records xs f) e)

    pub fits_add : (x : A) → length xs < limit → record_fits c x ≡ true → codec_fits c limit (xs ++ (x ∷ [])) ≡ true
    unfolding for_all
    fits_add x h e =
        fits_by (xs ++ (x ∷ [])) (rw length-append (omega arith))
        (all_append (record_fits c) xs (x ∷ []) ∙ and_both (fits_records xs f) (and_both e refl))

    pub fits_remove : (i : ℕ) → codec_fits c limit (take i xs ++ drop (suc i) xs) ≡ true
    fits_remove i =
        let l = length-append (take i xs) (drop (suc i) xs) in
        let t = length-take i xs in
        let d = length-drop (suc i) xs in
        let m = fits_count xs f in
        fits_by (take i xs ++ drop (suc i) xs) (omega arith)
        (all_append (record_fits c) (take i xs) (drop (suc i) xs)
        ∙ and_both (all_take (record_fits c) i xs (fits_records xs f)) (all_drop (record_fits c) (suc i) xs (fits_records xs f)))

-- ---- the records of a table

module _ {A : Type 0} (c : RecordCodec A) (limit : ℕ) where
  bytes_of_record : A → List ℕ
  bytes_of_record x = record_bytes (c.fields x)

  unused : ℕ → List (List ℕ)
  unused n = replicate (limit - n) (replicate c.size 0)

  table_parts : (xs : List A) → codec_table c limit xs ≡ map bytes_of_record xs ++ unused (length xs)
  unfolding table_records bytes_of_record unused
  table_parts xs = refl

  pub take-used : (xs : List A) → take (length xs) (codec_table c limit xs) ≡ map (λ x. record_bytes (c.fields x)) xs
  unfolding bytes_of_record
  take-used xs =
      ap (take (length xs)) (table_parts xs)
      ∙ take_at (map bytes_of_record xs) (unused (length xs)) (length xs) (length-map xs bytes_of_record)

  pub drop-used : (xs : List A) → drop (length xs) (codec_table c limit xs) ≡ replicate (limit - length xs) (replicate c.size 0)
  unfolding unused
  drop-used xs =
      ap (drop (length xs)) (table_parts xs)
      ∙ drop_at (map bytes_of_record xs) (unused (length xs)) (length xs) (length-map xs bytes_of_record)

  -- a full table has no unused record
  pub table-full : (xs : List A) → length xs ≡ limit → codec_table c limit xs ≡ take (length xs) (codec_table c limit xs)
  unfolding bytes_of_record unused
  table-full xs e =
      let none : limit - length xs ≡ 0 = omega arith in
      table_parts xs ∙ ap (λ (k : ℕ). map bytes_of_record xs ++ replicate k (replicate c.size 0)) none
      ∙ append-nil (map bytes_of_record xs) ∙ sym (take-used xs)

  pub record_at : (xs : List A) (i : ℕ) (d : A) → i < length xs → get_or (codec_table c limit xs) i [] ≡ record_bytes (c.fields (get_or xs i d))
  unfolding bytes_of_record
  record_at xs i d h =
      ap (λ (rs : List (List ℕ)). get_or rs i []) (table_parts xs)
      ∙ get_or-append (map bytes_of_record xs) (unused (length xs)) [] i (rw length-map h)
      ∙ get_d_default (map bytes_of_record xs) i [] (bytes_of_record d) (rw length-map h)
      ∙ get_or-map bytes_of_record xs i d
    where
      get_d_default : (rs : List (List ℕ)) (i : ℕ) (d e : List ℕ) → i < length rs → get_or rs i d ≡ get_or rs i e
      get_d_default [] i d e h = absurd (omega arith)
      get_d_default (r ∷ rs) zero d e h = refl
      get_d_default (r ∷ rs) (suc i) d e h = get_d_default rs i d e (omega arith)

  -- a test that every record passes which has room for its fields, and the unused records
  pub used-pass : (p : List ℕ → Bool) → ((x : A) → record_fits c x ≡ true → p (record_bytes (c.fields x)) ≡ true) → (xs : List A)
      → codec_fits c limit xs ≡ true → for_all p (take (length xs) (codec_table c limit xs)) ≡ true
  used-pass p h xs f =
      ap (for_all p) (take-used xs) ∙ all_map p (λ x. record_bytes (c.fields x)) xs
      ∙ all_weaken (record_fits c) (λ x. p (record_bytes (c.fields x))) h xs (fits_records c limit xs f)

  pub unused-zero : (xs : List A) → for_all all_zero (drop (length xs) (codec_table c limit xs)) ≡ true
  unused-zero xs = ap (for_all all_zero) (drop-used xs) ∙ all_replicate all_zero (limit - length xs) (replicate c.size 0) (replicate-zero c.size)

  -- records of zeros are unused ones
  pub zero-table : (x : A) → record_bytes (c.fields x) ≡ replicate c.size 0 → (n : ℕ) → n ≤ limit
      → codec_table c limit (replicate n x) ≡ replicate limit (replicate c.size 0)
  unfolding bytes_of_record unused
  zero-table x e n h =
      let whole : n + (limit - n) ≡ limit = omega arith in
      table_parts (replicate n x)
      ∙ ap₂ (λ (rs : List (List ℕ)) (k : ℕ). rs ++ replicate (limit - k) (replicate c.size 0))
      (map-replicate bytes_of_record n x ∙ ap (replicate n) e) (length-replicate n x)
      ∙ replicate-append-replicate n (limit - n) (replicate c.size 0) ∙ ap (λ (k : ℕ). replicate k (replicate c.size 0)) whole

  -- ---- a record changed, added, removed

  pub set-used : (xs : List A) (i : ℕ) (x : A) → i < length xs
      → set (codec_table c limit xs) i (record_bytes (c.fields x)) ≡ codec_table c limit (set xs i x)
  unfolding bytes_of_record
  set-used xs i x h =
      ap (λ (rs : List (List ℕ)). set rs i (bytes_of_record x)) (table_parts xs)
      ∙ set-append_left (map bytes_of_record xs) (unused (length xs)) i (bytes_of_record x) (rw length-map h)
      ∙ ap₂ (λ (rs : List (List ℕ)) (n : ℕ). rs ++ unused n) (sym (map-set bytes_of_record xs i x)) (sym (length-set xs i x))
      ∙ sym (table_parts (set xs i x))

  pub set-unused : (xs : List A) (x : A) → length xs < limit
      → set (codec_table c limit xs) (length xs) (record_bytes (c.fields x)) ≡ codec_table c limit (xs ++ (x ∷ []))
  unfolding bytes_of_record unused
  set-unused xs x h =
      let rs : List (List ℕ) = map bytes_of_record xs in
      let n : ℕ = length xs in
      let more : limit - n ≡ suc (limit - suc n) = omega arith in
      let one : n + 1 ≡ suc n = omega arith in
      ap (λ (ys : List (List ℕ)). set ys n (bytes_of_record x)) (table_parts xs)
      ∙ ap (λ (k : ℕ). set (rs ++ replicate k (replicate c.size 0)) n (bytes_of_record x)) more
      ∙ set_at rs (replicate c.size 0) (unused (suc n)) (bytes_of_record x) n (length-map xs bytes_of_record)
      ∙ sym (append_assoc rs (bytes_of_record x ∷ []) (unused (suc n)))
      ∙ ap₂ (λ (ys : List (List ℕ)) (k : ℕ). ys ++ unused k) (sym (map-append bytes_of_record xs (x ∷ []))) (sym (length-append xs (x ∷ []) ∙ one))
      ∙ sym (table_parts (xs ++ (x ∷ [])))

  -- the later records move up, and a zero record comes last
  pub remove_used : (xs : List A) (i : ℕ) → i < length xs → length xs ≤ limit
      → (take i (codec_table c limit xs) ++ drop (suc i) (codec_table c limit xs)) ++ (replicate c.size 0 ∷ [])
      ≡ codec_table c limit (take i xs ++ drop (suc i) xs)
  unfolding bytes_of_record unused
  remove_used xs i h l =
      let rs : List (List ℕ) = map bytes_of_record xs in
      let n : ℕ = length xs in
      let k : ℕ = limit - n in
      let ln : length rs ≡ n = length-map xs bytes_of_record in
      let la : length (take i xs ++ drop (suc i) xs) ≡ length (take i xs) + length (drop (suc i) xs) = length-append (take i xs) (drop (suc i) xs) in
      let lt : length (take i xs) ≡ i = length-take-le i xs (omega arith) in
      let ld : length (drop (suc i) xs) ≡ n - suc i = length-drop (suc i) xs in
      let more : k + 1 ≡ limit - length (take i xs ++ drop (suc i) xs) = omega arith in
      ap (λ (ys : List (List ℕ)). (take i ys ++ drop (suc i) ys) ++ (replicate c.size 0 ∷ [])) (table_parts xs)
      ∙ ap₂ (λ (p q : List (List ℕ)). (p ++ q) ++ (replicate c.size 0 ∷ [])) (take-append-le i rs (unused n) (omega arith))
      (drop-append-le (suc i) rs (unused n) (omega arith))
      ∙ regroup (take i rs) (drop (suc i) rs) (unused n) (replicate c.size 0 ∷ [])
      ∙ ap₂ (λ (p q : List (List ℕ)). p ++ q)
      (ap₂ (λ (p q : List (List ℕ)). p ++ q) (sym (map-take bytes_of_record i xs)) (sym (map-drop bytes_of_record (suc i) xs))
      ∙ sym (map-append bytes_of_record (take i xs) (drop (suc i) xs)))
      (replicate-append-replicate k 1 (replicate c.size 0) ∙ ap (λ (m : ℕ). replicate m (replicate c.size 0)) more)
      ∙ sym (table_parts (take i xs ++ drop (suc i) xs))
    where
      regroup : (p q r t : List (List ℕ)) → (p ++ (q ++ r)) ++ t ≡ (p ++ q) ++ (r ++ t)
      regroup p q r t = simp append_assoc

-- ---- sizes, and the round trips

module _ {A : Type 0} (c : RecordCodec A) (limit : ℕ) where
  pub sizes-table : (xs : List A) → codec_fits c limit xs ≡ true
      → map length (codec_table c limit xs) ≡ replicate limit c.size
  unfolding bytes_of_record unused
  sizes-table xs f =
      let h = fits_count c limit xs f in
      let e : length xs + (limit - length xs) ≡ limit = omega arith in
      ap (map length) (table_parts c limit xs)
      ∙ map-append length (map (λ x. record_bytes (c.fields x)) xs) (replicate (limit - length xs) (replicate c.size 0))
      ∙ ap₂ (λ (p q : List ℕ). p ++ q)
      (map-map length (λ x. record_bytes (c.fields x)) xs
      ∙ map_constant (record_fits c) (λ x. length (record_bytes (c.fields x))) c.size (length_codec c) xs
      (fits_records c limit xs f))
      (map-replicate length (limit - length xs) (replicate c.size 0) ∙ ap (replicate (limit - length xs)) (length-replicate c.size 0))
      ∙ replicate-append-replicate (length xs) (limit - length xs) c.size ∙ ap (λ (n : ℕ). replicate n c.size) e

  -- what was put in is read back
  pub table-read : (xs : List A) → codec_fits c limit xs ≡ true
      → map c.read (take (length xs) (codec_table c limit xs)) ≡ xs
  table-read xs f =
      ap (map c.read) (take-used c limit xs) ∙ map-map c.read (λ x. record_bytes (c.fields x)) xs
      ∙ map_agree (record_fits c) (λ x. c.read (record_bytes (c.fields x))) (λ x. x) c.read_back xs
      (fits_records c limit xs f)
      ∙ map-id xs

  -- a table of bytes: n records that may be ones, and zeros behind them
  pub record GoodTable (n : ℕ) (rs : List (List ℕ)) : Type 0 where
    pub sizes : map length rs ≡ replicate limit c.size
    pub count : n ≤ limit
    pub used : for_all c.good (take n rs) ≡ true
    pub unused : for_all all_zero (drop n rs) ≡ true

  module _ (n : ℕ) (rs : List (List ℕ)) (t : GoodTable n rs) where
    pub count-good : length (map c.read (take n rs)) ≡ n
    count-good =
        let l : length rs ≡ limit = sym (length-map rs length) ∙ ap length t.sizes ∙ length-replicate limit c.size in
        let m = t.count in
        length-map (take n rs) c.read ∙ length-take-le n rs (omega arith)

    -- what was read is put back
    pub table-back : codec_table c limit (map c.read (take n rs)) ≡ rs
    unfolding bytes_of_record unused
    table-back =
        table_parts c limit (map c.read (take n rs))
        ∙ ap₂ (λ (p q : List (List ℕ)). p ++ q)
        (map-map (λ x. record_bytes (c.fields x)) c.read (take n rs)
        ∙ map_agree c.good (λ r. record_bytes (c.fields (c.read r))) (λ r. r) c.bytes_back (take n rs) t.used ∙ map-id (take n rs))
        (ap (λ (k : ℕ). replicate (limit - k) (replicate c.size 0)) count-good
        ∙ sym (zero_records c.size (limit - n) (drop n rs)
        (map-drop length n rs ∙ ap (drop n) t.sizes ∙ drop-replicate n limit c.size t.count) t.unused))
        ∙ take-append-drop n rs

    pub table_fits_lem : codec_fits c limit (map c.read (take n rs)) ≡ true
    table_fits_lem =
        let l = count-good in
        let m = t.count in
        fits_by c limit (map c.read (take n rs)) (omega arith)
        (all_map (record_fits c) c.read (take n rs)
        ∙ all_weaken c.good (λ r. record_fits c (c.read r)) c.fits-back (take n rs) t.used)

-- ---- zero records

module _ {A : Type 0} (c : RecordCodec A) (limit : ℕ) where
  -- a table with room for more has zero records behind
  pub table-wider : (xs : List A) (n : ℕ) → length xs ≤ n → n ≤ limit
      → codec_table c limit xs ≡ codec_table c n xs ++ replicate (limit - n) (replicate c.size 0)
  unfolding table_records
  table-wider xs n h l = by_count (map (λ x. record_bytes (c.fields x)) xs) (replicate c.size 0)
    where
      by_count : (rs : List (List ℕ)) (z : List ℕ) → rs ++ replicate (limit - length xs) z
          ≡ rs ++ replicate (n - length xs) z ++ replicate (limit - n) z
      by_count rs z =
          let e : limit - length xs ≡ n - length xs + (limit - n) = omega arith in
          ap (λ (k : ℕ). rs ++ replicate k z) e
          ∙ ap (λ (zs : List (List ℕ)). rs ++ zs) (sym (replicate-append-replicate (n - length xs) (limit - n) z))
          ∙ sym (append_assoc rs (replicate (n - length xs) z) (replicate (limit - n) z))

  -- the first unused record is that of an element whose fields are zero
  pub table_added : (xs : List A) (x : A) → record_bytes (c.fields x) ≡ replicate c.size 0 → length xs < limit
      → codec_table c limit xs ≡ codec_table c limit (xs ++ (x ∷ []))
  table_added xs x z h =
      let rs : List (List ℕ) = codec_table c limit xs in
      sym (set-get_or rs (length xs) []) ∙ ap (set rs (length xs)) (first_unused ∙ sym z) ∙ set-unused c limit xs x h
    where
      first_unused : get_or (codec_table c limit xs) (length xs) [] ≡ replicate c.size 0
      first_unused =
          let some : 0 < limit - length xs = omega arith in
          ap (λ (k : ℕ). get_or (codec_table c limit xs) k []) (sym (add-zero (length xs)))
          ∙ sym (get_or-drop (length xs) (codec_table c limit xs) 0 [])
          ∙ ap (λ (rs : List (List ℕ)). get_or rs 0 []) (drop-used c limit xs)
          ∙ get_or-replicate (limit - length xs) 0 (replicate c.size 0) [] some
