-- The lists of answers, as the tables of a sound board hold them: all numbers of a table, and those of the users whose bits are set in a row.
use Prim.Native.Nat.{ℕ, zero, suc, ◌+◌, ◌-◌, ◌*◌, ◌^◌, min, ◌≤◌, ◌<◌}
use native.Mathlib.Nat.{le_refl}
use native.Mathlib.Numerals.{add-one}
use native.Mathlib.Omega.{arith}
use mathlib.Core.Path.{◌≡◌, refl, sym, ap, ◌∙◌, subst}
use mathlib.Core.List.{List, [], ◌∷◌, ◌++◌, map, map-append}
use lib.ListN.{length}
use lib.Pow.{ones_lt}
use mathlib.Core.Bool.{true}
use Rattle.layout.specs.Bits.{has_bit, set_places}
use Rattle.layout.specs.Tables.{record_numbers}
use Rattle.layout.proofs.BitLaws.{has_below, has_low, places_set, places_beyond, map_places}
use Rattle.layout.proofs.TableLaws.{numbers_join}
use Rattle.reader.specs.Fields.{number_in}
use Rattle.model.specs.State.{user_limit, user_numbers, pending_numbers, user_at, post_at, pending_at}
use Rattle.model.specs.Board.{decode}
use Rattle.model.specs.Answers.{users_in}
use Rattle.model.proofs.ReadingLaws.{read-user_number, read-post_number, read-pending_number, read-user-numbers, read-pending-numbers}
use Rattle.model.proofs.RuleLaws.{rules_of}
use Rattle.model.proofs.SoundnessTheorems.{SoundState}
use Rattle.model.proofs.SoundBoards.{users-limit, pending-limit}
use Rattle.access.specs.Tables.{table_start, record_size, record_limit, field_place, record_count}
use Rattle.access.specs.declared.tables.Table.{Table}
use Rattle.access.specs.declared.tables.Table.TheVariants.{Users, Posts, Pending}
use Rattle.access.proofs.TableReads.{count_below, field-within}
use Rattle.queries.specs.QueryResults.{numbers_in}

-- a record's number is its first field
number-room : (t : Table) → 0 + 4 ≤ record_size t
number-room Users = omega arith
number-room Posts = omega arith
number-room Pending = omega arith

-- ---- the first n records: the bits of the first n are set

module _ (b : List ℕ) (base size n : ℕ) where
  abbrev number_at : ℕ → ℕ
  number_at i = number_in b (base + i * size) 4

  first_numbers : (k : ℕ) → k ≤ n → map number_at (set_places (2 ^ n - 1) k) ≡ record_numbers b base size k
  unfolding set_places record_numbers
  first_numbers zero h = refl
  first_numbers (suc k) h =
      ap (λ (j : ℕ). map number_at (set_places (2 ^ n - 1) j)) (sym (add-one k))
      ∙ ap (map number_at) (places_set (2 ^ n - 1) k (has_low n k h)) ∙ map-append number_at (set_places (2 ^ n - 1) k) (k ∷ [])
      ∙ ap (λ (xs : List ℕ). xs ++ (number_at k ∷ [])) (first_numbers k (omega arith))
      ∙ sym (ap (record_numbers b base size) (sym (add-one k)) ∙ numbers_join b base size k 1)

  all_numbers : {m row : ℕ} → n ≤ user_limit → m ≡ n → row ≡ 2 ^ min m 32 - 1
      → map (λ (i : ℕ). number_in b (base + i * size) 4) (set_places row user_limit) ≡ record_numbers b base size n
  all_numbers {m} {row} h c e =
      let k : min m 32 ≡ n = omega arith in
      let s : user_limit ≡ n + (user_limit - n) = omega arith in
      ap (map number_at)
      (ap (λ (x : ℕ). set_places x user_limit) (e ∙ ap (λ (x : ℕ). 2 ^ x - 1) k)
      ∙ ap (set_places (2 ^ n - 1)) s ∙ places_beyond (2 ^ n - 1) n (user_limit - n) (ones_lt n))
      ∙ first_numbers n (le_refl n)

module _ {b : List ℕ} (w : SoundState b) where
  -- ---- the records whose bits are set in a row: only records have bits

  -- record j is one of the table, and its number lies where the table does
  module _ (t : Table) {row : ℕ} (h : row < 2 ^ record_count (decode b) t) (j : ℕ) (set : has_bit row j ≡ true) where
    pub listed-below : j < record_limit t
    listed-below = let l = has_below row (record_count (decode b) t) j h set in omega (arith, count_below w t)

    pub listed-within : field_place t j 0 + 4 ≤ length b
    listed-within = field-within w t j 0 4 (has_below row (record_count (decode b) t) j h set) (number-room t)

  -- the numbers of the records are those of the state
  pub listed : (t : Table) {row : ℕ} → row < 2 ^ record_count (decode b) t
      → map (λ (i : ℕ). number_in b (table_start t + i * record_size t) 4) (set_places row user_limit) ≡ numbers_in (decode b) t row
  unfolding users_in
  listed Users {row = row} h =
      map_places (λ (i : ℕ). number_in b (16 + i * 104) 4) (λ (i : ℕ). (user_at (decode b) i).number) row user_limit
      (λ i t. read-user_number w.encoded i (has_below row (length (decode b).users) i h t))
  listed Posts {row = row} h =
      map_places (λ (i : ℕ). number_in b (3344 + i * 312) 4) (λ (i : ℕ). (post_at (decode b) i).number) row user_limit
      (λ i t. read-post_number w.encoded i (has_below row (length (decode b).posts) i h t))
  listed Pending {row = row} h =
      map_places (λ (i : ℕ). number_in b (23312 + i * 32) 4) (λ (i : ℕ). (pending_at (decode b) i).number) row user_limit
      (λ i t. read-pending_number w.encoded i (has_below row (length (decode b).pending) i h t))

  -- ---- all records of a table

  module _ (t : Table) (few : record_count (decode b) t ≤ user_limit) {n row : ℕ} (c : n ≡ record_count (decode b) t) (e : row ≡ 2 ^ min n 32 - 1) where
    pub all-below : row < 2 ^ record_count (decode b) t
    all-below =
        let k : min n 32 ≡ record_count (decode b) t = omega arith in
        subst (λ (x : ℕ). x < 2 ^ record_count (decode b) t) (sym (e ∙ ap (λ (x : ℕ). 2 ^ x - 1) k)) (ones_lt (record_count (decode b) t))

    all_listed : numbers_in (decode b) t row ≡ record_numbers b (table_start t) (record_size t) (record_count (decode b) t)
    all_listed =
        sym (listed t all-below) ∙ all_numbers b (table_start t) (record_size t) (record_count (decode b) t) few c e

  module _ {n row : ℕ} (e : row ≡ 2 ^ min n 32 - 1) where
    pub all_users : n ≡ length (decode b).users → users_in (decode b) row ≡ user_numbers (decode b)
    all_users c = all_listed Users (users-limit w) c e ∙ read-user-numbers w.encoded

    pub all_pending : n ≡ length (decode b).pending → numbers_in (decode b) Pending row ≡ pending_numbers (decode b)
    all_pending c = let l = pending-limit w in all_listed Pending (omega arith) c e ∙ read-pending-numbers w.encoded

  -- ---- the rows of the user in a slot

  module _ {slot row : ℕ} (h : slot < length (decode b).users) where
    pub friends_below_lem : row ≡ (user_at (decode b) slot).friends → row < 2 ^ length (decode b).users
    friends_below_lem q = subst (λ (x : ℕ). x < 2 ^ length (decode b).users) (sym q) ((rules_of (decode b) w.keeps).friends-below slot h)

    pub requests_below_lem : row ≡ (user_at (decode b) slot).requests → row < 2 ^ length (decode b).users
    requests_below_lem q = subst (λ (x : ℕ). x < 2 ^ length (decode b).users) (sym q) ((rules_of (decode b) w.keeps).requests-below slot h)
