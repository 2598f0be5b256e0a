-- What functions that look into a table of a sound board return: its count, and the place of a number.
use Prim.Native.Nat.{ℕ, ◌+◌, ◌*◌, ◌≤◌, ◌<◌}
use native.Mathlib.Omega.{arith}
use mathlib.Core.Path.{◌≡◌, sym, ap, ap₂, ◌∙◌}
use mathlib.Core.List.{List, map}
use lib.ListN.{length, length-map}
use lib.Dec.{ltb}
use Rattle.layout.specs.Search.{index_of}
use Rattle.layout.specs.Tables.{record_numbers}
use Rattle.layout.proofs.TableLaws.{record-within}
use Rattle.reader.specs.Fields.{number_in}
use Rattle.model.specs.Lists.{contains}
use Rattle.model.specs.State.{User, Post, State, user_numbers, post_numbers, pending_numbers}
use Rattle.model.specs.State
use Rattle.model.specs.Board.{board_size, decode}
use Rattle.model.specs.Lookups.{is_registered, is_post, is_pending, user_slot, post_place, pending_place}
use Rattle.model.proofs.ReadingLaws.{read-user-count, read-post-count, read-pending-count, read-user-numbers, read-post-numbers, read-pending-numbers}
use Rattle.model.proofs.SoundnessTheorems.{SoundState}
use Rattle.model.proofs.SoundBoards.{sound-length, users-limit, posts-limit, pending-limit}
use Rattle.access.specs.Tables.{count_at, table_start, record_size, record_limit, field_place, record_count, is_in, place_in}
use Rattle.access.specs.declared.tables.Table.{Table}
use Rattle.access.specs.declared.tables.Table.TheVariants.{Users, Posts, Pending}

-- ---- where the tables lie

pub fields-bounded : (t : Table) (i field : ℕ) → i < record_limit t → field ≤ record_size t → field_place t i field ≤ board_size
fields-bounded Users i field h f = omega arith
fields-bounded Posts i field h f = omega arith
fields-bounded Pending i field h f = omega arith

module _ {b : List ℕ} (w : SoundState b) where
  pub count-within : (t : Table) → count_at t + 2 ≤ length b
  count-within Users = omega (arith, sound-length w)
  count-within Posts = omega (arith, sound-length w)
  count-within Pending = omega (arith, sound-length w)

  pub read_count : (t : Table) → number_in b (count_at t) 2 ≡ record_count (decode b) t
  read_count Users = read-user-count w.encoded
  read_count Posts = read-post-count w.encoded
  read_count Pending = read-pending-count w.encoded

  pub records-within : (t : Table) → table_start t + record_count (decode b) t * record_size t ≤ length b
  records-within Users = omega (arith, sound-length w, users-limit w)
  records-within Posts = omega (arith, sound-length w, posts-limit w)
  records-within Pending = omega (arith, sound-length w, pending-limit w)

  pub count_below : (t : Table) → record_count (decode b) t ≤ record_limit t
  count_below Users = users-limit w
  count_below Posts = posts-limit w
  count_below Pending = pending-limit w

  -- a field of one of the records lies where the table does
  pub field-within : (t : Table) (i at width : ℕ) → i < record_count (decode b) t → at + width ≤ record_size t
      → field_place t i at + width ≤ length b
  field-within t i at width h f =
      omega (arith, record-within (table_start t) (record_size t) (record_count (decode b) t) i (length b) h (records-within t), f)

-- ---- the place of a number

-- it is there if the place that the search gives is below the count
place-below : {A : Type 0} (f : A → ℕ) (xs : List A) (x : ℕ) → contains x (map f xs) ≡ ltb (index_of x (map f xs)) (length xs)
unfolding contains
place-below f xs x = ap (ltb (index_of x (map f xs))) (length-map xs f)

pub in_table : (s : State) (t : Table) (x : ℕ) → is_in s t x ≡ ltb (place_in s t x) (record_count s t)
unfolding is_registered is_post is_pending user_slot post_place pending_place user_numbers post_numbers pending_numbers
in_table s Users x = place-below (λ (u : User). u.number) s.users x
in_table s Posts x = place-below (λ (p : Post). p.number) s.posts x
in_table s Pending x = place-below (λ (p : State.Pending). p.number) s.pending x

search-place : {b : List ℕ} (w : SoundState b) (t : Table) (x : ℕ)
    → index_of x (record_numbers b (table_start t) (record_size t) (record_count (decode b) t)) ≡ place_in (decode b) t x
unfolding user_slot post_place pending_place
search-place w Users x = ap (index_of x) (read-user-numbers w.encoded)
search-place w Posts x = ap (index_of x) (read-post-numbers w.encoded)
search-place w Pending x = ap (index_of x) (read-pending-numbers w.encoded)

-- the place that a search of n records gave
module _ {b : List ℕ} (w : SoundState b) (t : Table) (x : ℕ) {n i : ℕ} (e : n ≡ record_count (decode b) t)
    (f : i ≡ index_of x (record_numbers b (table_start t) (record_size t) n)) where
  pub place-found : i ≡ place_in (decode b) t x
  place-found = f ∙ ap (λ (k : ℕ). index_of x (record_numbers b (table_start t) (record_size t) k)) e ∙ search-place w t x

  pub test_found : is_in (decode b) t x ≡ ltb i n
  test_found = in_table (decode b) t x ∙ sym (ap₂ ltb place-found e)
