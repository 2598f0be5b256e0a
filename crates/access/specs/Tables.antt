-- The three tables of a board, by the case of the enum: where they lie, how many records they have, and which numbers.
use Rattle.std.specs.Prelude.{ℕ, ◌+◌, ◌*◌, Bool, cond, length, Option, Some, None}
use Rattle.model.specs.State.{State, user_limit, post_limit, pending_limit}
use Rattle.model.specs.Lookups.{is_registered, is_post, is_pending, user_slot, post_place, pending_place}
use Rattle.access.specs.declared.tables.Table.{Table}
use Rattle.access.specs.declared.tables.Table.TheVariants.{Users, Posts, Pending}

-- where the header has the count, where the records begin, and the bytes of each
abbrev pub count_at : Table → ℕ
count_at Users = 0
count_at Posts = 2
count_at Pending = 4

abbrev pub table_start : Table → ℕ
table_start Users = 16
table_start Posts = 3344
table_start Pending = 23312

abbrev pub record_size : Table → ℕ
record_size Users = 104
record_size Posts = 312
record_size Pending = 32

-- how many records there is room for
abbrev pub record_limit : Table → ℕ
record_limit Users = user_limit
record_limit Posts = post_limit
record_limit Pending = pending_limit

-- where a field of record i stands, by its place in the record
abbrev pub field_place : Table → ℕ → ℕ → ℕ
field_place t i field = table_start t + i * record_size t + field

abbrev pub record_count : State → Table → ℕ
record_count s Users = length s.users
record_count s Posts = length s.posts
record_count s Pending = length s.pending

-- whether a number stands in a table, and where
abbrev pub is_in : State → Table → ℕ → Bool
is_in s Users x = is_registered s x
is_in s Posts x = is_post s x
is_in s Pending x = is_pending s x

abbrev pub place_in : State → Table → ℕ → ℕ
place_in s Users x = user_slot s x
place_in s Posts x = post_place s x
place_in s Pending x = pending_place s x

-- a place, if there is such a record
abbrev pub place_if : Bool → ℕ → Option ℕ
place_if there place = cond there (Some place) None
