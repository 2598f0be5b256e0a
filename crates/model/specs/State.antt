-- The board as a state: what its bytes mean.
use Rattle.std.specs.Prelude.{ℕ, ◌*◌, List, [], map, Bool, ◌&&◌, length, drop, get_or, replicate, eqb, ltb}

-- "number 4, password 8, friend row 4 (bit j: slot j is a friend), request row 4 (bit j: slot j has requested this user), name 2+24,
-- info 2+56"
pub record User : Type 0 where
  pub number : ℕ
  pub password : ℕ
  pub friends : ℕ
  pub requests : ℕ
  pub name : List ℕ
  pub info : List ℕ

-- "number 4, picture 4, owner's slot 2, visibility 2, title 2+40, text 2+256"
pub record Post : Type 0 where
  pub number : ℕ
  pub picture : ℕ
  pub owner : ℕ
  pub visibility : ℕ
  pub title : List ℕ
  pub text : List ℕ

-- "number 4, note 2+24, .."
pub record Pending : Type 0 where
  pub number : ℕ
  pub note : List ℕ

-- "Users stand in order of registration, pending ones in order of asking, posts in order of creation". There is a note for each pair of
-- slots, empty where there is no request.
pub record State : Type 0 where
  pub users : List User
  pub posts : List Post
  pub pending : List Pending
  pub notes : List (List ℕ)

-- "users n (at most 32), posts m (64), pending k (16)"
abbrev pub user_limit : ℕ
user_limit = 32

abbrev pub post_limit : ℕ
post_limit = 64

abbrev pub pending_limit : ℕ
pending_limit = 16

abbrev pub note_count : ℕ
note_count = user_limit * user_limit

-- the state of the empty board
unfoldable pub empty_state : State
empty_state = record { users = []; posts = []; pending = []; notes = replicate note_count [] }

-- ---- the numbers of each table

unfoldable pub user_numbers : State → List ℕ
user_numbers s = map (λ (u : User). u.number) s.users

unfoldable pub post_numbers : State → List ℕ
post_numbers s = map (λ (p : Post). p.number) s.posts

unfoldable pub pending_numbers : State → List ℕ
pending_numbers s = map (λ (p : Pending). p.number) s.pending

-- ---- what stands at a place; an unused one holds zeros and empty strings

abbrev pub no_user : User
no_user = record { number = 0; password = 0; friends = 0; requests = 0; name = []; info = [] }

abbrev pub no_post : Post
no_post = record { number = 0; picture = 0; owner = 0; visibility = 0; title = []; text = [] }

abbrev pub no_pending : Pending
no_pending = record { number = 0; note = [] }

unfoldable pub user_at : State → ℕ → User
user_at s i = get_or s.users i no_user

unfoldable pub post_at : State → ℕ → Post
post_at s i = get_or s.posts i no_post

unfoldable pub pending_at : State → ℕ → Pending
pending_at s i = get_or s.pending i no_pending

-- "the note to slot i from slot j is number 32 × i + j": the notes to slot i begin with number 32 × i. They have a name so that a test of
-- all notes counts to those of a slot once.
unfoldable pub notes_to : State → ℕ → List (List ℕ)
notes_to s i = drop (user_limit * i) s.notes

unfoldable pub note_at : State → ℕ → ℕ → List ℕ
note_at s i j = get_or (notes_to s i) j []

-- "Slot 0 is the admin."
unfoldable pub is_admin : State → ℕ → Bool
is_admin s u = ltb 0 (length s.users) && eqb (user_at s 0).number u
