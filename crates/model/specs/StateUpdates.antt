-- States, users and posts with a part replaced.
use Rattle.std.specs.Prelude.{ℕ, List}
use Rattle.model.specs.State.{User, Post, Pending, State}

-- ---- the state with one of its lists replaced

abbrev pub with_users : State → List User → State
with_users s users = record { users = users; posts = s.posts; pending = s.pending; notes = s.notes }

abbrev pub with_posts : State → List Post → State
with_posts s posts = record { users = s.users; posts = posts; pending = s.pending; notes = s.notes }

abbrev pub with_pending : State → List Pending → State
with_pending s pending = record { users = s.users; posts = s.posts; pending = pending; notes = s.notes }

abbrev pub with_notes : State → List (List ℕ) → State
with_notes s notes = record { users = s.users; posts = s.posts; pending = s.pending; notes = notes }

-- ---- a record with one of its fields replaced

abbrev pub with_password : User → ℕ → User
with_password u x = record { number = u.number; password = x; friends = u.friends; requests = u.requests; name = u.name; info = u.info }

abbrev pub with_friends : User → ℕ → User
with_friends u x = record { number = u.number; password = u.password; friends = x; requests = u.requests; name = u.name; info = u.info }

abbrev pub with_requests : User → ℕ → User
with_requests u x = record { number = u.number; password = u.password; friends = u.friends; requests = x; name = u.name; info = u.info }

abbrev pub with_name : User → List ℕ → User
with_name u x = record { number = u.number; password = u.password; friends = u.friends; requests = u.requests; name = x; info = u.info }

abbrev pub with_info : User → List ℕ → User
with_info u x = record { number = u.number; password = u.password; friends = u.friends; requests = u.requests; name = u.name; info = x }

abbrev pub with_picture : Post → ℕ → Post
with_picture p x = record { number = p.number; picture = x; owner = p.owner; visibility = p.visibility; title = p.title; text = p.text }

abbrev pub with_visibility : Post → ℕ → Post
with_visibility p x = record { number = p.number; picture = p.picture; owner = p.owner; visibility = x; title = p.title; text = p.text }

abbrev pub with_title : Post → List ℕ → Post
with_title p x = record { number = p.number; picture = p.picture; owner = p.owner; visibility = p.visibility; title = x; text = p.text }

abbrev pub with_text : Post → List ℕ → Post
with_text p x = record { number = p.number; picture = p.picture; owner = p.owner; visibility = p.visibility; title = p.title; text = x }
