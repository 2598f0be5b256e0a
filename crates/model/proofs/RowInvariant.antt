-- Requests and friendships put in and removed keep a state valid. A change of a bit is described for all rows at once: row i gets the
-- value at place j, and every other bit stays. `request-kept`, `request-removed-kept`, `requests-removed-kept`, `friends-kept`,
-- `friends-removed-kept`, and for the kinds `friend-request-valid`, `friend-valid`, `unfriend_valid`.
use Prim.Native.Nat.{ℕ, ◌+◌, ◌*◌, ◌^◌, ◌≤◌, ◌<◌}
use native.Mathlib.Nat.{lt_of_lt_of_le, lt_of_le_of_lt}
use native.Mathlib.Omega.{arith}
use mathlib.Core.Path.{◌≡◌, refl, sym, ap, ap₂, ◌∙◌, subst}
use mathlib.Core.Logic.{◌≢◌}
use mathlib.Core.List.{List, []}
use mathlib.Core.Bool.{Bool, true, false, not, cond, ◌&&◌, and_comm, false≢true}
use mathlib.Core.Option.{none}
use lib.ListN.{length, get_or, set, length-set, length-map}
use lib.Seq.{get_or-set_same, get_or-set_other, get_or-drop, map-set_same}
use lib.Dec.{eqb, ltb}
use lib.Pow.{pow_mono}
use borrow.Author.Tests.{not-false, eqb-true, eqb-false, eq-eqb, ne_eqb, lt-ltb}
use Rattle.layout.specs.Bits.{bit_at, has_bit, set_bit, clear_bit}
use Rattle.layout.specs.StringFields.{is_string}
use Rattle.layout.proofs.BooleanLaws.{and_left, and_right, and_both, apply_cond, cond_same}
use Rattle.layout.proofs.BitLaws.{bit-set, bit-set_other, bit_clear, bit_clear_other, set_lt, clear_le}
use Rattle.reader.specs.Fields.{note_limit}
use Rattle.model.specs.Lists.{for_all, contains, distinct}
use Rattle.model.specs.State.{User, Post, State, user_limit, note_count, user_numbers, post_numbers, pending_numbers, no_user, user_at, notes_to, note_at}
use Rattle.model.specs.StateUpdates.{with_users, with_notes, with_friends, with_requests}
use Rattle.model.specs.Board.{unsigned, user_fields, note_fields}
use Rattle.model.specs.Lookups.{is_registered, user_slot, user_numbered, are_friends, has_requested}
use Rattle.model.specs.Actions.{c_friend_req, c_friend, d_friend}
use Rattle.model.specs.Refusals.{first_cause, change_refusals, after_login, user_rows}
use Rattle.model.specs.Changes.{update_user, set_note, write_request, write_friend, add_request, remove_request, add_friends, remove_friends, remove_requests, accept_request, apply_change}
use Rattle.model.proofs.StateRules.{stored_fits}
use Rattle.model.proofs.ListLaws.{all_at, all_set, field-set}
use Rattle.model.proofs.RecordTheorems.{user_codec, note_codec}
use Rattle.model.proofs.TableRecordLaws.{fits_count, fits_records, fits-set}
use Rattle.model.proofs.BoardTheorems.{FittingState}
use Rattle.model.proofs.WritingLaws.{fits-users, fits-notes}
use Rattle.model.proofs.AcceptedLaws.{none_applies, slot_below, slot_injective}
use Rattle.model.proofs.RuleLaws.{ValidState, Rules, with_users_lem, rules_of, keeps-rules}

-- ---- a bit written

-- f writes a value at a place of a row
pub record BitWrite (f : ℕ → ℕ → ℕ) (value : ℕ) : Type 0 where
  pub there : (row j : ℕ) → j < 32 → bit_at (f row j) j ≡ value
  pub elsewhere : (row j m : ℕ) → m ≢ j → bit_at (f row j) m ≡ bit_at row m
  pub bound : (n row j : ℕ) → row < 2 ^ n → j < n → f row j < 2 ^ n

pub set_writes : BitWrite set_bit 1
set_writes = record { there = bit-set; elsewhere = bit-set_other; bound = set_lt }

pub clear_writes : BitWrite clear_bit 0
clear_writes = record { there = λ row j h. bit_clear row j; elsewhere = bit_clear_other; bound = λ n row j h l. lt_of_le_of_lt (clear_le row j) h }

-- row i of rows is written at place j
unfoldable pub write_row : (ℕ → ℕ → ℕ) → ℕ → ℕ → (ℕ → ℕ) → ℕ → ℕ
write_row f i j rows k = cond (eqb k i) (f (rows k) j) (rows k)

-- the rules for n rows: none has its own bit or one at or above n
record RowRules (n : ℕ) (rows : ℕ → ℕ) : Type 0 where
  not_own : (k : ℕ) → k < n → has_bit (rows k) k ≡ false
  below : (k : ℕ) → k < n → rows k < 2 ^ n

abbrev SymmetricRows : ℕ → (ℕ → ℕ) → Type 0
SymmetricRows n rows = (k m : ℕ) → k < n → m < n → bit_at (rows k) m ≡ bit_at (rows m) k

module _ {f : ℕ → ℕ → ℕ} {value : ℕ} (w : BitWrite f value) (rows : ℕ → ℕ) where
  pub bit-written : (i j : ℕ) → j < 32 → (k m : ℕ) → bit_at (write_row f i j rows k) m ≡ cond (eqb k i && eqb m j) value (bit_at (rows k) m)
  unfolding write_row
  bit-written i j h k m = by_row (eqb k i)
    where
      by_place : (t : Bool) → eqb m j ≡ t → bit_at (f (rows k) j) m ≡ cond t value (bit_at (rows k) m)
      by_place true e = ap (bit_at (f (rows k) j)) (eqb-true m j e) ∙ w.there (rows k) j h
      by_place false e = w.elsewhere (rows k) j m (eqb-false m j e)

      by_row : (t : Bool) → bit_at (cond t (f (rows k) j) (rows k)) m ≡ cond (t && eqb m j) value (bit_at (rows k) m)
      by_row true = by_place (eqb m j) refl
      by_row false = refl

  -- a row's own bit may only be cleared
  rows-kept : {n : ℕ} (i j : ℕ) → n ≤ 32 → j < n → (i ≡ j → value ≡ 0) → RowRules n rows → RowRules n (write_row f i j rows)
  unfolding write_row has_bit
  rows-kept {n} i j b h own r = record {
    not_own = λ k l. ap (λ (x : ℕ). eqb x 1) (bit-written i j (omega arith) k k) ∙ by_place k (eqb k i && eqb k j) refl (r.not_own k l);
    below = λ k l. by_row k (eqb k i) (r.below k l);
  }
    where
      by_place : (k : ℕ) (t : Bool) → (eqb k i && eqb k j) ≡ t → eqb (bit_at (rows k) k) 1 ≡ false → eqb (cond t value (bit_at (rows k) k)) 1 ≡ false
      by_place k true e q =
          ap (λ (x : ℕ). eqb x 1)
          (own (sym (eqb-true k i (and_left (eqb k i) (eqb k j) e)) ∙ eqb-true k j (and_right (eqb k i) (eqb k j) e)))
      by_place k false e q = q

      by_row : (k : ℕ) (t : Bool) → rows k < 2 ^ n → cond t (f (rows k) j) (rows k) < 2 ^ n
      by_row k true l = w.bound n (rows k) j l h
      by_row k false l = l

  -- rows with no bit in common with others stay so, if a bit is set only where the other row has none
  apart-written : (others : ℕ → ℕ) (i j : ℕ) → j < 32 → (eqb value 1 && has_bit (others i) j) ≡ false
      → (k m : ℕ) → (has_bit (rows k) m && has_bit (others k) m) ≡ false → (has_bit (write_row f i j rows k) m && has_bit (others k) m) ≡ false
  unfolding has_bit
  apart-written others i j h free k m old =
      ap (λ (x : ℕ). eqb x 1 && has_bit (others k) m) (bit-written i j h k m) ∙ by_place (eqb k i && eqb m j) refl
    where
      by_place : (t : Bool) → (eqb k i && eqb m j) ≡ t → (eqb (cond t value (bit_at (rows k) m)) 1 && has_bit (others k) m) ≡ false
      by_place true e =
          ap₂ (λ (a b : ℕ). eqb value 1 && has_bit (others a) b) (eqb-true k i (and_left (eqb k i) (eqb m j) e)) (eqb-true m j (and_right (eqb k i) (eqb m j) e)) ∙ free
      by_place false e = old

-- rows written at (i, j) and at (j, i) stay symmetric
module _ {f : ℕ → ℕ → ℕ} {value : ℕ} (w : BitWrite f value) (rows : ℕ → ℕ) {n : ℕ} (i j : ℕ) (b : n ≤ 32) (hi : i < n) (hj : j < n) where
  symmetric-kept : SymmetricRows n rows → SymmetricRows n (write_row f j i (write_row f i j rows))
  symmetric-kept r k m hk hm =
      bits k m ∙ ap (λ (x : ℕ). cond (eqb k j && eqb m i) value (cond (eqb k i && eqb m j) value x)) (r k m hk hm)
      ∙ exchange (eqb k j && eqb m i) (eqb k i && eqb m j) (bit_at (rows m) k)
      ∙ ap₂ (λ (p q : Bool). cond p value (cond q value (bit_at (rows m) k))) (and_comm (eqb k i) (eqb m j)) (and_comm (eqb k j) (eqb m i))
      ∙ sym (bits m k)
    where
      bits : (k m : ℕ) → bit_at (write_row f j i (write_row f i j rows) k) m
          ≡ cond (eqb k j && eqb m i) value (cond (eqb k i && eqb m j) value (bit_at (rows k) m))
      bits k m =
          bit-written w (write_row f i j rows) j i (omega arith) k m
          ∙ ap (cond (eqb k j && eqb m i) value) (bit-written w rows i j (omega arith) k m)

      exchange : (p q : Bool) (x : ℕ) → cond p value (cond q value x) ≡ cond q value (cond p value x)
      exchange true true x = refl
      exchange true false x = refl
      exchange false true x = refl
      exchange false false x = refl

-- ---- the rows and notes of a state

abbrev friend_rows : State → ℕ → ℕ
friend_rows s k = (user_at s k).friends

abbrev request_rows : State → ℕ → ℕ
request_rows s k = (user_at s k).requests

-- where the bit is not set, the note is empty
abbrev RequestedNotes : (ℕ → ℕ) → (ℕ → ℕ → List ℕ) → Type 0
RequestedNotes rows notes = (k m : ℕ) → k < user_limit → m < user_limit → has_bit (rows k) m ≡ false → notes k m ≡ []

-- no bit is set in both rows of a slot
abbrev ApartRows : ℕ → (ℕ → ℕ) → (ℕ → ℕ) → Type 0
ApartRows n friends requests = (k m : ℕ) → k < n → m < user_limit → (has_bit (friends k) m && has_bit (requests k) m) ≡ false

-- the rules of a state with other users of the same numbers and other notes, from those of its rows and notes
rules_with_rows : (s : State) → Rules s → 0 < length s.users → (us : List User) (ns : List (List ℕ)) → user_numbers (with_users s us) ≡ user_numbers s
    → RowRules (length s.users) (friend_rows (with_users s us)) → SymmetricRows (length s.users) (friend_rows (with_users s us))
    → RowRules (length s.users) (request_rows (with_users s us)) → RequestedNotes (request_rows (with_users s us)) (note_at (with_notes s ns))
    → ApartRows (length s.users) (friend_rows (with_users s us)) (request_rows (with_users s us)) → Rules (with_notes (with_users s us) ns)
unfolding user_numbers post_numbers pending_numbers user_at notes_to note_at
rules_with_rows s r positive us ns numbers friends symmetric requests notes apart =
    let count : length us ≡ length s.users =
    sym (length-map us (λ (u : User). u.number)) ∙ ap length numbers ∙ length-map s.users (λ (u : User). u.number)
    in
    record {
      nothing_else = with_users_lem (with_notes (with_users s us) ns) (omega arith);
      users_not_zero = ap (for_all (ltb 0)) numbers ∙ r.users_not_zero;
      posts_not_zero = r.posts_not_zero;
      pending_not_zero = r.pending_not_zero;
      users-distinct = ap distinct numbers ∙ r.users-distinct;
      posts-distinct = r.posts-distinct;
      pending-distinct = r.pending-distinct;
      pending-unregistered = ap (λ (xs : List ℕ). for_all (λ (x : ℕ). not (contains x xs)) (pending_numbers s)) numbers ∙ r.pending-unregistered;
      symmetric = λ i j h l. symmetric i j (omega arith) (omega arith);
      not_own-friend = λ i h. friends.not_own i (omega arith);
      not_own-request = λ i h. requests.not_own i (omega arith);
      friends-below = λ i h. rw count (friends.below i (omega arith));
      requests-below = λ i h. rw count (requests.below i (omega arith));
      unrequested_empty = notes;
      owners = ap (λ (n : ℕ). for_all (λ (p : Post). ltb p.owner n) s.posts) count ∙ r.owners;
      visibilities = r.visibilities;
      apart = λ i j h l. apart i j (omega arith) l;
    }

-- ---- an element, a user and a note replaced

-- an element replaced by its image
get_or-updated : {A : Type 0} (xs : List A) (g : A → A) (d : A) (i k : ℕ) → i < length xs
    → get_or (set xs i (g (get_or xs i d))) k d ≡ cond (eqb k i) (g (get_or xs k d)) (get_or xs k d)
get_or-updated xs g d i k h = by_place (eqb k i) refl
  where
    by_place : (t : Bool) → eqb k i ≡ t → get_or (set xs i (g (get_or xs i d))) k d ≡ cond t (g (get_or xs k d)) (get_or xs k d)
    by_place true e =
        let q = eqb-true k i e in
        ap (λ (x : ℕ). get_or (set xs i (g (get_or xs i d))) x d) q ∙ get_or-set_same xs i (g (get_or xs i d)) d h
        ∙ ap (λ (x : ℕ). g (get_or xs x d)) (sym q)
    by_place false e = get_or-set_other xs i k (g (get_or xs i d)) d (eqb-false k i e)

module _ (s : State) (i : ℕ) (g : User → User) where
  -- a field of the users, changed and unchanged
  pub field-updated : (field : User → ℕ) → i < length s.users
      → (k : ℕ) → field (user_at (update_user s i g) k) ≡ cond (eqb k i) (field (g (user_at s k))) (field (user_at s k))
  unfolding user_at update_user
  field-updated field h k = ap field (get_or-updated s.users g no_user i k h) ∙ apply_cond field (eqb k i) (g (user_at s k)) (user_at s k)

  pub field-kept : (field : User → ℕ) → ((a : User) → field (g a) ≡ field a) → (k : ℕ) → field (user_at (update_user s i g) k) ≡ field (user_at s k)
  unfolding user_at update_user
  field-kept field e = field-set field s.users i (g (user_at s i)) no_user (e (user_at s i))

  pub numbers-kept : (g (user_at s i)).number ≡ (user_at s i).number → user_numbers (update_user s i g) ≡ user_numbers s
  unfolding user_at user_numbers update_user
  numbers-kept e = map-set_same (λ (u : User). u.number) s.users i (g (user_at s i)) no_user e

  -- a number of four bytes replaced
  fits-updated : FittingState s → i < length s.users → (p x : ℕ) → user_fields (g (user_at s i)) ≡ set (user_fields (user_at s i)) p (unsigned 4 x)
      → x < 2 ^ 32 → FittingState (update_user s i g)
  unfolding user_at update_user stored_fits
  fits-updated fit h p x e l =
      fits-users s fit (set s.users i (g (user_at s i)))
      (fits-set user_codec user_limit s.users fit.users i (g (user_at s i))
      (ap (for_all stored_fits) e ∙ all_set stored_fits (user_fields (user_at s i)) p (unsigned 4 x)
      (all_at (λ (u : User). for_all stored_fits (user_fields u)) s.users i no_user (fits_records user_codec user_limit s.users fit.users) h)
      (lt-ltb x (256 ^ 4) l)))

-- the bits of the users' rows after that of slot i at place j was written
pub bits-written : {f : ℕ → ℕ → ℕ} {value : ℕ} → BitWrite f value → (s : State) (i j : ℕ) (g : User → User) (row : User → ℕ) → i < length s.users
    → j < 32 → ((a : User) → row (g a) ≡ f (row a) j)
    → (k m : ℕ) → has_bit (row (user_at (update_user s i g) k)) m ≡ cond (eqb k i && eqb m j) (eqb value 1) (has_bit (row (user_at s k)) m)
unfolding has_bit write_row
bits-written {value} w s i j g row hi hj e k m =
    let old : ℕ = row (user_at s k) in
    ap (λ (x : ℕ). eqb (bit_at x m) 1) (field-updated s i g row hi k ∙ ap (λ (x : ℕ). cond (eqb k i) x old) (e (user_at s k)))
    ∙ ap (λ (x : ℕ). eqb x 1) (bit-written w (λ (l : ℕ). row (user_at s l)) i j hj k m)
    ∙ apply_cond (λ (x : ℕ). eqb x 1) (eqb k i && eqb m j) value (bit_at old m)

-- a row written, on one side or on both
module _ (f : ℕ → ℕ → ℕ) (s : State) (i j : ℕ) where
  pub request-numbers : user_numbers (write_request f s i j) ≡ user_numbers s
  request-numbers = numbers-kept s i (λ (a : User). with_requests a (f a.requests j)) refl

  pub friend-numbers : user_numbers (write_friend f (write_friend f s i j) j i) ≡ user_numbers s
  friend-numbers =
      numbers-kept (write_friend f s i j) j (λ (a : User). with_friends a (f a.friends i)) refl
      ∙ numbers-kept s i (λ (a : User). with_friends a (f a.friends j)) refl

note-written : (s : State) → FittingState s → (i j : ℕ) (note : List ℕ) → i < user_limit → j < user_limit
    → (k m : ℕ) → m < user_limit → note_at (set_note s i j note) k m ≡ cond (eqb k i && eqb m j) note (note_at s k m)
unfolding note_at notes_to set_note
note-written s fit i j note hi hj k m hm =
    let full = fit.full in
    get_or-drop (user_limit * k) (set s.notes (user_limit * i + j) note) m []
    ∙ get_or-updated s.notes (λ x. note) [] (user_limit * i + j) (user_limit * k + m) (omega arith)
    ∙ ap₂ (λ (t : Bool) (x : List ℕ). cond t note x) (same_place (eqb k i) (eqb m j) refl refl) (sym (get_or-drop (user_limit * k) s.notes m []))
  where
    same_place : (p q : Bool) → eqb k i ≡ p → eqb m j ≡ q → eqb (user_limit * k + m) (user_limit * i + j) ≡ (p && q)
    same_place true true e d = let a = eqb-true k i e in let b = eqb-true m j d in eq-eqb (user_limit * k + m) (user_limit * i + j) (omega arith)
    same_place true false e d = let a = eqb-true k i e in ne_eqb (user_limit * k + m) (user_limit * i + j) (λ z. eqb-false m j d (omega arith))
    same_place false q e d = ne_eqb (user_limit * k + m) (user_limit * i + j) (λ z. eqb-false k i e (omega arith))

fits-note : (s : State) → FittingState s → (i j : ℕ) (note : List ℕ) → is_string note_limit note ≡ true → FittingState (set_note s i j note)
unfolding set_note note_fields stored_fits for_all
fits-note s fit i j note e =
    fits-notes s fit (set s.notes (user_limit * i + j) note)
    (fits-set note_codec note_count s.notes fit.notes (user_limit * i + j) note (and_both e refl))
    (length-set s.notes (user_limit * i + j) note ∙ fit.full)

-- ---- a request and a friendship written

module _ {f : ℕ → ℕ → ℕ} {value : ℕ} (w : BitWrite f value) (s : State) (v : ValidState s) where
  limit : length s.users ≤ 32
  limit = fits_count user_codec user_limit s.users v.fits.users

  -- a written row fits in four bytes
  row_lt : (row m : ℕ) → row < 2 ^ length s.users → m < length s.users → f row m < 2 ^ 32
  row_lt row m h l = lt_of_lt_of_le (w.bound (length s.users) row m h l) (pow_mono limit)

  module _ (i j : ℕ) (hi : i < length s.users) (hj : j < length s.users) (own : i ≡ j → value ≡ 0) where
    -- only where the value is 1 may the note be other than empty, and then the two are no friends
    request-written : (note : List ℕ) → is_string note_limit note ≡ true → (eqb value 1 ≡ false → note ≡ [])
        → (eqb value 1 && has_bit (user_at s i).friends j) ≡ false → ValidState (set_note (write_request f s i j) i j note)
    unfolding update_user set_note write_row has_bit user_fields
    request-written note string empty free =
        let n : ℕ = length s.users in
        let b = limit in
        let t : State = write_request f s i j in
        let g : User → User = λ (a : User). with_requests a (f a.requests j) in
        let r = rules_of s v.keeps in
        let friends : friend_rows t ≡ friend_rows s = λ p k. field-kept s i g (λ (u : User). u.friends) (λ a. refl) k p in
        let requests : request_rows t ≡ write_row f i j (request_rows s) = λ p k. field-updated s i g (λ (u : User). u.requests) hi k p in
        let fit : FittingState t =
        fits-updated s i g v.fits hi 3 (f (user_at s i).requests j) refl (row_lt (user_at s i).requests j (r.requests-below i hi) hj)
        in
        record {
          fits = fits-note t fit i j note string;
          keeps = keeps-rules (set_note t i j note)
              (rules_with_rows s r (omega arith) t.users (set_note t i j note).notes (request-numbers f s i j)
              (subst (RowRules n) (sym friends) (record { not_own = r.not_own-friend; below = r.friends-below }))
              (subst (SymmetricRows n) (sym friends) r.symmetric)
              (subst (RowRules n) (sym requests)
              (rows-kept w (request_rows s) i j b hj own (record { not_own = r.not_own-request; below = r.requests-below })))
              (subst (λ (rows : ℕ → ℕ). RequestedNotes rows (note_at (set_note s i j note))) (sym requests) (λ k m hk hm e.
              note-written s v.fits i j note (omega arith) (omega arith) k m hm
              ∙ by_place k m (eqb k i && eqb m j) (r.unrequested_empty k m hk hm)
              (sym (ap (λ (x : ℕ). eqb x 1) (bit-written w (request_rows s) i j (omega arith) k m)) ∙ e)))
              (λ k m hk hm.
              ap₂ (λ (friends requests : ℕ). has_bit friends m && has_bit requests m) (λ p. friends p k) (λ p. requests p k)
              ∙ and_comm (has_bit (user_at s k).friends m) (has_bit (write_row f i j (request_rows s) k) m)
              ∙ apart-written w (request_rows s) (friend_rows s) i j (omega arith) free k m
              (and_comm (has_bit (user_at s k).requests m) (has_bit (user_at s k).friends m) ∙ r.apart k m hk hm)));
        }
      where
        by_place : (k m : ℕ) (t : Bool) → (has_bit (user_at s k).requests m ≡ false → note_at s k m ≡ [])
            → eqb (cond t value (bit_at (user_at s k).requests m)) 1 ≡ false → cond t note (note_at s k m) ≡ []
        by_place k m true old e = empty e
        by_place k m false old e = unfold has_bit in old e

    -- s₁ has row i written, s₂ both; where the value is 1 there is no request between the two
    friends-written : (eqb value 1 && has_bit (user_at s i).requests j) ≡ false → (eqb value 1 && has_bit (user_at s j).requests i) ≡ false
        → ValidState (write_friend f (write_friend f s i j) j i)
    unfolding update_user write_row notes_to note_at user_fields
    friends-written free₁ free₂ =
        let n : ℕ = length s.users in
        let b = limit in
        let s₁ : State = write_friend f s i j in
        let s₂ : State = write_friend f s₁ j i in
        let g₁ : User → User = λ (a : User). with_friends a (f a.friends j) in
        let g₂ : User → User = λ (a : User). with_friends a (f a.friends i) in
        let r = rules_of s v.keeps in
        let there : j < length s₁.users = rw length-set hj in
        let friends₁ : friend_rows s₁ ≡ write_row f i j (friend_rows s) = λ p k. field-updated s i g₁ (λ (u : User). u.friends) hi k p in
        let friends₂ : friend_rows s₂ ≡ write_row f j i (write_row f i j (friend_rows s)) =
        (λ p k. field-updated s₁ j g₂ (λ (u : User). u.friends) there k p) ∙ ap (write_row f j i) friends₁
        in
        let requests : request_rows s₂ ≡ request_rows s = λ p k.
        (field-kept s₁ j g₂ (λ (u : User). u.requests) (λ a. refl) k ∙ field-kept s i g₁ (λ (u : User). u.requests) (λ a. refl) k) p
        in
        let rules₁ : RowRules n (write_row f i j (friend_rows s)) =
        rows-kept w (friend_rows s) i j b hj own (record { not_own = r.not_own-friend; below = r.friends-below })
        in
        let below₁ : (user_at s₁ j).friends < 2 ^ n = subst (λ (rows : ℕ → ℕ). rows j < 2 ^ n) (sym friends₁) (rules₁.below j hj) in
        let fit₁ : FittingState s₁ =
        fits-updated s i g₁ v.fits hi 2 (f (user_at s i).friends j) refl (row_lt (user_at s i).friends j (r.friends-below i hi) hj)
        in
        record {
          fits = fits-updated s₁ j g₂ fit₁ there 2 (f (user_at s₁ j).friends i) refl (row_lt (user_at s₁ j).friends i below₁ hi);
          keeps = keeps-rules s₂
              (rules_with_rows s r (omega arith) s₂.users s.notes (friend-numbers f s i j)
              (subst (RowRules n) (sym friends₂) (rows-kept w (write_row f i j (friend_rows s)) j i b hi (λ e. own (sym e)) rules₁))
              (subst (SymmetricRows n) (sym friends₂) (symmetric-kept w (friend_rows s) i j b hi hj r.symmetric))
              (subst (RowRules n) (sym requests) (record { not_own = r.not_own-request; below = r.requests-below }))
              (subst (λ (rows : ℕ → ℕ). RequestedNotes rows (note_at s)) (sym requests) r.unrequested_empty)
              (λ k m hk hm.
              ap₂ (λ (friends requests : ℕ). has_bit friends m && has_bit requests m) (λ p. friends₂ p k) (λ p. requests p k)
              ∙ apart-written w (write_row f i j (friend_rows s)) (request_rows s) j i (omega arith) free₂ k m
              (apart-written w (friend_rows s) (request_rows s) i j (omega arith) free₁ k m (r.apart k m hk hm))));
        }

-- ---- the parts of changes, over slots

module _ (s : State) (v : ValidState s) (i j : ℕ) (hi : i < length s.users) (hj : j < length s.users) where
  pub request-kept : i ≢ j → has_bit (user_at s i).friends j ≡ false → (note : List ℕ) → is_string note_limit note ≡ true → ValidState (add_request s i j note)
  unfolding add_request
  request-kept differ free note e = request-written set_writes s v i j hi hj (λ q. absurd (differ q)) note e (λ q. absurd (false≢true (sym q))) free

  pub request-removed-kept : ValidState (remove_request s i j)
  unfolding remove_request is_string
  request-removed-kept = request-written clear_writes s v i j hi hj (λ q. refl) [] refl (λ q. refl) refl

  pub friends-kept : i ≢ j → has_bit (user_at s i).requests j ≡ false → has_bit (user_at s j).requests i ≡ false → ValidState (add_friends s i j)
  unfolding add_friends
  friends-kept differ free₁ free₂ = friends-written set_writes s v i j hi hj (λ q. absurd (differ q)) free₁ free₂

  pub friends-removed-kept : ValidState (remove_friends s i j)
  unfolding remove_friends
  friends-removed-kept = friends-written clear_writes s v i j hi hj (λ q. refl) refl refl

-- ---- the requests of two slots to each other removed: neither bit is left

pub requests-removed-numbers : (s : State) (i j : ℕ) → user_numbers (remove_requests s i j) ≡ user_numbers s
unfolding remove_requests remove_request set_note user_numbers
requests-removed-numbers s i j = request-numbers clear_bit (remove_request s i j) j i ∙ request-numbers clear_bit s i j

pub request-removed-length : (s : State) (i j : ℕ) → length (remove_request s i j).users ≡ length s.users
unfolding remove_request set_note update_user
request-removed-length s i j = length-set s.users i (with_requests (user_at s i) (clear_bit (user_at s i).requests j))

pub requests-removed-length : (s : State) (i j : ℕ) → length (remove_requests s i j).users ≡ length s.users
unfolding remove_requests
requests-removed-length s i j = request-removed-length (remove_request s i j) j i ∙ request-removed-length s i j

module _ (s : State) (valid : ValidState s) (i j : ℕ) (hi : i < length s.users) (hj : j < length s.users) where
  abbrev removed : State
  removed = remove_request s i j

  -- the bits that are left when one is removed
  bits_left : (k m : ℕ) → has_bit (user_at removed k).requests m ≡ cond (eqb k i && eqb m j) false (has_bit (user_at s k).requests m)
  unfolding remove_request set_note user_at
  bits_left k m =
      let n = fits_count user_codec user_limit s.users valid.fits.users in
      bits-written clear_writes s i j (λ (a : User). with_requests a (clear_bit a.requests j)) (λ a. a.requests) hi (omega arith) (λ a. refl) k m

  bit-removed : has_bit (user_at removed i).requests j ≡ false
  bit-removed = bits_left i j ∙ ap (λ (t : Bool). cond t false (has_bit (user_at s i).requests j)) (and_both (eq-eqb i i refl) (eq-eqb j j refl))

  -- what is not there is not put in
  bit_absent : (k m : ℕ) → has_bit (user_at s k).requests m ≡ false → has_bit (user_at removed k).requests m ≡ false
  bit_absent k m e = bits_left k m ∙ ap (cond (eqb k i && eqb m j) false) e ∙ cond_same (eqb k i && eqb m j) false

module _ (s : State) (valid : ValidState s) (i j : ℕ) (hi : i < length s.users) (hj : j < length s.users) where
  -- the first of the two removed
  abbrev once : State
  once = remove_request s i j

  once-valid : ValidState once
  once-valid = request-removed-kept s valid i j hi hj

  there : (k : ℕ) → k < length s.users → k < length once.users
  there k h = rw (request-removed-length s i j) h

  pub requests-removed-kept : ValidState (remove_requests s i j)
  unfolding remove_requests
  requests-removed-kept = request-removed-kept once once-valid j i (there j hj) (there i hi)

  both-removed : (has_bit (user_at (remove_requests s i j) i).requests j ≡ false) × (has_bit (user_at (remove_requests s i j) j).requests i ≡ false)
  unfolding remove_requests
  both-removed = (
    bit_absent once once-valid j i (there j hj) (there i hi) i j (bit-removed s valid i j hi hj),
    bit-removed once once-valid j i (there j hj) (there i hi),
  )

-- ---- the kinds: rows 0 and 2 say that u and v are registered

module _ (s : State) (u p v : ℕ) where
  pub friend-request-valid : (note : List ℕ) → ValidState s → is_string note_limit note ≡ true
      → first_cause (change_refusals s (c_friend_req u p v note)) ≡ none → ValidState (apply_change s (c_friend_req u p v note))
  unfolding change_refusals user_rows after_login apply_change are_friends user_numbered has_bit
  friend-request-valid note valid string e =
      let passes = none_applies (change_refusals s (c_friend_req u p v note)) e in
      let ru = not-false (is_registered s u) (passes 0) in
      let rv = not-false (is_registered s v) (passes 2) in
      let hu = slot_below s u ru in
      let hv = slot_below s v rv in
      request-kept s valid (user_slot s v) (user_slot s u) hv hu (λ q. eqb-false u v (passes 3) (slot_injective s u v ru rv (sym q)))
      (ap (λ (x : ℕ). eqb x 1) ((rules_of s valid.keeps).symmetric (user_slot s v) (user_slot s u) hv hu) ∙ passes 4) note string

  -- a user has no request of its own, so the slots differ
  pub friend-valid : ValidState s → first_cause (change_refusals s (c_friend u p v)) ≡ none → ValidState (apply_change s (c_friend u p v))
  unfolding change_refusals user_rows after_login has_requested user_numbered apply_change accept_request
  friend-valid valid e =
      let passes = none_applies (change_refusals s (c_friend u p v)) e in
      let i : ℕ = user_slot s u in
      let j : ℕ = user_slot s v in
      let hi = slot_below s u (not-false (is_registered s u) (passes 0)) in
      let hj = slot_below s v (not-false (is_registered s v) (passes 2)) in
      let requested = not-false (has_requested s v u) (passes 3) in
      let not_own = (rules_of s valid.keeps).not_own-request i hi in
      let none_left = both-removed s valid i j hi hj in
      let same = requests-removed-length s i j in
      friends-kept (remove_requests s i j) (requests-removed-kept s valid i j hi hj) i j (rw same hi) (rw same hj)
      (λ q. false≢true (sym not_own ∙ ap (has_bit (user_at s i).requests) q ∙ requested)) none_left.0 none_left.1

  pub unfriend_valid : ValidState s → first_cause (change_refusals s (d_friend u p v)) ≡ none → ValidState (apply_change s (d_friend u p v))
  unfolding change_refusals user_rows after_login apply_change
  unfriend_valid valid e =
      let passes = none_applies (change_refusals s (d_friend u p v)) e in
      friends-removed-kept s valid (user_slot s u) (user_slot s v)
      (slot_below s u (not-false (is_registered s u) (passes 0))) (slot_below s v (not-false (is_registered s v) (passes 2)))
