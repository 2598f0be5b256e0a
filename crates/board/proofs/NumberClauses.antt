-- Laws of the clauses about numbers: the filter that spares a search, distinct numbers found one after the other, and those of two tables.
use Prim.Native.Nat.{ℕ, suc, ◌+◌, ◌%◌, ◌^◌, ◌<◌}
use native.Mathlib.Numerals.{add-one}
use native.Mathlib.Omega.{arith}
use mathlib.Core.Path.{◌≡◌, refl, sym, ap, ap₂, ◌∙◌}
use mathlib.Core.List.{List, [], ◌∷◌, ◌++◌, map, map-append}
use mathlib.Core.Bool.{Bool, true, false, not, ◌&&◌, ◌||◌, and-true, true≢false}
use lib.ListN.{length, take, drop, get_or, take-append-drop}
use lib.Seq.{drop-cons}
use lib.Dec.{eqb, ltb}
use Rattle.std.specs.List.{list_all}
use Rattle.std.proofs.lemmas.List.{take_more}
use lib.Bits.{bit_and, bit_or, and_step, or_comm}
use borrow.Author.Tests.{eqb-true, eqb-false, eq-eqb, ne_eqb, not-true}
use borrow.Table.Steps.{cases}
use Rattle.layout.specs.Search.{index_of}
use Rattle.layout.specs.Bits.{bit_at, has_bit}
use Rattle.layout.specs.Tables.{record_number}
use Rattle.layout.proofs.BooleanLaws.{and_both, refuted}
use Rattle.layout.proofs.BitLaws.{bit_lt, bit_power, bit_or_lem}
use Rattle.model.specs.Lists.{for_all, all_true, all_below, contains, distinct}
use Rattle.model.specs.State.{State}
use Rattle.model.specs.Board.{decode}
use Rattle.model.specs.Soundness.{numbers_not_zero, numbers_distinct, pending_not_registered}
use Rattle.model.proofs.ListLaws.{all_append, all_map, all_weaken, all_contained, contains_cons, distinct_add, repeated, zero_absent}
use Rattle.board.specs.declared.counted.CountedBoard.{CountedBoard}
use Rattle.board.specs.BoardTests.{first_place, second_place, filter_covers}
use Rattle.board.proofs.LoopLaws.{each_record, all_elements}
use Rattle.board.proofs.RecordPlaces.{user-numbers, post-numbers, pending-numbers}

-- ---- a filter of the numbers of a list

module _ (place : ℕ → ℕ) (filter : ℕ) (xs : List ℕ) (x : ℕ) (e : filter_covers place filter xs ≡ true) where
  -- a number without its bit is not in the list
  not_covered : bit_at filter (place x) ≡ 0 → contains x xs ≡ false
  unfolding filter_covers has_bit
  not_covered z =
      refuted (contains x xs)
      (λ c. true≢false (sym (all_contained (λ (y : ℕ). has_bit filter (place y)) xs x e c) ∙ ap (λ (k : ℕ). eqb k 1) z))

  -- a number added to the list and its bit to the filter
  covers_add : filter_covers place (bit_or filter (2 ^ place x)) (xs ++ (x ∷ [])) ≡ true
  unfolding filter_covers has_bit for_all
  covers_add =
      let p : ℕ → Bool = λ y. has_bit (bit_or filter (2 ^ place x)) (place y) in
      all_append p xs (x ∷ [])
      ∙ and_both (all_weaken (λ (y : ℕ). has_bit filter (place y)) p (λ y h. or_keeps filter (2 ^ place x) (place y) h) xs e)
      (and_both
      (ap (λ (r : ℕ). has_bit r (place x)) (or_comm filter (2 ^ place x))
      ∙ or_keeps (2 ^ place x) filter (place x) (eq-eqb (bit_at (2 ^ place x) (place x)) 1 (bit_power (place x))))
      refl)
    where
      or_keeps : (r s j : ℕ) → has_bit r j ≡ true → has_bit (bit_or r s) j ≡ true
      or_keeps r s j h =
          let q = eqb-true (bit_at r j) 1 h in
          let l = bit_lt s j in
          let m = bit_or_lem r s j in
          eq-eqb (bit_at (bit_or r s) j) 1 (omega arith)

-- a number that lacks one of its bits in two filters, and the test for it
abbrev pub has_both : ℕ → ℕ → ℕ → Bool
has_both first second x = has_bit first (first_place x) && has_bit second (second_place x)

pub not_in_both : (first second : ℕ) (xs : List ℕ) (x : ℕ)
    → filter_covers first_place first xs ≡ true → filter_covers second_place second xs ≡ true
    → not (has_both first second x) ≡ true → contains x xs ≡ false
unfolding has_bit
not_in_both first second xs x e f z =
    cases (eqb (bit_at first (first_place x)) 1)
    (λ t. let l = bit_lt second (second_place x) in
    let n = eqb-false (bit_at second (second_place x)) 1 (not-true _ (ap (λ (s : Bool). not (s && eqb (bit_at second (second_place x)) 1)) (sym t) ∙ z)) in
    not_covered second_place second xs x f (omega arith))
    (λ t. let l = bit_lt first (first_place x) in
    let n = eqb-false (bit_at first (first_place x)) 1 t in not_covered first_place first xs x e (omega arith))

pub lacks_either : (a b : ℕ) → eqb (bit_and a b % 2) 0 ≡ not (eqb (a % 2) 1 && eqb (b % 2) 1)
lacks_either a b =
    let s = and_step a b in
    cases (eqb (a % 2) 1)
    (λ p. cases (eqb (b % 2) 1)
    (λ q. let u = eqb-true (a % 2) 1 p in let v = eqb-true (b % 2) 1 q in
    ne_eqb (bit_and a b % 2) 0 (omega arith) ∙ sym (ap not (ap₂ ◌&&◌ p q)))
    (λ q. let v = eqb-false (b % 2) 1 q in eq-eqb (bit_and a b % 2) 0 (omega arith) ∙ sym (ap not (ap₂ ◌&&◌ p q))))
    (λ p. let u = eqb-false (a % 2) 1 p in
    eq-eqb (bit_and a b % 2) 0 (omega arith) ∙ sym (ap (λ (t : Bool). not (t && eqb (b % 2) 1)) p))

-- ---- a search

-- a record has another number than x
abbrev pub other_number : ℕ → List ℕ → Bool
other_number x r = not (eqb (record_number r) x)

not_or : (s t : Bool) → not (s || t) ≡ (not s && not t)
not_or true t = refl
not_or false t = refl

-- a number is in no record exactly if each has another one
absent_all : (x : ℕ) (rs : List (List ℕ)) → not (contains x (map record_number rs)) ≡ for_all (other_number x) rs
unfolding contains index_of for_all
absent_all x [] = refl
absent_all x (r ∷ rs) =
    ap not (contains_cons x (record_number r) (map record_number rs))
    ∙ not_or (eqb (record_number r) x) (contains x (map record_number rs))
    ∙ ap (λ (t : Bool). other_number x r && t) (absent_all x rs)

pub absent-each : (x : ℕ) (rs : List (List ℕ)) → not (contains x (map record_number rs)) ≡ all_below (length rs) (λ (i : ℕ). other_number x (get_or rs i []))
absent-each x rs = absent_all x rs ∙ each_record (other_number x) rs

-- the loop that gathers whether there was x, at record i
pub gathers_next : (x : ℕ) (rs : List (List ℕ)) (i : ℕ) (found : Bool) {number : ℕ} → number ≡ record_number (get_or rs i [])
    → not found ≡ all_below i (λ (j : ℕ). other_number x (get_or rs j []))
    → not (found || eqb number x) ≡ all_below (i + 1) (λ (j : ℕ). other_number x (get_or rs j []))
unfolding all_below
gathers_next x rs i found {number} e h =
    not_or found (eqb number x) ∙ ap₂ ◌&&◌ h (ap (λ (n : ℕ). not (eqb n x)) e)
    ∙ ap (λ (k : ℕ). all_below k (λ (j : ℕ). other_number x (get_or rs j []))) (sym (add-one i))

-- ---- distinct numbers

-- the loop at record i, which has number x
module _ (rs : List (List ℕ)) (i : ℕ) (h : i < length rs) {x : ℕ} (e : x ≡ record_number (get_or rs i [])) where
  numbers-next : map record_number (take (i + 1) rs) ≡ map record_number (take i rs) ++ (x ∷ [])
  numbers-next =
      ap (map record_number) (take_more rs i [] h) ∙ map-append record_number (take i rs) (get_or rs i [] ∷ [])
      ∙ ap (λ (y : ℕ). map record_number (take i rs) ++ (y ∷ [])) (sym e)

  pub distinct-next : distinct (map record_number (take i rs)) ≡ true → contains x (map record_number (take i rs)) ≡ false
      → distinct (map record_number (take (i + 1) rs)) ≡ true
  distinct-next d c = ap distinct numbers-next ∙ distinct_add (map record_number (take i rs)) x d c

  pub covers_next : (place : ℕ → ℕ) (filter : ℕ) {added : ℕ} → added ≡ bit_or filter (2 ^ place x)
      → filter_covers place filter (map record_number (take i rs)) ≡ true → filter_covers place added (map record_number (take (i + 1) rs)) ≡ true
  covers_next place filter a f =
      ap₂ (filter_covers place) a numbers-next ∙ covers_add place filter (map record_number (take i rs)) x f

  pub distinct_stops : contains x (map record_number (take i rs)) ≡ true → false ≡ distinct (map record_number rs)
  distinct_stops c =
      let before : List ℕ = map record_number (take i rs) in
      let behind : List ℕ = map record_number (drop (suc i) rs) in
      let whole : rs ≡ take i rs ++ (get_or rs i [] ∷ drop (suc i) rs) = sym (take-append-drop i rs) ∙ ap (λ (l : List (List ℕ)). take i rs ++ l) (drop-cons rs i [] h) in
      let numbers : map record_number rs ≡ before ++ (x ∷ behind) =
      ap (map record_number) whole ∙ map-append record_number (take i rs) (get_or rs i [] ∷ drop (suc i) rs)
      ∙ ap (λ (y : ℕ). before ++ (y ∷ behind)) (sym e) in
      sym (ap distinct numbers ∙ repeated before x behind c)

-- ---- the clauses, by the used records

module _ (board : CountedBoard) where
  abbrev state : State
  state = decode board.bytes.now

  -- the numbers of each table
  abbrev users : List ℕ
  users = map record_number board.users.now

  abbrev posts : List ℕ
  posts = map record_number board.posts.now

  abbrev pending : List ℕ
  pending = map record_number board.pending.now

  pub nonzero-tables : numbers_not_zero state ≡ (not (contains 0 users) && (not (contains 0 posts) && not (contains 0 pending)))
  unfolding numbers_not_zero all_true for_all
  nonzero-tables =
      ap₂ ◌&&◌ (nonzero (user-numbers board)) (ap₂ ◌&&◌ (nonzero (post-numbers board)) (and-true _ ∙ nonzero (pending-numbers board)))
    where
      nonzero : {xs ys : List ℕ} → xs ≡ ys → for_all (ltb 0) ys ≡ not (contains 0 xs)
      nonzero {xs} e = ap (for_all (ltb 0)) (sym e) ∙ sym (zero_absent xs)

  pub distinct-tables : numbers_distinct state ≡ (distinct users && (distinct posts && distinct pending))
  unfolding numbers_distinct all_true for_all
  distinct-tables =
      ap₂ ◌&&◌ (ap distinct (sym (user-numbers board)))
      (ap₂ ◌&&◌ (ap distinct (sym (post-numbers board))) (and-true _ ∙ ap distinct (sym (pending-numbers board))))

  -- the number of a pending record is that of no user
  pub unregistered : pending_not_registered state ≡ list_all (λ (r : List ℕ). not (contains (record_number r) users)) board.pending.now
  unfolding pending_not_registered
  unregistered =
      ap₂ (λ (xs ys : List ℕ). for_all (λ (x : ℕ). not (contains x xs)) ys) (sym (user-numbers board)) (sym (pending-numbers board))
      ∙ all_map (λ (x : ℕ). not (contains x users)) record_number board.pending.now
      ∙ sym (all_elements (λ (r : List ℕ). not (contains (record_number r) users)) board.pending.now)
