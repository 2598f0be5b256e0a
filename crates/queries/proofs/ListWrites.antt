-- Lists in answers: entries of one width, written one behind the other behind their count.
use Prim.Native.Nat.{ℕ, ◌+◌, ◌-◌, ◌*◌, ◌≤◌, ◌<◌}
use native.Mathlib.Numerals.{add-one}
use native.Mathlib.Omega.{arith}
use mathlib.Core.Path.{◌≡◌, refl, sym, ap, ap₂, ◌∙◌}
use mathlib.Core.List.{List, [], ◌∷◌, ◌++◌, map, map-append, flatten, append-nil}
use mathlib.Core.Bool.{true, false}
use lib.ListN.{length, take, length-append, length-map}
use lib.Seq.{length-take-le, take_all, take-suc}
use Rattle.layout.specs.Bytes.{patch, write_at, bytes_written, put_bytes}
use Rattle.layout.specs.Numbers.{to_le_bytes}
use Rattle.layout.specs.Bits.{has_bit, set_places}
use Rattle.layout.proofs.ByteLaws.{length-patch, length-write, write-within, patch_nil, patch_join}
use Rattle.layout.proofs.BitLaws.{places_le, places_set, places_unset}
use Rattle.layout.proofs.ConcatenationLaws.{flatten_append}
use Rattle.layout.proofs.NumberLaws.{length_to}
use Rattle.layout.proofs.WrittenLaws.{bytes-put, bytes-put-within, put-buffer, put-behind}
use Rattle.reader.specs.Fields.{number_in}
use Rattle.model.specs.State.{Post, State, user_limit, post_limit, no_post, post_at}
use Rattle.model.specs.Lookups.{owner_of}
use Rattle.model.specs.Answers.{counted_list, staff_list, post_entry}
use Rattle.model.specs.Step.{answer_limit}
use Rattle.model.proofs.AnswerLaws.{length-entries, length-post}
use Rattle.queries.specs.QueryResults.{head_size}

-- before the first entry
pub no_entries : {A : Type 0} (entry : A → List ℕ) (o : List ℕ) (from : ℕ) → o ≡ patch o from (flatten (map entry []))
unfolding flatten
no_entries entry o from = sym (patch_nil o from)

module _ {A : Type 0} (entry : A → List ℕ) (width : ℕ) (same : (x : A) → length (entry x) ≡ width) where
  module _ (o : List ℕ) (from : ℕ) (xs : List A) {o₁ : List ℕ} (e : o₁ ≡ patch o from (flatten (map entry xs))) where
    entries_keep : from + length xs * width ≤ length o → length o₁ ≡ length o
    entries_keep h = let l = length-entries entry width same xs in ap length e ∙ length-patch o from (flatten (map entry xs)) (omega arith)

    -- one more entry behind those of xs
    entry_added : (x : A) {at : ℕ} → at ≡ from + length xs * width → at + width ≤ length o
        → patch o₁ at (entry x) ≡ patch o from (flatten (map entry (xs ++ (x ∷ []))))
    unfolding flatten
    entry_added x {at} p h =
        let l = length-entries entry width same xs in
        let s = same x in
        let q : at ≡ from + length (flatten (map entry xs)) = omega arith in
        ap₂ (λ (b : List ℕ) (i : ℕ). patch b i (entry x)) e q
        ∙ patch_join o from (flatten (map entry xs)) (entry x) (omega arith)
        ∙ ap (patch o from)
        (sym (ap flatten (map-append entry xs (x ∷ [])) ∙ flatten_append (map entry xs) (entry x ∷ [])
        ∙ ap (λ (t : List ℕ). flatten (map entry xs) ++ t) (append-nil (entry x))))

  -- the count and all entries
  list_written : (o : List ℕ) (xs : List A) {n r : ℕ} {o₁ o₂ : List ℕ} → n ≡ length xs → o₁ ≡ write_at o head_size (to_le_bytes 2 n)
      → o₂ ≡ patch o₁ (head_size + 2) (flatten (map entry xs)) → r ≡ 2 + length xs * width → head_size + r ≤ length o
      → bytes_written r o₂ ≡ put_bytes o head_size (counted_list entry xs)
  unfolding counted_list
  list_written o xs {n} {r} {o₁} {o₂} k e f q h =
      let l = length-entries entry width same xs in
      let m = length_to 2 (length xs) in
      ap (λ (i : ℕ). bytes_written i o₂) (q ∙ ap (λ (i : ℕ). 2 + i) (sym l))
      ∙ put-behind o head_size (to_le_bytes 2 (length xs)) (flatten (map entry xs)) (omega arith)
      (bytes-put-within o head_size (to_le_bytes 2 (length xs)) (sym m) (omega arith) (e ∙ ap (λ (i : ℕ). write_at o head_size (to_le_bytes 2 i)) k))
      refl
      (bytes-put o₁ (head_size + 2) (flatten (map entry xs)) refl f)

-- ---- the numbers of the records of a table whose bits are set in a row

module _ (b : List ℕ) (base size row : ℕ) where
  abbrev number_at : ℕ → ℕ
  number_at i = number_in b (base + i * size) 4

  -- those below place j
  unfoldable pub numbers_below : ℕ → List ℕ
  numbers_below j = map number_at (set_places row j)

  -- they stand in the buffer behind the place of their count, and `at` is the place behind them
  pub record NumbersWritten (o out : List ℕ) (at j : ℕ) : Type 0 where
    pub place : at ≡ head_size + 2 + length (numbers_below j) * 4
    pub entries : out ≡ patch o (head_size + 2) (flatten (map (to_le_bytes 4) (numbers_below j)))

  below-count : (j : ℕ) → length (numbers_below j) ≡ length (set_places row j)
  unfolding numbers_below
  below-count j = length-map (set_places row j) number_at

  pub below_le : (j : ℕ) → length (numbers_below j) ≤ j
  below_le j = let e = below-count j in let h = places_le row j in omega arith

  below_set : (j : ℕ) → has_bit row j ≡ true → numbers_below (j + 1) ≡ numbers_below j ++ (number_at j ∷ [])
  unfolding numbers_below
  below_set j t = ap (map number_at) (places_set row j t) ∙ map-append number_at (set_places row j) (j ∷ [])

  below_unset : (j : ℕ) → has_bit row j ≡ false → numbers_below (j + 1) ≡ numbers_below j
  unfolding numbers_below
  below_unset j t = ap (map number_at) (places_unset row j t)

  pub numbers_none : (o : List ℕ) → NumbersWritten o o (head_size + 2) 0
  unfolding numbers_below set_places
  numbers_none o = record { place = refl; entries = no_entries (to_le_bytes 4) o (head_size + 2) }

module _ {b : List ℕ} {base size row : ℕ} {o out : List ℕ} {at j : ℕ} (w : NumbersWritten b base size row o out at j) where
  numbers_keep : answer_limit ≤ length o → j ≤ user_limit → length out ≡ length o
  numbers_keep h l =
      let k = below_le b base size row j in
      entries_keep (to_le_bytes 4) 4 (length_to 4) o (head_size + 2) (numbers_below b base size row j) w.entries (omega arith)

  pub number_set : {n at' : ℕ} {out' : List ℕ} → answer_limit ≤ length o → j < user_limit → has_bit row j ≡ true
      → n ≡ number_in b (base + j * size) 4 → out' ≡ write_at out at (to_le_bytes 4 n) → at' ≡ at + 4
      → NumbersWritten b base size row o out' at' (j + 1)
  number_set {n} h l t v e q =
      let xs : List ℕ = numbers_below b base size row j in
      let x : ℕ = number_in b (base + j * size) 4 in
      let p = w.place in
      let k = below_le b base size row j in
      let s = numbers_keep h (omega arith) in
      let more = below_set b base size row j t in
      let c = ap length more ∙ length-append xs (x ∷ []) in
      record {
        place = omega arith;
        entries = e ∙ write-within out at (to_le_bytes 4 n) (length_to 4 n) (omega arith) ∙ ap (λ (i : ℕ). patch out at (to_le_bytes 4 i)) v
            ∙ entry_added (to_le_bytes 4) 4 (length_to 4) o (head_size + 2) xs w.entries x p (omega arith)
            ∙ ap (λ (ys : List ℕ). patch o (head_size + 2) (flatten (map (to_le_bytes 4) ys))) (sym more);
      }

  pub number_unset : {at' : ℕ} {out' : List ℕ} → has_bit row j ≡ false → out' ≡ out → at' ≡ at
      → NumbersWritten b base size row o out' at' (j + 1)
  number_unset t e q =
      let same = sym (below_unset b base size row j t) in
      record {
        place = q ∙ w.place ∙ ap (λ (ys : List ℕ). head_size + 2 + length ys * 4) same;
        entries = e ∙ w.entries ∙ ap (λ (ys : List ℕ). patch o (head_size + 2) (flatten (map (to_le_bytes 4) ys))) same;
      }

pub numbers_all : {b : List ℕ} {base size row : ℕ} (o : List ℕ) {n at j : ℕ} {o₁ o₂ : List ℕ} → answer_limit ≤ length o
    → n ≡ length (set_places row user_limit) → o₁ ≡ write_at o head_size (to_le_bytes 2 n) → j ≡ user_limit → NumbersWritten b base size row o₁ o₂ at j
    → bytes_written (at - head_size) o₂ ≡ put_bytes o head_size (staff_list (map (λ (i : ℕ). number_in b (base + i * size) 4) (set_places row user_limit)))
unfolding numbers_below staff_list
numbers_all {b} {base} {size} {row} o {at = at} {j = j} {o₁ = o₁} h v e z w =
    let xs : List ℕ = numbers_below b base size row user_limit in
    let k = below_le b base size row user_limit in
    let p = w.place ∙ ap (λ (i : ℕ). head_size + 2 + length (numbers_below b base size row i) * 4) z in
    let q : at - head_size ≡ 2 + length xs * 4 = omega arith in
    list_written (to_le_bytes 4) 4 (length_to 4) o xs (v ∙ sym (below-count b base size row user_limit)) e
    (w.entries ∙ ap (λ (i : ℕ). patch o₁ (head_size + 2) (flatten (map (to_le_bytes 4) (numbers_below b base size row i)))) z) q (omega arith)

-- ---- the posts, each with its owner's number

module _ (s : State) (o : List ℕ) (i : ℕ) {out : List ℕ} (e : out ≡ patch o (head_size + 2) (flatten (map (post_entry s) (take i s.posts))))
    (h : answer_limit ≤ length o) (m : length s.posts ≤ post_limit) where
  posts_keep : i ≤ length s.posts → length out ≡ length o
  posts_keep l =
      let k = length-take-le i s.posts l in
      entries_keep (post_entry s) 8 (length-post s) o (head_size + 2) (take i s.posts) e (omega arith)

  pub post_added_lem : {n v : ℕ} {out₁ out₂ : List ℕ} → i < length s.posts → n ≡ (post_at s i).number → v ≡ (owner_of s (post_at s i)).number
      → out₁ ≡ write_at out (head_size + 2 + i * 8) (to_le_bytes 4 n) → out₂ ≡ write_at out₁ (head_size + 2 + i * 8 + 4) (to_le_bytes 4 v)
      → out₂ ≡ patch o (head_size + 2) (flatten (map (post_entry s) (take (i + 1) s.posts)))
  unfolding post_entry post_at
  post_added_lem {n} {v} {out₁} l en ev e₁ e₂ =
      let at : ℕ = head_size + 2 + i * 8 in
      let x : List ℕ = to_le_bytes 4 n in
      let y : List ℕ = to_le_bytes 4 v in
      let lx = length_to 4 n in
      let ly = length_to 4 v in
      let k = length-take-le i s.posts (omega arith) in
      let keep = posts_keep (omega arith) in
      let keep₁ : length out₁ ≡ length out = ap length e₁ ∙ length-write out at x in
      let more : take (i + 1) s.posts ≡ take i s.posts ++ (post_at s i ∷ []) =
      ap (λ (j : ℕ). take j s.posts) (add-one i) ∙ take-suc s.posts i no_post l
      in
      put-buffer out at (x ++ y)
      (put-behind out at x y (omega arith) (bytes-put-within out at x (sym lx) (omega arith) e₁) refl
      (bytes-put-within out₁ (at + 4) y (sym ly) (omega arith) e₂))
      ∙ ap₂ (λ (j k : ℕ). patch out at (to_le_bytes 4 j ++ to_le_bytes 4 k)) en ev
      ∙ entry_added (post_entry s) 8 (length-post s) o (head_size + 2) (take i s.posts) e (post_at s i) (omega arith) (omega arith)
      ∙ ap (λ (ps : List Post). patch o (head_size + 2) (flatten (map (post_entry s) ps))) (sym more)

pub posts_all : (s : State) (o : List ℕ) (i : ℕ) {n : ℕ} {o₁ o₂ : List ℕ} → answer_limit ≤ length o → length s.posts ≤ post_limit
    → n ≡ length s.posts → o₁ ≡ write_at o head_size (to_le_bytes 2 n) → length s.posts ≤ i
    → o₂ ≡ patch o₁ (head_size + 2) (flatten (map (post_entry s) (take i s.posts)))
    → bytes_written (2 + n * 8) o₂ ≡ put_bytes o head_size (counted_list (post_entry s) s.posts)
posts_all s o i {n} {o₁} h m v e l f =
    let q : 2 + n * 8 ≡ 2 + length s.posts * 8 = omega arith in
    list_written (post_entry s) 8 (length-post s) o s.posts v e
    (f ∙ ap (λ (ps : List Post). patch o₁ (head_size + 2) (flatten (map (post_entry s) ps))) (take_all i s.posts l)) q (omega arith)
