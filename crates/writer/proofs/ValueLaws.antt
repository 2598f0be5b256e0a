-- Laws of one value, whose words stand first: whether they are there and its field can hold it, how many bytes it has, and which.
use Prim.Native.Nat.{ℕ, ◌+◌, ◌≤◌, ◌<◌}
use native.Mathlib.Omega.{arith}
use mathlib.Core.Path.{◌≡◌, refl, sym, ap, ◌∙◌}
use mathlib.Core.List.{List}
use mathlib.Core.Bool.{Bool, true, false, ◌&&◌, cond, and-false}
use lib.ListN.{length, get_or}
use lib.Dec.{leb}
use borrow.Author.Tests.{le-leb, lt-leb, leb-true}
use Rattle.std.specs.Prelude.{Some, None}
use Rattle.std.specs.Bool.{then_some}
use Rattle.layout.specs.Bytes.{bytes_at, patch}
use Rattle.layout.specs.StringFields.{is_string, string_bytes}
use Rattle.layout.proofs.BooleanLaws.{and_left, and_right, and_both, refuted, test_fails, test_holds}
use Rattle.layout.proofs.ByteLaws.{length-bytes_at}
use Rattle.layout.proofs.NumberLaws.{length_to}
use Rattle.layout.proofs.StringFieldLaws.{length-string_bytes}
use Rattle.reader.specs.Fields.{FieldType, FieldValue, uint, string, string_value, out_of_body, value_fits, value_bytes}
use Rattle.reader.specs.Messages.{span_value}
use Rattle.reader.specs.Spans.{SpanWithin}
use Rattle.reader.specs.declared.Span.{Span}
use Rattle.reader.proofs.FieldLaws.{was_true, was_false}
use Rattle.reader.proofs.MessageTheorems.{span_fits, span_names}
use Rattle.writer.specs.Table.{words_fit, words_size}
use Rattle.writer.specs.Words.{word_count, word_value}
use Rattle.writer.proofs.SizeLaws.{most_bytes, value-most}

-- ---- whether a field can hold the value

module _ (lent : List ℕ) (f : FieldType) (ws : List ℕ) where
  module _ (fit : words_fit lent f ws ≡ true) where
    pub fit_words : word_count f ≤ length ws
    unfolding words_fit
    fit_words = leb-true (word_count f) (length ws) (and_left (leb (word_count f) (length ws)) (value_fits f (word_value lent f ws)) fit)

    fit-value : value_fits f (word_value lent f ws) ≡ true
    unfolding words_fit
    fit-value = and_right (leb (word_count f) (length ws)) (value_fits f (word_value lent f ws)) fit

    pub fit-size : Some (words_size f ws) ≡ then_some (words_fit lent f ws) (words_size f ws)
    fit-size = rw fit refl

    pub words_there : {n : ℕ} → n ≡ word_count f → n ≤ length ws
    words_there e = omega (arith, fit_words)

  pub unfit-size : words_fit lent f ws ≡ false → None ≡ then_some (words_fit lent f ws) (words_size f ws)
  unfit-size t = rw t refl

  -- and back, from the size that was found
  module _ {n : ℕ} (e : Some n ≡ then_some (words_fit lent f ws) (words_size f ws)) where
    pub found_fits : words_fit lent f ws ≡ true
    found_fits = (was_true (words_fit lent f ws) (words_size f ws) e).0

    pub found_size : n ≡ words_size f ws
    found_size = (was_true (words_fit lent f ws) (words_size f ws) e).1

  pub none-unfit : None ≡ then_some (words_fit lent f ws) (words_size f ws) → words_fit lent f ws ≡ false
  none-unfit = was_false (words_fit lent f ws) (words_size f ws)

pub few-words : (f : FieldType) {n : ℕ} → n ≡ word_count f → n ≤ 2
unfolding word_count
few-words (uint w least greatest) e = omega arith
few-words (string limit) e = omega arith

-- a number, by its bounds
module _ (lent : List ℕ) (w least greatest : ℕ) (ws : List ℕ) where
  abbrev number : ℕ
  number = get_or ws 0 0

  pub number_unfit : (1 ≤ length ws → least ≤ number → number ≤ greatest → ⊥) → words_fit lent (uint w least greatest) ws ≡ false
  unfolding words_fit word_count word_value value_fits
  number_unfit n =
      refuted (leb 1 (length ws) && (leb least number && leb number greatest))
      λ t.
      let held : (leb least number && leb number greatest) ≡ true = and_right (leb 1 (length ws)) (leb least number && leb number greatest) t in
      n (leb-true 1 (length ws) (and_left (leb 1 (length ws)) (leb least number && leb number greatest) t))
      (leb-true least number (and_left (leb least number) (leb number greatest) held))
      (leb-true number greatest (and_right (leb least number) (leb number greatest) held))

  pub number_held : 1 ≤ length ws → least ≤ number → number ≤ greatest → words_fit lent (uint w least greatest) ws ≡ true
  unfolding words_fit word_count word_value value_fits
  number_held h l g = and_both (le-leb 1 (length ws) h) (and_both (le-leb least number l) (le-leb number greatest g))

abbrev pub span : ℕ → ℕ → Span
span start len = record { start = start; len = len }

-- a string within the lent bytes, or not
module _ (limit : ℕ) (lent : List ℕ) (s : Span) {r : Bool} (e : r ≡ leb (s.start + s.len) (length lent)) where
  span_by : Bool → FieldValue
  span_by t = cond t (string_value s.start (bytes_at lent s.start s.len)) out_of_body

  pub span-outside : r ≡ false → false ≡ value_fits (string limit) (span_value lent s)
  unfolding value_fits span_value span_by
  span-outside t = sym (ap (λ (x : Bool). value_fits (string limit) (span_by x)) (test_fails e t))

  pub span_tested : r ≡ true → leb s.len limit ≡ value_fits (string limit) (span_value lent s)
  unfolding value_fits span_value span_by is_string
  span_tested t =
      let inside = leb-true (s.start + s.len) (length lent) (test_holds e t) in
      sym (ap (λ (x : Bool). value_fits (string limit) (span_by x)) (test_holds e t)
      ∙ ap (λ (n : ℕ). leb n limit) (length-bytes_at lent s.start s.len inside))

module _ (lent : List ℕ) (limit : ℕ) (ws : List ℕ) where
  abbrev here : Span
  here = span (get_or ws 0 0) (get_or ws 1 0)

  pub string-missing : length ws < 2 → words_fit lent (string limit) ws ≡ false
  unfolding words_fit word_count
  string-missing h = rw (lt-leb 2 (length ws) h)

  pub string-unfit : value_fits (string limit) (span_value lent here) ≡ false → words_fit lent (string limit) ws ≡ false
  unfolding words_fit word_count word_value
  string-unfit t = rw t (and-false (leb 2 (length ws)))

  pub string-held : 2 ≤ length ws → value_fits (string limit) (span_value lent here) ≡ true → words_fit lent (string limit) ws ≡ true
  unfolding words_fit word_count word_value
  string-held h t = and_both (le-leb 2 (length ws) h) t

  module _ (fit : words_fit lent (string limit) ws ≡ true) where
    pub string-within : SpanWithin lent limit here
    unfolding word_value
    string-within = span_fits lent limit here (fit-value lent (string limit) ws fit)

    string_bytes_lem : value_bytes (string limit) (word_value lent (string limit) ws) ≡ string_bytes (bytes_at lent (get_or ws 0 0) (get_or ws 1 0))
    unfolding word_value value_bytes
    string_bytes_lem = ap (value_bytes (string limit)) (span_names lent limit here string-within)

-- ---- the bytes of a value that its field can hold

pub value-length : (lent : List ℕ) (f : FieldType) (ws : List ℕ) → words_fit lent f ws ≡ true → length (value_bytes f (word_value lent f ws)) ≡ words_size f ws
unfolding words_size word_value value_bytes
value-length lent (uint w least greatest) ws fit = length_to w (get_or ws 0 0)
value-length lent (string limit) ws fit =
    let x : List ℕ = bytes_at lent (get_or ws 0 0) (get_or ws 1 0) in
    let l : length x ≡ get_or ws 1 0 = length-bytes_at lent (get_or ws 0 0) (get_or ws 1 0) (string-within lent limit ws fit).inside in
    ap length (string_bytes_lem lent limit ws fit) ∙ length-string_bytes x ∙ ap (λ (n : ℕ). 2 + n) l

pub value-short : (lent : List ℕ) (f : FieldType) (ws : List ℕ) → words_fit lent f ws ≡ true → words_size f ws ≤ most_bytes f
value-short lent f ws fit = omega (arith, value-length lent f ws fit, value-most f (word_value lent f ws) (fit-value lent f ws fit))

-- ---- a value written where there is room for it

abbrev pub held_bytes : List ℕ → FieldType → List ℕ → List ℕ
held_bytes lent f ws = value_bytes f (word_value lent f ws)

module _ (lent ws b : List ℕ) (at : ℕ) {b' : List ℕ} where
  pub string-written : (limit : ℕ) → words_fit lent (string limit) ws ≡ true
      → b' ≡ patch b at (string_bytes (bytes_at lent (get_or ws 0 0) (get_or ws 1 0))) → b' ≡ patch b at (held_bytes lent (string limit) ws)
  string-written limit fit q = q ∙ ap (patch b at) (sym (string_bytes_lem lent limit ws fit))
