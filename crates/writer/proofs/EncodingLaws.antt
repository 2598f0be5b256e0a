-- The writer by the two tests that decide its number: whether the fields of the kind can hold the values (`is_held`), and whether there is room.
use Prim.Native.Nat.{ℕ, ◌+◌, ◌≤◌, ◌<◌}
use native.Mathlib.Omega.{arith}
use mathlib.Core.Path.{◌≡◌, refl, ap, ◌∙◌}
use mathlib.Core.List.{List}
use mathlib.Core.Bool.{Bool, true, false, false≢true}
use mathlib.Core.Option.{Option as Maybe, some, none}
use lib.ListN.{length, drop}
use lib.Seq.{take_at}
use lib.Dec.{leb}
use borrow.Table.Steps.{cases}
use borrow.Author.Tests.{le-leb, lt-leb, leb-true, leb-false}
use Rattle.std.specs.Prelude.{Option, None, Result, Ok, Err}
use Rattle.std.specs.Option.{ok_or}
use Rattle.std.specs.Result.{IsErrAnd}
use Rattle.layout.specs.Bytes.{patch}
use Rattle.layout.proofs.BooleanLaws.{refuted}
use Rattle.reader.specs.Frames.{frame_bytes}
use Rattle.reader.specs.Fields.{FieldType, FieldValue, values_fit, values_bytes}
use Rattle.reader.specs.Kinds.{kind_fields}
use Rattle.reader.specs.Messages.{Content}
use Rattle.writer.specs.Encoding.{WriteResult, result, refusal_number, outcome, put_whole, encode_fields, encode_of}
use Rattle.writer.specs.declared.Refusal.{Refusal}
use Rattle.writer.specs.RoundTrips.{frame_in}

-- ---- what a call returns: an `Err` has the number of its refusal, and nothing is written

pub refused-outcome : (r : Result ℕ Refusal) (b : List ℕ) (x y : Refusal) → IsErrAnd r (λ (z : Refusal). z ≡ x) → x ≡ y
    → outcome r b ≡ result (refusal_number y) 0 b
refused-outcome (Ok n) b x y h e = absurd h
refused-outcome (Err z) b x y h e = ap (λ (w : Refusal). result (refusal_number w) 0 b) (h ∙ e)

-- the error that stands for a missing value
pub error_given : {A E : Type 0} (o : Option A) {x y : E} → Err x ≡ ok_or o y → o ≡ None → x ≡ y
error_given o e n = let q = rw n at e in cc

-- ---- whether there is room

module _ (x b : List ℕ) where
  pub put-done : length x ≤ length b → put_whole x b ≡ result 0 (length x) (patch b 0 x)
  unfolding put_whole
  put-done h = rw (le-leb (length x) (length b) h)

  pub put-short : length b < length x → put_whole x b ≡ result 13 0 b
  unfolding put_whole
  put-short h = rw (lt-leb (length x) (length b) h)

  pub put-within : (put_whole x b).written ≤ length x
  put-within =
      cases (leb (length x) (length b))
      (λ q. omega (arith, ap (λ (r : WriteResult). r.written) (put-done (leb-true (length x) (length b) q))))
      (λ q. omega (arith, ap (λ (r : WriteResult). r.written) (put-short (leb-false (length x) (length b) q))))

  -- the number is never 5, and where it is 0 the whole stands in front of the buffer
  put_never_five : (put_whole x b).number ≡ 5 → ⊥
  put_never_five e =
      cases (leb (length x) (length b))
      (λ q. omega (arith, ap (λ (r : WriteResult). r.number) (put-done (leb-true (length x) (length b) q))))
      (λ q. omega (arith, ap (λ (r : WriteResult). r.number) (put-short (leb-false (length x) (length b) q))))

  pub put_in_front : (put_whole x b).number ≡ 0 → frame_in (put_whole x b) ≡ x
  unfolding frame_in patch
  put_in_front e =
      cases (leb (length x) (length b))
      (λ q. rw (put-done (leb-true (length x) (length b) q)) (take_at x (drop (0 + length x) b) (length x) refl))
      (λ q. absurd (omega (arith, ap (λ (r : WriteResult). r.number) (put-short (leb-false (length x) (length b) q)))))

-- ---- whether the fields of the kind can hold the values

unfoldable pub holds : Maybe (List FieldType) → List FieldValue → Bool
holds none vs = false
holds (some fs) vs = values_fit fs vs

abbrev pub is_held : Content → Bool
is_held c = holds (kind_fields c.code) c.values

pub record Held (c : Content) : Type 0 where
  pub fields : List FieldType
  pub known : kind_fields c.code ≡ some fields
  pub fit : values_fit fields c.values ≡ true

pub held : (c : Content) → is_held c ≡ true → Held c
unfolding holds
held c t = by_fields (kind_fields c.code) refl t
  where
    by_fields : (o : Maybe (List FieldType)) → kind_fields c.code ≡ o → holds o c.values ≡ true → Held c
    by_fields none known fit = absurd (false≢true fit)
    by_fields (some fs) known fit = record { fields = fs; known = known; fit = fit }

pub is_held_lem : (c : Content) → Held c → is_held c ≡ true
unfolding holds
is_held_lem c h = rw h.known h.fit

abbrev pub frame_of : (c : Content) → Held c → List ℕ
frame_of c h = frame_bytes c.code (values_bytes h.fields c.values)

pub held-encoded : (c : Content) (h : Held c) (b : List ℕ) → encode_of c b ≡ put_whole (frame_of c h) b
unfolding encode_of encode_fields
held-encoded c h b = rw (h.known, h.fit)

pub not_held-encoded : (c : Content) (b : List ℕ) → is_held c ≡ false → encode_of c b ≡ result 5 0 b
unfolding encode_of encode_fields holds
not_held-encoded c b t = by_fields (kind_fields c.code) t
  where
    by_fields : (o : Maybe (List FieldType)) → holds o c.values ≡ false → encode_fields c.code o c.values b ≡ result 5 0 b
    by_fields none t = refl
    by_fields (some fs) t = rw t

-- the number is 5 exactly if they cannot, so where it is 0 they can
module _ (c : Content) (b : List ℕ) where
  pub five_not_held : (encode_of c b).number ≡ 5 → is_held c ≡ false
  five_not_held e =
      refuted (is_held c) λ t. let h : Held c = held c t in put_never_five (frame_of c h) b (rw (held-encoded c h b) at e)

  pub not_held-five : is_held c ≡ false → (encode_of c b).number ≡ 5
  not_held-five t = ap (λ (r : WriteResult). r.number) (not_held-encoded c b t)

  pub zero_held : (encode_of c b).number ≡ 0 → is_held c ≡ true
  zero_held e = cases (is_held c) (λ t. t) (λ t. absurd (omega (arith, not_held-five t)))
