-- Laws of fields and of lists of fields, by induction on the list.
use Prim.Native.Nat.{ℕ, ◌+◌, ◌≤◌}
use native.Mathlib.Omega.{arith}
use mathlib.Core.Path.{◌≡◌, refl, sym, ap, ◌∙◌}
use mathlib.Core.List.{List, [], ◌∷◌}
use mathlib.Core.Bool.{Bool, true, false, ◌&&◌, ◌||◌, and_assoc}
use lib.ListN.{length}
use lib.Dec.{eqb, leb}
use borrow.Author.Tests.{leb-true, eqb-true, eq-eqb, ne_eqb}
use Rattle.std.specs.Prelude.{Some, None}
use Rattle.std.specs.Bool.{then_some}
use Rattle.layout.specs.StringFields.{is_string}
use Rattle.layout.proofs.BooleanLaws.{and_left, and_right, chain_stops, chain_goes_on}
use Rattle.layout.proofs.ByteLaws.{length-bytes_at}
use Rattle.reader.specs.declared.field.Width.{Width}
use Rattle.reader.specs.declared.field.Width.TheVariants.{One, Four, Eight}
use Rattle.reader.specs.Fields.{width_bytes, FieldType, uint, string, number_in, string_in, field_fits, field_end, fields_fit, staff_number, password, begins_login, begins_target}

-- ---- a value that is there where a test holds

module _ {A : Type 0} where
  pub was_true : (t : Bool) (x : A) {y : A} → Some y ≡ then_some t x → (t ≡ true) × (y ≡ x)
  was_true true x e = (refl, cc)
  was_true false x e = absurd (cc)

  pub was_false : (t : Bool) (x : A) → None ≡ then_some t x → t ≡ false
  was_false true x e = absurd (cc)
  was_false false x e = refl

  pub is_there : {t : Bool} {x y : A} → t ≡ true → y ≡ x → Some y ≡ then_some t x
  is_there p q = rw p (ap Some q)

  pub is_none : {t : Bool} (x : A) → t ≡ false → None ≡ then_some t x
  is_none x p = rw p refl

-- ---- widths

abbrev is-width : ℕ → Bool
is-width w = eqb w 1 || (eqb w 4 || eqb w 8)

-- the type has a case for each of the three widths, and for no other
pub width_known : (w : ℕ) → is-width w ≡ true → (x : Width) × (width_bytes x ≡ w)
width_known w e = by_one (eqb w 1) refl e
  where
    by_four : (b : Bool) → eqb w 4 ≡ b → (b || eqb w 8) ≡ true → (x : Width) × (width_bytes x ≡ w)
    by_four true p h = (Four, sym (eqb-true w 4 p))
    by_four false p h = (Eight, sym (eqb-true w 8 h))

    by_one : (b : Bool) → eqb w 1 ≡ b → (b || (eqb w 4 || eqb w 8)) ≡ true → (x : Width) × (width_bytes x ≡ w)
    by_one true p h = (One, sym (eqb-true w 1 p))
    by_one false p h = by_four (eqb w 4) refl h

pub known_width : (x : Width) → is-width (width_bytes x) ≡ true
known_width One = refl
known_width Four = refl
known_width Eight = refl

-- ---- a string field tested where it stands, its length n

module _ (s : List ℕ) (at limit n : ℕ) (e : n ≡ number_in s at 2) where
  string-there : at + 2 + n ≤ length s → length (string_in s at) ≡ n
  string-there h = length-bytes_at s (at + 2) (number_in s at 2) (omega arith) ∙ sym e

  pub string-cut : leb (at + 2) (length s) ≡ true → leb (at + 2 + n) (length s) ≡ false → false ≡ field_fits (string limit) s at
  unfolding field_fits
  string-cut h t =
      chain_goes_on (leb (at + 2) (length s)) _ h
      (chain_stops (leb (at + 2 + number_in s at 2) (length s)) _ (ap (λ (k : ℕ). leb (at + 2 + k) (length s)) (sym e) ∙ t))

  pub string-whole : leb (at + 2) (length s) ≡ true → leb (at + 2 + n) (length s) ≡ true → leb n limit ≡ field_fits (string limit) s at
  unfolding field_fits is_string
  string-whole h t =
      chain_goes_on (leb (at + 2) (length s)) _ h
      (chain_goes_on (leb (at + 2 + number_in s at 2) (length s)) _ (ap (λ (k : ℕ). leb (at + 2 + k) (length s)) (sym e) ∙ t)
      (ap (λ (k : ℕ). leb k limit) (sym (string-there (leb-true (at + 2 + n) (length s) t)))))

-- ---- fields that fit

pub number_width : (w least greatest : ℕ) (s : List ℕ) (at : ℕ) → field_fits (uint w least greatest) s at ≡ true → at + w ≤ length s
unfolding field_fits
number_width w least greatest s at e =
    leb-true (at + w) (length s) (and_left (leb (at + w) (length s)) (leb least (number_in s at w) && leb (number_in s at w) greatest) e)

pub string-length : (limit : ℕ) (s : List ℕ) (at : ℕ) → field_fits (string limit) s at ≡ true → at + 2 ≤ length s
unfolding field_fits
string-length limit s at e =
    leb-true (at + 2) (length s) (and_left (leb (at + 2) (length s)) (leb (at + 2 + number_in s at 2) (length s) && is_string limit (string_in s at)) e)

pub string_end : (limit : ℕ) (s : List ℕ) (at : ℕ) → field_fits (string limit) s at ≡ true → at + 2 + number_in s at 2 ≤ length s
unfolding field_fits
string_end limit s at e =
    let whole : Bool = leb (at + 2 + number_in s at 2) (length s) in
    leb-true (at + 2 + number_in s at 2) (length s)
    (and_left whole (is_string limit (string_in s at)) (and_right (leb (at + 2) (length s)) (whole && is_string limit (string_in s at)) e))

pub string_is : (limit : ℕ) (s : List ℕ) (at : ℕ) → field_fits (string limit) s at ≡ true → is_string limit (string_in s at) ≡ true
unfolding field_fits
string_is limit s at e =
    let whole : Bool = leb (at + 2 + number_in s at 2) (length s) in
    and_right whole (is_string limit (string_in s at)) (and_right (leb (at + 2) (length s)) (whole && is_string limit (string_in s at)) e)

module _ (f : FieldType) (fs : List FieldType) (s : List ℕ) (at : ℕ) (e : fields_fit (f ∷ fs) s at ≡ true) where
  pub first_fits : field_fits f s at ≡ true
  unfolding fields_fit
  first_fits = and_left (field_fits f s at) (fields_fit fs s (field_end f s at)) e

  pub rest-fits : fields_fit fs s (field_end f s at) ≡ true
  unfolding fields_fit
  rest-fits = and_right (field_fits f s at) (fields_fit fs s (field_end f s at)) e

-- a list of fields is tested field by field, and at its end
module _ (fs : List FieldType) (f : FieldType) (s : List ℕ) (at : ℕ) where
  pub next_unfit : field_fits f s at ≡ false → fields_fit (f ∷ fs) s at ≡ false
  unfolding fields_fit
  next_unfit t = ap (λ (b : Bool). b && fields_fit fs s (field_end f s at)) t

  pub next_fits : {end : ℕ} → field_fits f s at ≡ true → field_end f s at ≡ end → fields_fit (f ∷ fs) s at ≡ fields_fit fs s end
  unfolding fields_fit
  next_fits t e = ap (λ (b : Bool). b && fields_fit fs s (field_end f s at)) t ∙ ap (fields_fit fs s) e

module _ (s : List ℕ) (at : ℕ) where
  pub ended : length s ≡ at → fields_fit [] s at ≡ true
  unfolding fields_fit
  ended e = eq-eqb (length s) at e

  pub not_ended : (length s ≡ at → ⊥) → fields_fit [] s at ≡ false
  unfolding fields_fit
  not_ended n = ne_eqb (length s) at n

pub number_greatest : (w least greatest : ℕ) (s : List ℕ) (at : ℕ) → field_fits (uint w least greatest) s at ≡ true → number_in s at w ≤ greatest
unfolding field_fits
number_greatest w least greatest s at e =
    leb-true (number_in s at w) greatest
    (and_right (leb least (number_in s at w)) (leb (number_in s at w) greatest)
    (and_right (leb (at + w) (length s)) (leb least (number_in s at w) && leb (number_in s at w) greatest) e))

-- ---- lists of fields that begin alike: U P, and U P with a staff or post number

abbrev pub login_fields : List FieldType
login_fields = staff_number ∷ password ∷ []

abbrev pub target_fields : List FieldType → List FieldType
target_fields fs = staff_number ∷ password ∷ staff_number ∷ fs

module _ (fs : List FieldType) (s : List ℕ) where
  pub fits-login : fields_fit (staff_number ∷ password ∷ fs) s 0 ≡ (begins_login s && fields_fit fs s 12)
  unfolding fields_fit field_end
  fits-login = sym (and_assoc (field_fits staff_number s 0) (field_fits password s 4) (fields_fit fs s 12))

  pub fits-target : fields_fit (target_fields fs) s 0 ≡ (begins_target s && fields_fit fs s 16)
  unfolding fields_fit field_end
  fits-target =
      sym (and_assoc (field_fits staff_number s 0) (field_fits password s 4) (field_fits staff_number s 12 && fields_fit fs s 16))
      ∙ sym (and_assoc (field_fits staff_number s 0 && field_fits password s 4) (field_fits staff_number s 12) (fields_fit fs s 16))

  -- where it does not begin so it does not fit, and else the rest decides
  pub login_unfit : begins_login s ≡ false → fields_fit (staff_number ∷ password ∷ fs) s 0 ≡ false
  login_unfit t = fits-login ∙ ap (λ (b : Bool). b && fields_fit fs s 12) t

  pub login_begun : begins_login s ≡ true → fields_fit (staff_number ∷ password ∷ fs) s 0 ≡ fields_fit fs s 12
  login_begun t = fits-login ∙ ap (λ (b : Bool). b && fields_fit fs s 12) t

  pub target_unfit : begins_target s ≡ false → fields_fit (target_fields fs) s 0 ≡ false
  target_unfit t = fits-target ∙ ap (λ (b : Bool). b && fields_fit fs s 16) t

  pub target_begun : begins_target s ≡ true → fields_fit (target_fields fs) s 0 ≡ fields_fit fs s 16
  target_begun t = fits-target ∙ ap (λ (b : Bool). b && fields_fit fs s 16) t

  pub target-rest : fields_fit (target_fields fs) s 0 ≡ true → fields_fit fs s 16 ≡ true
  target-rest e =
      and_right ((field_fits staff_number s 0 && field_fits password s 4) && field_fits staff_number s 12) (fields_fit fs s 16) (sym fits-target ∙ e)
