-- The sender of an accepted message is what its first field says (`accepted-sender`), since the fields of every kind begin with a number
-- of four bytes.
use Prim.Native.Nat.{ℕ}
use native.Mathlib.Omega.{arith}
use mathlib.Core.Path.{◌≡◌, refl, sym, ap, ◌∙◌}
use mathlib.Core.List.{List, [], ◌∷◌}
use mathlib.Core.Bool.{Bool, true, false, false≢true, cond}
use mathlib.Core.Option.{Option, some, none}
use lib.ListN.{length}
use lib.Dec.{eqb, leb}
use borrow.Author.Tests.{le-leb, eqb-true, not-false}
use Rattle.layout.specs.Bytes.{bytes_at}
use Rattle.layout.specs.Numbers.{from_le_bytes}
use Rattle.reader.specs.Fields.{FieldType, uint, string, fields_fit, field_value, field_values, value_number}
use Rattle.reader.specs.Frames.{is_frame, kind_of, body_of}
use Rattle.reader.specs.Kinds.{kinds, kind_fields}
use Rattle.reader.specs.Messages.{body_content, message_content, body_fits}
use Rattle.reader.proofs.FieldLaws.{number_width, first_fits}
use Rattle.reader.proofs.KindLaws.{entry_passes}
use Rattle.model.specs.State.{State}
use Rattle.model.specs.Actions.{number_arg}
use Rattle.model.specs.Step.{step_state}
use Rattle.model.proofs.AcceptedLaws.{none_applies}
use Rattle.model.proofs.RefusalTheorems.{message_rows, state_rows, accepted-message}
use Rattle.confidentiality.specs.Traces.{is_accepted}
use Rattle.confidentiality.specs.History.{sender, user_field}

-- ---- the first field

abbrev begins_with_number : List FieldType → Bool
begins_with_number [] = false
begins_with_number (uint width least greatest ∷ fs) = eqb width 4
begins_with_number (string limit ∷ fs) = false

kind_begins : (k : ℕ) (fs : List FieldType) → kind_fields k ≡ some fs → begins_with_number fs ≡ true
unfolding kind_fields kinds
kind_begins k fs q = entry_passes (λ (k : ℕ) (fs : List FieldType). begins_with_number fs) k kinds fs refl q

-- a body that fits fields that begin so has the sender that its first value says
first_value : (fs : List FieldType) (body : List ℕ) → begins_with_number fs ≡ true → fields_fit fs body 0 ≡ true
    → cond (leb 4 (length body)) (some (from_le_bytes (bytes_at body 0 4))) none ≡ some (number_arg (field_values fs body 0) 0)
unfolding field_values field_value value_number
first_value [] body b f = absurd (false≢true b)
first_value (uint w least greatest ∷ fs) body b f =
    let four : w ≡ 4 = eqb-true w 4 b in
    let long = number_width w least greatest body 0 (first_fits (uint w least greatest) fs body 0 f) in
    ap (λ (t : Bool). cond t (some (from_le_bytes (bytes_at body 0 4))) none) (le-leb 4 (length body) (omega arith))
    ∙ ap (λ (x : ℕ). some (from_le_bytes (bytes_at body 0 x))) (sym four)
first_value (string limit ∷ fs) body b f = absurd (false≢true b)

pub accepted-sender : (m : List ℕ) (s : State) → is_accepted m s ≡ true → sender m ≡ some (user_field (message_content m))
unfolding sender message_content body_content body_fits state_rows message_rows is_accepted
accepted-sender m s e =
    let passes = none_applies (state_rows m s) (accepted-message m s (eqb-true (step_state m s).number 0 e)) in
    rw (not-false (is_frame m) (passes 0))
    (by_fields (kind_fields (kind_of m)) refl (not-false (body_fits (kind_fields (kind_of m)) (body_of m)) (passes 2)))
  where
    body : List ℕ
    body = body_of m

    by_fields : (o : Option (List FieldType)) → kind_fields (kind_of m) ≡ o → body_fits o body ≡ true
        → cond (leb 4 (length body)) (some (from_le_bytes (bytes_at body 0 4))) none ≡ some (user_field (body_content (kind_of m) o body))
    by_fields none q f = absurd (false≢true f)
    by_fields (some fs) q f = rw f (first_value fs body (kind_begins (kind_of m) fs q) f)
