-- What the fields of an action satisfy that a message is read as: `action-fits`, since the message fits the fields of its kind.
use Prim.Native.Nat.{ℕ, suc, ◌-◌, ◌^◌, ◌≤◌, ◌<◌}
use native.Mathlib.Omega.{arith}
use mathlib.Core.Path.{◌≡◌, refl, sym, ap, ◌∙◌, subst}
use mathlib.Core.List.{List, [], ◌∷◌}
use mathlib.Core.Bool.{Bool, true, false, false≢true, cond}
use mathlib.Core.Option.{Option, some, none, some-injective, none-ne-some}
use lib.ListN.{length, drop, get_or}
use lib.Dec.{eqb, leb, lit<}
use borrow.Author.Tests.{leb-true}
use Rattle.layout.specs.StringFields.{is_string}
use Rattle.layout.proofs.BooleanLaws.{and_left, and_right}
use Rattle.reader.specs.Fields.{FieldType, uint, string, staff_number, password, picture, visibility, user_name, user_info, request_note, name_limit, info_limit, title_limit, text_limit, note_limit, FieldValue, number_value, string_value, out_of_body, fields_fit, field_values, value_fits, values_fit, value_number, value_string}
use Rattle.reader.specs.Frames.{is_frame, kind_of, body_of}
use Rattle.reader.specs.Kinds.{KindEntry, kinds, fields_in, kind_fields}
use Rattle.reader.specs.Messages.{content, body_content, message_content}
use Rattle.reader.proofs.FieldLaws.{target_fields}
use Rattle.reader.proofs.MessageTheorems.{values-fit, value_at}
use Rattle.model.specs.Actions.{Change, start_sys, c_nu_req, c_user, c_post, c_friend_req, c_friend, d_friend, u_user, u_title_post, u_text_post, u_img_post, u_vis_post, Action, change, query, refused, number_arg, string_arg, action_named, action_from, action_of}

-- ---- the conditions

-- a staff or post number: "4 bytes, not 0"
pub record ValidNumber (x : ℕ) : Type 0 where
  pub positive : 0 < x
  pub below : x < 2 ^ 32

abbrev pub ChangeFits : Change → Type 0
ChangeFits (start_sys u p) = ValidNumber u × (p < 2 ^ 64)
ChangeFits (c_nu_req u note) = ValidNumber u × (is_string note_limit note ≡ true)
ChangeFits (c_user u p v p2) = ValidNumber u × (p < 2 ^ 64) × ValidNumber v × (p2 < 2 ^ 64)
ChangeFits (c_post u p n title) = ValidNumber u × (p < 2 ^ 64) × ValidNumber n × (is_string title_limit title ≡ true)
ChangeFits (c_friend_req u p v note) = ValidNumber u × (p < 2 ^ 64) × ValidNumber v × (is_string note_limit note ≡ true)
ChangeFits (c_friend u p v) = ValidNumber u × (p < 2 ^ 64) × ValidNumber v
ChangeFits (d_friend u p v) = ValidNumber u × (p < 2 ^ 64) × ValidNumber v
ChangeFits (u_user u p p2 name info) =
    ValidNumber u × (p < 2 ^ 64) × (p2 < 2 ^ 64) × (is_string name_limit name ≡ true) × (is_string info_limit info ≡ true)
ChangeFits (u_title_post u p n title) = ValidNumber u × (p < 2 ^ 64) × ValidNumber n × (is_string title_limit title ≡ true)
ChangeFits (u_text_post u p n text) = ValidNumber u × (p < 2 ^ 64) × ValidNumber n × (is_string text_limit text ≡ true)
ChangeFits (u_img_post u p n x) = ValidNumber u × (p < 2 ^ 64) × ValidNumber n × (x < 2 ^ 32)
ChangeFits (u_vis_post u p n x) = ValidNumber u × (p < 2 ^ 64) × ValidNumber n × (x ≤ 1)

abbrev pub ActionFits : Action → Type 0
ActionFits (change c) = ChangeFits c
ActionFits (query q) = Unit
ActionFits (refused refusal) = Unit

-- ---- the values of a message that fit the fields of its kind

values_length : (fs : List FieldType) (vs : List FieldValue) → values_fit fs vs ≡ true → length fs ≡ length vs
unfolding values_fit
values_length [] [] e = refl
values_length [] (v ∷ vs) e = absurd (false≢true e)
values_length (f ∷ fs) [] e = absurd (false≢true e)
values_length (f ∷ fs) (v ∷ vs) e = ap suc (values_length fs vs (and_right (value_fits f v) (values_fit fs vs) e))

number_between : (w least greatest : ℕ) (v : FieldValue) → value_fits (uint w least greatest) v ≡ true
    → (least ≤ value_number v) × (value_number v ≤ greatest)
unfolding value_fits value_number
number_between w least greatest (number_value n) e =
    (leb-true least n (and_left (leb least n) (leb n greatest) e), leb-true n greatest (and_right (leb least n) (leb n greatest) e))
number_between w least greatest (string_value place x) e = absurd (false≢true e)
number_between w least greatest out_of_body e = absurd (false≢true e)

string-within : (limit : ℕ) (v : FieldValue) → value_fits (string limit) v ≡ true → is_string limit (value_string v) ≡ true
unfolding value_fits value_string
string-within limit (number_value n) e = absurd (false≢true e)
string-within limit (string_value place x) e = e
string-within limit out_of_body e = absurd (false≢true e)

module _ (fs : List FieldType) (vs : List FieldValue) (e : values_fit fs vs ≡ true) (i : ℕ) (h : i < length fs) where
  value_of : (f : FieldType) → get_or fs i (string 0) ≡ f → value_fits f (get_or vs i out_of_body) ≡ true
  value_of f q =
      ap (λ (g : FieldType). value_fits g (get_or vs i out_of_body)) (sym q)
      ∙ value_at i fs vs e (subst (λ (n : ℕ). i < n) (values_length fs vs e) h)

  number_arg_lem : get_or fs i (string 0) ≡ staff_number → ValidNumber (number_arg vs i)
  number_arg_lem q =
      let b = number_between 4 1 (2 ^ 32 - 1) (get_or vs i out_of_body) (value_of staff_number q) in
      record { positive = b.0; below = omega (arith, b.1) }

  password_arg : get_or fs i (string 0) ≡ password → number_arg vs i < 2 ^ 64
  password_arg q = omega (arith, (number_between 8 0 (2 ^ 64 - 1) (get_or vs i out_of_body) (value_of password q)).1)

  picture_arg : get_or fs i (string 0) ≡ picture → number_arg vs i < 2 ^ 32
  picture_arg q = omega (arith, (number_between 4 0 (2 ^ 32 - 1) (get_or vs i out_of_body) (value_of picture q)).1)

  visibility_arg : get_or fs i (string 0) ≡ visibility → number_arg vs i ≤ 1
  visibility_arg q = (number_between 1 0 1 (get_or vs i out_of_body) (value_of visibility q)).1

  string_arg_lem : (limit : ℕ) → get_or fs i (string 0) ≡ string limit → is_string limit (string_arg vs i) ≡ true
  string_arg_lem limit q = string-within limit (get_or vs i out_of_body) (value_of (string limit) q)

-- ---- the kinds

-- the values that fit the fields of an entry make an action that fits
abbrev EntryFits : KindEntry → Type 0
EntryFits e = (vs : List FieldValue) → values_fit e.fields vs ≡ true → ActionFits (action_named e.action vs)

infixr 60 ◌also◌
data EntriesFit : List KindEntry → Type 0 where
  no_entry : EntriesFit []
  ◌also◌ : {e : KindEntry} {es : List KindEntry} → EntryFits e → EntriesFit es → EntriesFit (e ∷ es)

login_args : (fs : List FieldType) (vs : List FieldValue) → values_fit (staff_number ∷ password ∷ fs) vs ≡ true
    → ValidNumber (number_arg vs 0) × (number_arg vs 1 < 2 ^ 64)
login_args fs vs e =
    let gs : List FieldType = staff_number ∷ password ∷ fs in
    (number_arg_lem gs vs e 0 (omega arith) refl, password_arg gs vs e 1 (omega arith) refl)

target_args : (fs : List FieldType) (vs : List FieldValue) → values_fit (target_fields fs) vs ≡ true
    → ValidNumber (number_arg vs 0) × (number_arg vs 1 < 2 ^ 64) × ValidNumber (number_arg vs 2)
target_args fs vs e = let l = login_args (staff_number ∷ fs) vs e in (l.0, l.1, number_arg_lem (target_fields fs) vs e 2 (omega arith) refl)

-- a staff or post number and a string
string_args : (limit : ℕ) (vs : List FieldValue) → values_fit (target_fields (string limit ∷ [])) vs ≡ true
    → ValidNumber (number_arg vs 0) × (number_arg vs 1 < 2 ^ 64) × ValidNumber (number_arg vs 2) × (is_string limit (string_arg vs 3) ≡ true)
string_args limit vs e =
    let fs : List FieldType = string limit ∷ [] in
    let t = target_args fs vs e in
    (t.0, t.1, t.2, string_arg_lem (target_fields fs) vs e 3 (lit< tt) limit refl)

c_nu_req-fits : (vs : List FieldValue) → values_fit (staff_number ∷ request_note ∷ []) vs ≡ true → ChangeFits (c_nu_req (number_arg vs 0) (string_arg vs 1))
c_nu_req-fits vs e =
    let fs : List FieldType = staff_number ∷ request_note ∷ [] in
    (number_arg_lem fs vs e 0 (lit< tt) refl, string_arg_lem fs vs e 1 (lit< tt) note_limit refl)

c_user-fits : (vs : List FieldValue) → values_fit (target_fields (password ∷ [])) vs ≡ true
    → ChangeFits (c_user (number_arg vs 0) (number_arg vs 1) (number_arg vs 2) (number_arg vs 3))
c_user-fits vs e =
    let t = target_args (password ∷ []) vs e in
    (t.0, t.1, t.2, password_arg (target_fields (password ∷ [])) vs e 3 (lit< tt) refl)

u_user-fits : (vs : List FieldValue) → values_fit (staff_number ∷ password ∷ password ∷ user_name ∷ user_info ∷ []) vs ≡ true
    → ChangeFits (u_user (number_arg vs 0) (number_arg vs 1) (number_arg vs 2) (string_arg vs 3) (string_arg vs 4))
u_user-fits vs e =
    let fs : List FieldType = staff_number ∷ password ∷ password ∷ user_name ∷ user_info ∷ [] in
    let l = login_args (password ∷ user_name ∷ user_info ∷ []) vs e in (
      l.0,
      l.1,
      password_arg fs vs e 2 (lit< tt) refl,
      string_arg_lem fs vs e 3 (lit< tt) name_limit refl,
      string_arg_lem fs vs e 4 (lit< tt) info_limit refl,
    )

u_img_post-fits : (vs : List FieldValue) → values_fit (target_fields (picture ∷ [])) vs ≡ true
    → ChangeFits (u_img_post (number_arg vs 0) (number_arg vs 1) (number_arg vs 2) (number_arg vs 3))
u_img_post-fits vs e =
    let t = target_args (picture ∷ []) vs e in
    (t.0, t.1, t.2, picture_arg (target_fields (picture ∷ [])) vs e 3 (lit< tt) refl)

u_vis_post-fits : (vs : List FieldValue) → values_fit (target_fields (visibility ∷ [])) vs ≡ true
    → ChangeFits (u_vis_post (number_arg vs 0) (number_arg vs 1) (number_arg vs 2) (number_arg vs 3))
u_vis_post-fits vs e =
    let t = target_args (visibility ∷ []) vs e in
    (t.0, t.1, t.2, visibility_arg (target_fields (visibility ∷ [])) vs e 3 (lit< tt) refl)

kinds-fit : EntriesFit kinds
unfolding kinds action_named
kinds-fit =
    login_args [] also c_nu_req-fits also c_user-fits also string_args title_limit also string_args note_limit also target_args [] also target_args []
    also u_user-fits also string_args title_limit also string_args text_limit also u_img_post-fits also u_vis_post-fits also queries
  where
    -- the kinds from 0501 on change nothing
    queries : EntriesFit (drop 12 kinds)
    queries =
        (λ vs e. tt) also (λ vs e. tt) also (λ vs e. tt) also (λ vs e. tt) also (λ vs e. tt) also (λ vs e. tt) also (λ vs e. tt) also (λ vs e. tt)
        also (λ vs e. tt) also (λ vs e. tt) also (λ vs e. tt) also (λ vs e. tt) also (λ vs e. tt) also (λ vs e. tt) also (λ vs e. tt)
        also (λ vs e. tt) also no_entry

-- ---- any message

-- whatever the code, the action fits if the values fit the fields that the table has for it
entry_named : (es : List KindEntry) → EntriesFit es → (k : ℕ) (vs : List FieldValue)
    → ((fs : List FieldType) → fields_in k es ≡ some fs → values_fit fs vs ≡ true) → ActionFits (action_from es (content k vs))
unfolding fields_in action_from
entry_named [] no_entry k vs h = tt
entry_named (e ∷ es) (f also fs) k vs h = by_test (eqb k e.kind) h (entry_named es fs k vs)
  where
    by_test : (t : Bool) → ((fs : List FieldType) → cond t (some e.fields) (fields_in k es) ≡ some fs → values_fit fs vs ≡ true)
        → (((fs : List FieldType) → fields_in k es ≡ some fs → values_fit fs vs ≡ true) → ActionFits (action_from es (content k vs)))
        → ActionFits (cond t (action_named e.action vs) (action_from es (content k vs)))
    by_test true h g = f vs (h e.fields refl)
    by_test false h g = g h

-- a code with no fields is a refusal
no_kind : (k : ℕ) → kind_fields k ≡ none → ActionFits (action_from kinds (content k []))
unfolding kind_fields
no_kind k q = entry_named kinds kinds-fit k [] (λ fs e. absurd (none-ne-some fs (sym q ∙ e)))

body-action : (k : ℕ) (o : Option (List FieldType)) (body : List ℕ) → kind_fields k ≡ o → ActionFits (action_from kinds (body_content k o body))
unfolding body_content kind_fields fields_in kinds
body-action k none body q = no_kind 4 refl
body-action k (some fs) body q = by_test (fields_fit fs body 0) refl
  where
    by_test : (t : Bool) → fields_fit fs body 0 ≡ t
        → ActionFits (action_from kinds (cond t (content k (field_values fs body 0)) (content 5 [])))
    by_test true e =
        entry_named kinds kinds-fit k (field_values fs body 0) (λ gs g.
        let same : fs ≡ gs = some-injective fs gs (sym q ∙ g) in
        ap (λ (hs : List FieldType). values_fit hs (field_values fs body 0)) (sym same) ∙ values-fit fs body 0 e)
    by_test false e = no_kind 5 refl

pub action-fits : (msg : List ℕ) → ActionFits (action_of msg)
unfolding action_of message_content kind_fields fields_in kinds
action-fits msg = by_test (is_frame msg)
  where
    by_test : (t : Bool) → ActionFits (action_from kinds (cond t (body_content (kind_of msg) (kind_fields (kind_of msg)) (body_of msg)) (content 3 [])))
    by_test true = body-action (kind_of msg) (kind_fields (kind_of msg)) (body_of msg) refl
    by_test false = no_kind 3 refl
