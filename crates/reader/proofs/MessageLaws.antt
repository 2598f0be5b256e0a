-- Laws of contents: what each way through a family's reader asks, over the kind and the fields.
use Prim.Native.Nat.{ℕ, ◌+◌, ◌-◌, ◌^◌, ◌≤◌}
use native.Mathlib.Omega.{arith}
use mathlib.Core.Path.{◌≡◌, refl, sym, ap, ap₂, ◌∙◌}
use mathlib.Core.List.{List, [], ◌∷◌}
use mathlib.Core.Bool.{Bool, true, false, cond}
use mathlib.Core.Option.{some, none}
use Rattle.std.specs.Prelude.{Option, Some, None, Result, MatchOption}
use Rattle.std.specs.Bool.{then_some}
use Rattle.std.specs.Option.{ok_or}
use lib.ListN.{length}
use borrow.Author.Tests.{le-leb}
use Rattle.reader.specs.Fields.{FieldType, uint, string, FieldValue, number_value, string_value, out_of_body, staff_number, password, user_name, user_info, number_in, string_in, field_fits, field_end, fields_fit, field_value, field_values}
use Rattle.reader.specs.Kinds.{kind_fields, fields_in, kinds}
use Rattle.reader.specs.Messages.{Content, content, body_content, message_content, enum_content, read_content, span_value, login_values, login_at, span_at}
use Rattle.reader.specs.Frames.{is_frame, kind_of, body_of}
use Rattle.reader.specs.declared.Login.{Login}
use Rattle.reader.specs.declared.Message.{Message}
use Rattle.reader.specs.declared.Refusal.{Refusal}
use Rattle.reader.specs.declared.Refusal.TheVariants.{Body}
use Rattle.reader.specs.declared.Span.{Span}
use Rattle.reader.proofs.FieldLaws.{was_true, was_false, number_greatest, login_fields, target_fields, target-rest, first_fits, rest-fits, string_end}
use Rattle.reader.proofs.KindLaws.{EachFrom}

-- ---- the content of a body of kind k, which has the fields fs

module _ (k l : ℕ) (fs : List FieldType) (body : List ℕ) (e : k ≡ l) (t : kind_fields l ≡ some fs) where
  fields_are : kind_fields k ≡ some fs
  fields_are = ap kind_fields e ∙ t

  pub unfit_content : fields_fit fs body 0 ≡ false → content 5 [] ≡ body_content k (kind_fields k) body
  unfolding body_content
  unfit_content f = rw (fields_are, f)

  pub fit-content : (vs : List FieldValue) → fields_fit fs body 0 ≡ true → vs ≡ field_values fs body 0 → content l vs ≡ body_content k (kind_fields k) body
  unfolding body_content
  fit-content vs f q = rw (fields_are, f, e, q)

-- ---- values, one field behind the other

module _ (fs : List FieldType) (body : List ℕ) (vs : List FieldValue) where
  pub login-values : (l : Login) → l ≡ login_at body → vs ≡ field_values fs body 12 → login_values l vs ≡ field_values (staff_number ∷ password ∷ fs) body 0
  unfolding field_values field_value field_end
  login-values l e q = ap₂ login_values e q

  pub number_values : (w least greatest n at : ℕ) → n ≡ number_in body at w → vs ≡ field_values fs body (at + w)
      → number_value n ∷ vs ≡ field_values (uint w least greatest ∷ fs) body at
  unfolding field_values field_value field_end
  number_values w least greatest n at e q = ap₂ (λ (x : ℕ) (r : List FieldValue). number_value x ∷ r) e q

  pub span-values : (limit at : ℕ) (s : Span) → field_fits (string limit) body at ≡ true → s ≡ span_at body at
      → vs ≡ field_values fs body (at + 2 + number_in body at 2) → span_value body s ∷ vs ≡ field_values (string limit ∷ fs) body at
  unfolding field_values field_value field_end span_value
  span-values limit at s f e q =
      ap₂ (λ (x : Span) (r : List FieldValue). span_value body x ∷ r) e q
      ∙ ap (λ (t : Bool). cond t (string_value (at + 2) (string_in body at)) out_of_body ∷ field_values fs body (at + 2 + number_in body at 2))
      (le-leb (at + 2 + number_in body at 2) (length body) (string_end limit body at f))

-- ---- bodies of unknown kinds

pub unknown_content : (k : ℕ) (body : List ℕ) → kind_fields k ≡ none → content 4 [] ≡ body_content k (kind_fields k) body
unfolding body_content
unknown_content k body e = rw e

-- ---- contents of what is read: none where the body does not fit the fields of its kind, else the values that stand there

-- y was read of a body that fits, where x stands there
abbrev pub Read : (A : Type 0) → A → List FieldType → List ℕ → A → Type 0
Read A y fs body x = Some y ≡ then_some (fields_fit fs body 0) x

module _ (k l : ℕ) (body : List ℕ) (e : k ≡ l) where
  pub unread : {A : Type 0} (fs : List FieldType) (x : A) → kind_fields l ≡ some fs → None ≡ then_some (fields_fit fs body 0) x
      → content 5 [] ≡ body_content k (kind_fields k) body
  unread fs x t n = unfit_content k l fs body e t (was_false (fields_fit fs body 0) x n)

  pub login-content : {login : Login} → kind_fields l ≡ some login_fields → Read Login login login_fields body (login_at body)
      → content l (login_values login []) ≡ body_content k (kind_fields k) body
  unfolding field_values
  login-content {login} t q =
      let r = was_true (fields_fit login_fields body 0) (login_at body) q in
      fit-content k l login_fields body e t _ r.0 (login-values [] body [] login r.1 refl)

  pub request-content : {user limit : ℕ} {note : Span} → kind_fields l ≡ some (staff_number ∷ string limit ∷ [])
      → Read (ℕ × Span) (user, note) (staff_number ∷ string limit ∷ []) body (number_in body 0 4, span_at body 4)
      → content l (number_value user ∷ span_value body note ∷ []) ≡ body_content k (kind_fields k) body
  unfolding field_values field_end
  request-content {user} {limit} {note} t q =
      let fs : List FieldType = staff_number ∷ string limit ∷ [] in
      let r = was_true {A = ℕ × Span} (fields_fit fs body 0) (number_in body 0 4, span_at body 4) q in
      let there = first_fits (string limit) [] body 4 (rest-fits staff_number (string limit ∷ []) body 0 r.0) in
      fit-content k l fs body e t _ r.0
      (number_values (string limit ∷ []) body _ 4 1 (2 ^ 32 - 1) user 0 (ap (λ (p : ℕ × Span). p.0) r.1)
      (span-values [] body [] limit 4 note there (ap (λ (p : ℕ × Span). p.1) r.1) refl))

  module _ {login : Login} {n : ℕ} where
    -- with the values vs of the fields fs behind them
    followed_content : (fs : List FieldType) (vs : List FieldValue) → kind_fields l ≡ some (target_fields fs) → fields_fit (target_fields fs) body 0 ≡ true
        → login ≡ login_at body → n ≡ number_in body 12 4 → vs ≡ field_values fs body 16
        → content l (login_values login (number_value n ∷ vs)) ≡ body_content k (kind_fields k) body
    followed_content fs vs t f g q r =
        fit-content k l (target_fields fs) body e t _ f
        (login-values (staff_number ∷ fs) body _ login g (number_values fs body vs 4 1 (2 ^ 32 - 1) n 12 q r))

    pub target-content : kind_fields l ≡ some (target_fields []) → Read (Login × ℕ) (login, n) (target_fields []) body (login_at body, number_in body 12 4)
        → content l (login_values login (number_value n ∷ [])) ≡ body_content k (kind_fields k) body
    unfolding field_values
    target-content t q =
        let r = was_true {A = Login × ℕ} (fields_fit (target_fields []) body 0) (login_at body, number_in body 12 4) q in
        followed_content [] [] t r.0 (ap (λ (p : Login × ℕ). p.0) r.1) (ap (λ (p : Login × ℕ). p.1) r.1) refl

    pub number-content : {w least greatest x : ℕ} → kind_fields l ≡ some (target_fields (uint w least greatest ∷ []))
        → Read (Login × ℕ × ℕ) (login, n, x) (target_fields (uint w least greatest ∷ [])) body (login_at body, number_in body 12 4, number_in body 16 w)
        → content l (login_values login (number_value n ∷ number_value x ∷ [])) ≡ body_content k (kind_fields k) body
    unfolding field_values
    number-content {w} {least} {greatest} {x} t q =
        let fs : List FieldType = uint w least greatest ∷ [] in
        let r = was_true {A = Login × ℕ × ℕ} (fields_fit (target_fields fs) body 0) (login_at body, number_in body 12 4, number_in body 16 w) q in
        followed_content fs _ t r.0 (ap (λ (p : Login × ℕ × ℕ). p.0) r.1) (ap (λ (p : Login × ℕ × ℕ). p.1) r.1)
        (number_values [] body [] w least greatest x 16 (ap (λ (p : Login × ℕ × ℕ). p.2) r.1) refl)

    pub string-content : {limit : ℕ} {s : Span} → kind_fields l ≡ some (target_fields (string limit ∷ []))
        → Read (Login × ℕ × Span) (login, n, s) (target_fields (string limit ∷ [])) body (login_at body, number_in body 12 4, span_at body 16)
        → content l (login_values login (number_value n ∷ span_value body s ∷ [])) ≡ body_content k (kind_fields k) body
    unfolding field_values
    string-content {limit} {s} t q =
        let fs : List FieldType = string limit ∷ [] in
        let r = was_true {A = Login × ℕ × Span} (fields_fit (target_fields fs) body 0) (login_at body, number_in body 12 4, span_at body 16) q in
        let there = first_fits (string limit) [] body 16 (target-rest fs body r.0) in
        followed_content fs _ t r.0 (ap (λ (p : Login × ℕ × Span). p.0) r.1) (ap (λ (p : Login × ℕ × Span). p.1) r.1)
        (span-values [] body [] limit 16 s there (ap (λ (p : Login × ℕ × Span). p.2) r.1) refl)

-- a number that was read is not above its greatest value
pub number-bounded : (w least greatest : ℕ) (body : List ℕ) {login : Login} {n x : ℕ}
    → Read (Login × ℕ × ℕ) (login, n, x) (target_fields (uint w least greatest ∷ [])) body (login_at body, number_in body 12 4, number_in body 16 w)
    → x ≤ greatest
number-bounded w least greatest body q =
    let fs : List FieldType = uint w least greatest ∷ [] in
    let r = was_true {A = Login × ℕ × ℕ} (fields_fit (target_fields fs) body 0) (login_at body, number_in body 12 4, number_in body 16 w) q in
    let b = number_greatest w least greatest body 16 (first_fits (uint w least greatest) [] body 16 (target-rest fs body r.0)) in
    omega (arith, ap (λ (p : Login × ℕ × ℕ). p.2) r.1)

-- what a family's reader gives
pub family-content : (body : List ℕ) (o : Option Message) {x : Content} {r : Result Message Refusal}
    → MatchOption o (content 5 [] ≡ x) (λ (m : Message). enum_content body m ≡ x) → r ≡ ok_or o Body → read_content body r ≡ x
family-content body None h e = ap (read_content body) e ∙ h
family-content body (Some m) h e = ap (read_content body) e ∙ h

-- ---- ranges of kinds with like fields

-- all kinds of the family 05 but 0503 have U P and a number
abbrev pub ReadTarget : ℕ → Type 0
ReadTarget k = (k ≡ 0x0503 → ⊥) → kind_fields k ≡ some (target_fields [])

pub read_targets : EachFrom ReadTarget 0x0501 10
unfolding kind_fields fields_in kinds
read_targets =
    (λ n. refl, (λ n. refl, (λ n. absurd (n refl), (λ n. refl, (λ n. refl, (λ n. refl, (λ n. refl, (λ n. refl, (λ n. refl, (λ n. refl, tt))))))))))

-- all kinds of the family 06 but 0606 have U P alone
abbrev pub ListLogin : ℕ → Type 0
ListLogin k = kind_fields k ≡ some login_fields

pub list_logins : EachFrom ListLogin 0x0601 5
unfolding kind_fields fields_in kinds
list_logins = (refl, (refl, (refl, (refl, (refl, tt)))))

-- ---- 0401: two strings, the second behind the first

abbrev pub user_fields : List FieldType
user_fields = staff_number ∷ password ∷ password ∷ user_name ∷ user_info ∷ []

pub user-content : (k : ℕ) (body : List ℕ) → k ≡ 0x0401 → {login : Login} {p2 : ℕ} {name info : Span}
    → Read (Login × ℕ × Span × Span) (login, p2, name, info) user_fields body (login_at body, number_in body 12 8, span_at body 20, span_at body (22 + number_in body 20 2))
    → content 0x0401 (login_values login (number_value p2 ∷ span_value body name ∷ span_value body info ∷ [])) ≡ body_content k (kind_fields k) body
unfolding kind_fields fields_in kinds field_values field_end
user-content k body e {login} {p2} {name} {info} q =
    let All : Type 0 = Login × ℕ × Span × Span in
    let r = was_true {A = All} (fields_fit user_fields body 0) (login_at body, number_in body 12 8, span_at body 20, span_at body (22 + number_in body 20 2)) q in
    let third = rest-fits password (password ∷ user_name ∷ user_info ∷ []) body 4 (rest-fits staff_number (password ∷ password ∷ user_name ∷ user_info ∷ []) body 0 r.0) in
    let fourth = rest-fits password (user_name ∷ user_info ∷ []) body 12 third in
    let fifth = rest-fits user_name (user_info ∷ []) body 20 fourth in
    fit-content k 0x0401 user_fields body e refl _ r.0
    (login-values (password ∷ user_name ∷ user_info ∷ []) body _ login (ap (λ (p : All). p.0) r.1)
    (number_values (user_name ∷ user_info ∷ []) body _ 8 0 (2 ^ 64 - 1) p2 12 (ap (λ (p : All). p.1) r.1)
    (span-values (user_info ∷ []) body _ 24 20 name (first_fits user_name (user_info ∷ []) body 20 fourth) (ap (λ (p : All). p.2) r.1)
    (span-values [] body [] 56 (22 + number_in body 20 2) info (first_fits user_info [] body (22 + number_in body 20 2) fifth) (ap (λ (p : All). p.3) r.1) refl))))

-- ---- a whole message

pub bad_frame : (msg : List ℕ) → is_frame msg ≡ false → content 3 [] ≡ message_content msg
unfolding message_content
bad_frame msg f = rw f

-- a whole frame has the content of its kind and body
module _ (msg : List ℕ) (f : is_frame msg ≡ true) (k : ℕ) (body : List ℕ) (q : k ≡ kind_of msg) (b : body ≡ body_of msg) where
  pub frame-content : body_content k (kind_fields k) body ≡ message_content msg
  unfolding message_content
  frame-content = ap₂ (λ (x : ℕ) (y : List ℕ). body_content x (kind_fields x) y) q b ∙ sym (rw f refl)

  pub message-content : (r : Result Message Refusal) → read_content body r ≡ body_content k (kind_fields k) body → read_content (body_of msg) r ≡ message_content msg
  message-content r m = ap (λ (x : List ℕ). read_content x r) (sym b) ∙ m ∙ frame-content
