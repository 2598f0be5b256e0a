-- The cases of the enum `Message` as words: a law for each list of values that several cases have.
use Prim.Native.Nat.{ℕ}
use mathlib.Core.Path.{◌≡◌, refl, sym, ap, ◌∙◌}
use mathlib.Core.List.{List, [], ◌∷◌}
use mathlib.Core.Option.{Option, some}
use Rattle.reader.specs.Fields.{FieldType, uint, string, staff_number, password, number_value}
use Rattle.reader.specs.Kinds.{kind_fields, fields_in, kinds}
use Rattle.reader.specs.Messages.{Content, content, login_values, span_value, enum_content}
use Rattle.reader.specs.declared.Login.{Login}
use Rattle.reader.specs.declared.Span.{Span}
use Rattle.reader.specs.declared.Refusal.{Refusal}
use Rattle.reader.specs.declared.Refusal.TheVariants.{Frame, Kind, Body}
use Rattle.reader.specs.declared.Message.{Message}
use Rattle.reader.specs.declared.Message.TheVariants.{Refused}
use Rattle.writer.specs.Encoding.{WriteResult, result, encode_fields, encode_of}
use Rattle.writer.specs.Table.{Says}
use Rattle.writer.specs.Words.{word_count, word_value, word_values, listed_fields, word_content}

-- what was written of the words of a case was written of the message that is this case
pub case_written : (lent b : List ℕ) (k : ℕ) (ws : List ℕ) {r : WriteResult} {m n : Message} → r ≡ encode_of (word_content lent k ws) b → m ≡ n → Says k ws n
    → r ≡ encode_of (enum_content lent m) b
case_written lent b k ws e t s = e ∙ ap (λ (c : Content). encode_of c b) (s lent ∙ ap (enum_content lent) (sym t))

-- no frame carries a refusal
pub refusal_written : (lent b : List ℕ) (refusal : Refusal) → result 5 0 b ≡ encode_of (enum_content lent (Refused refusal)) b
unfolding encode_of enum_content encode_fields kind_fields fields_in kinds
refusal_written lent b Frame = refl
refusal_written lent b Kind = refl
refusal_written lent b Body = refl

-- the content of words, for the fields that a kind has
by_fields : (lent : List ℕ) (k : ℕ) (ws : List ℕ) {fs : List FieldType} → kind_fields k ≡ some fs → word_content lent k ws ≡ content k (word_values lent fs ws)
unfolding word_content listed_fields
by_fields lent k ws e = ap (λ (o : Option (List FieldType)). content k (word_values lent (listed_fields o) ws)) e

module _ (k : ℕ) (l : Login) where
  pub login_says : kind_fields k ≡ some (staff_number ∷ password ∷ []) → (lent : List ℕ)
      → word_content lent k (l.user ∷ l.password ∷ []) ≡ content k (login_values l [])
  unfolding word_values word_value word_count
  login_says e lent = by_fields lent k (l.user ∷ l.password ∷ []) e

  module _ (n : ℕ) where
    pub target_says : kind_fields k ≡ some (staff_number ∷ password ∷ staff_number ∷ []) → (lent : List ℕ)
        → word_content lent k (l.user ∷ l.password ∷ n ∷ []) ≡ content k (login_values l (number_value n ∷ []))
    unfolding word_values word_value word_count
    target_says e lent = by_fields lent k (l.user ∷ l.password ∷ n ∷ []) e

    pub number_says : (x : ℕ) {w least greatest : ℕ} → kind_fields k ≡ some (staff_number ∷ password ∷ staff_number ∷ uint w least greatest ∷ [])
        → (lent : List ℕ) → word_content lent k (l.user ∷ l.password ∷ n ∷ x ∷ []) ≡ content k (login_values l (number_value n ∷ number_value x ∷ []))
    unfolding word_values word_value word_count
    number_says x e lent = by_fields lent k (l.user ∷ l.password ∷ n ∷ x ∷ []) e

    pub string_says : (s : Span) {limit : ℕ} → kind_fields k ≡ some (staff_number ∷ password ∷ staff_number ∷ string limit ∷ []) → (lent : List ℕ)
        → word_content lent k (l.user ∷ l.password ∷ n ∷ s.start ∷ s.len ∷ []) ≡ content k (login_values l (number_value n ∷ span_value lent s ∷ []))
    unfolding word_values word_value word_count
    string_says s e lent = by_fields lent k (l.user ∷ l.password ∷ n ∷ s.start ∷ s.len ∷ []) e

-- 0201: U and a note
pub request_says : (user : ℕ) (note : Span) (lent : List ℕ)
    → word_content lent 0x0201 (user ∷ note.start ∷ note.len ∷ []) ≡ content 0x0201 (number_value user ∷ span_value lent note ∷ [])
unfolding word_values word_value word_count kind_fields fields_in kinds
request_says user note lent = by_fields lent 0x0201 (user ∷ note.start ∷ note.len ∷ []) refl

-- 0401: U P, a new password, a name and an info
pub user_says : (l : Login) (password : ℕ) (name info : Span) (lent : List ℕ)
    → word_content lent 0x0401 (l.user ∷ l.password ∷ password ∷ name.start ∷ name.len ∷ info.start ∷ info.len ∷ [])
    ≡ content 0x0401 (login_values l (number_value password ∷ span_value lent name ∷ span_value lent info ∷ []))
unfolding word_values word_value word_count kind_fields fields_in kinds
user_says l password name info lent =
    by_fields lent 0x0401 (l.user ∷ l.password ∷ password ∷ name.start ∷ name.len ∷ info.start ∷ info.len ∷ []) refl
