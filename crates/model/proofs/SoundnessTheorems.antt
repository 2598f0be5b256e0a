-- A board is sound exactly if it is the board of a state that fits and keeps the rules.
use Prim.Native.Nat.{ℕ, ◌<◌}
use native.Mathlib.Omega.{arith}
use mathlib.Core.Path.{◌≡◌, refl, sym, ap, ◌∙◌}
use mathlib.Core.Logic.{◌↔◌}
use mathlib.Core.List.{List}
use mathlib.Core.Bool.{Bool, true, false, ◌&&◌, ◌||◌, not, and_assoc, and-true}
use lib.ListN.{length, get_or, replicate}
use lib.Dec.{eqb, lit<}
use lib.Pow.{are_bytes}
use borrow.Author.Tests.{eqb-true, eqb-false, eq-eqb, ne_eqb}
use borrow.Table.Steps.{cases}
use Rattle.layout.specs.Bytes.{all_zero}
use Rattle.layout.proofs.BooleanLaws.{and_left, and_right, and_both}
use Rattle.layout.proofs.ByteLaws.{zero-replicate, replicate-zero}
use Rattle.model.specs.Lists.{for_all, all_true}
use Rattle.model.specs.State.{State, empty_state}
use Rattle.model.specs.Board.{board_size, BoardRecords, cut_board, join_records, records_of, user_count, encode, decode, empty_board}
use Rattle.model.specs.Soundness.{counts_within_limits, record_clauses, state_clauses, zero_without_users, clause_results, is_sound}
use Rattle.model.proofs.StateRules.{state_fits, nothing_without_users, keeps_rules}
use Rattle.model.proofs.ListLaws.{all_at}
use Rattle.model.proofs.CutLaws.{join_cut}
use Rattle.model.proofs.BoardTheorems.{Encodes, FittingState, fitting, fits-state, user-count, length-encode, cut-encode, decode-encode}
use Rattle.model.proofs.SoundnessLaws.{counts_hold, unused_hold, strings_hold, filler_hold, RecordsHold, cut-bytes, records_state, state-fits}
use Rattle.model.proofs.RuleLaws.{with_users_lem}
use Rattle.model.proofs.EmptyBoard.{empty-encoded, empty-fits, empty_nothing, empty-keeps, no_users}

-- ---- the clauses joined

module _ (b : List ℕ) where
  length_right : Bool
  length_right = eqb (length b) board_size

  records_hold : Bool
  records_hold = for_all (λ (clause : BoardRecords → Bool). clause (cut_board b)) record_clauses

  state-holds : Bool
  state-holds = for_all (λ (clause : State → Bool). clause (decode b)) state_clauses

  pub sound_chain : is_sound b
      ≡ (eqb (length b) board_size
      && (for_all (λ (clause : BoardRecords → Bool). clause (cut_board b)) record_clauses
      && (for_all (λ (clause : State → Bool). clause (decode b)) state_clauses && (zero_without_users b && true))))
  unfolding is_sound clause_results all_true for_all
  sound_chain = simp (and_assoc, and-true)

  pub record SoundParts : Type 0 where
    pub length_part : length b ≡ board_size
    pub record-part : for_all (λ (clause : BoardRecords → Bool). clause (cut_board b)) record_clauses ≡ true
    pub state-part : for_all (λ (clause : State → Bool). clause (decode b)) state_clauses ≡ true
    pub zero-part : zero_without_users b ≡ true

  pub sound_parts : is_sound b ≡ true → SoundParts
  unfolding length_right records_hold state-holds
  sound_parts e =
      let e₀ = sym sound_chain ∙ e in
      let e₁ = and_right length_right (records_hold && (state-holds && (zero_without_users b && true))) e₀ in
      let e₂ = and_right records_hold (state-holds && (zero_without_users b && true)) e₁ in
      let e₃ = and_right state-holds (zero_without_users b && true) e₂ in
      record {
        length_part = eqb-true (length b) board_size (and_left length_right (records_hold && (state-holds && (zero_without_users b && true))) e₀);
        record-part = and_left records_hold (state-holds && (zero_without_users b && true)) e₁;
        state-part = and_left state-holds (zero_without_users b && true) e₂;
        zero-part = and_left (zero_without_users b) true e₃;
      }

  pub sound_by : SoundParts → is_sound b ≡ true
  sound_by p =
      sound_chain
      ∙ and_both (eq-eqb (length b) board_size p.length_part) (and_both p.record-part (and_both p.state-part (and_both p.zero-part refl)))

  -- a board of another length is not sound
  pub wrong-length : (length b ≡ board_size → ⊥) → is_sound b ≡ false
  unfolding records_hold state-holds
  wrong-length n =
      sound_chain ∙ ap (λ (t : Bool). t && (records_hold && (state-holds && (zero_without_users b && true)))) (ne_eqb (length b) board_size n)

-- ---- with no users

module _ (s : State) (f : FittingState s) where
  no_count : (t : Bool) → eqb (length s.users) 0 ≡ t → zero_without_users (encode s) ≡ (not t || all_zero (encode s))
  unfolding zero_without_users
  no_count t e =
      ap (λ (n : ℕ). not (eqb n 0) || all_zero (encode s)) (ap user_count (cut-encode s f) ∙ user-count s f)
      ∙ ap (λ (u : Bool). not u || all_zero (encode s)) e

  -- a board of zeros is that of the empty state
  zeros-empty : all_zero (encode s) ≡ true → s ≡ empty_state
  unfolding empty_board
  zeros-empty z =
      let b : encode s ≡ encode empty_state = zero-replicate (encode s) z ∙ ap (λ (n : ℕ). replicate n 0) (length-encode s f) ∙ sym empty-encoded in
      sym (decode-encode s f) ∙ ap decode b ∙ decode-encode empty_state (fitting empty_state empty-fits)

  zero-rule : zero_without_users (encode s) ≡ true → nothing_without_users s ≡ true
  zero-rule h =
      cases (eqb (length s.users) 0)
      (λ e. ap nothing_without_users (zeros-empty (sym (no_count true e) ∙ h)) ∙ empty_nothing)
      (λ e. let n = eqb-false (length s.users) 0 e in with_users_lem s (omega arith))

  zero-bytes : nothing_without_users s ≡ true → zero_without_users (encode s) ≡ true
  unfolding empty_board
  zero-bytes h =
      cases (eqb (length s.users) 0)
      (λ e. no_count true e ∙ ap (λ (t : State). all_zero (encode t)) (no_users s f h (eqb-true (length s.users) 0 e))
      ∙ ap all_zero empty-encoded ∙ replicate-zero board_size)
      (λ e. no_count false e)

-- ---- the theorems

-- the board of a state that fits and keeps the rules is sound
pub sound-encode : (s : State) → state_fits s ≡ true → keeps_rules s ≡ true → is_sound (encode s) ≡ true
unfolding keeps_rules for_all
sound-encode s g k =
    let f = fitting s g in
    let clauses : Bool = for_all (λ (rule : State → Bool). rule s) state_clauses in
    let holds : for_all (λ (clause : BoardRecords → Bool). clause (records_of s)) record_clauses ≡ true =
    simp (counts_hold s f, unused_hold s f, strings_hold s f, filler_hold s f)
    in
    sound_by (encode s) (record {
      length_part = length-encode s f;
      record-part = ap (λ (r : BoardRecords). for_all (λ (clause : BoardRecords → Bool). clause r) record_clauses) (cut-encode s f) ∙ holds;
      state-part = ap (λ (t : State). for_all (λ (clause : State → Bool). clause t) state_clauses) (decode-encode s f)
          ∙ and_right (nothing_without_users s) clauses k;
      zero-part = zero-bytes s f (and_left (nothing_without_users s) clauses k);
    })

-- a board whose clauses about bytes hold is the board of its state, which fits
pub records_encode : (b : List ℕ) → are_bytes b ≡ true → length b ≡ board_size → RecordsHold (cut_board b) → Encodes b (decode b)
unfolding encode decode
records_encode b y l h =
    let g = cut-bytes b y l in
    record { bytes = sym (ap join_records (records_state (cut_board b) g h) ∙ join_cut b l); fits = state-fits (cut_board b) g h }

-- a sound board is the board of its state, which fits and keeps the rules
pub record SoundState (b : List ℕ) : Type 0 where
  pub encoded : Encodes b (decode b)
  pub keeps : keeps_rules (decode b) ≡ true

pub sound-state : (b : List ℕ) → are_bytes b ≡ true → is_sound b ≡ true → SoundState b
unfolding keeps_rules for_all
sound-state b y e =
    let p = sound_parts b e in
    let at : (i : ℕ) → i < 4 → get_or record_clauses i counts_within_limits (cut_board b) ≡ true = λ i h.
    all_at (λ (clause : BoardRecords → Bool). clause (cut_board b)) record_clauses i counts_within_limits p.record-part h
    in
    let h : RecordsHold (cut_board b) =
    record { counts = at 0 (lit< tt); unused = at 1 (lit< tt); strings = at 2 (lit< tt); filler = at 3 (lit< tt) }
    in
    let w = records_encode b y p.length_part h in
    record {
      encoded = w;
      keeps = and_both (zero-rule (decode b) w.fits (ap zero_without_users (sym w.bytes) ∙ p.zero-part)) p.state-part;
    }

pub sound_exactly : (b : List ℕ) → are_bytes b ≡ true
    → (is_sound b ≡ true) ↔ ((s : State) × (state_fits s ≡ true) × (keeps_rules s ≡ true) × (encode s ≡ b))
sound_exactly b y = (
  λ e. let t = sound-state b y e in (decode b, fits-state (decode b) t.encoded.fits, t.keeps, sym t.encoded.bytes),
  λ t. ap is_sound (sym t.3) ∙ sound-encode t.0 t.1 t.2,
)

-- "All zeros is the empty board": it is sound
pub empty-sound : is_sound empty_board ≡ true
empty-sound = ap is_sound (sym empty-encoded) ∙ sound-encode empty_state empty-fits empty-keeps
