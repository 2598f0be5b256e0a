-- Kernels as the step but for one leak, of which the claim is false: two journals that meet its hypotheses are told apart.
-- By 8, who may not read the post:
--     read_leaks      0505 answers the text to every registered user
--     length_leaks    the refusal of 0505 has the length of the text behind it
--     list_leaks      the answer of 0603 has the lengths of the texts behind it
--     count_leaks     .. has the number of text updates behind it
-- By 7, who may read the post since an opening, though the last text before it is the same:
--     older_leaks     the answer of 0505 has the text before the last update behind it
--     edits_leaks     .. has the number of updates of that text behind it
use Prim.Native.Nat.{ℕ, suc}
use mathlib.Core.Path.{refl}
use mathlib.Core.List.{List, [], ◌++◌, map, flatten}
use mathlib.Core.Bool.{Bool, cond, ◌&&◌}
use lib.ListN.{length}
use lib.Dec.{eqb}
use Rattle.layout.specs.Numbers.{to_le_bytes}
use Rattle.layout.specs.StringFields.{string_bytes}
use Rattle.reader.specs.Frames.{kind_of, body_of, frame_bytes}
use Rattle.reader.specs.Messages.{message_content}
use Rattle.model.specs.State.{Post, State, empty_state}
use Rattle.model.specs.Lookups.{post_numbered}
use Rattle.model.specs.Step.{Response, step_state}
use Rattle.model.proofs.CaseTable.{login}
use Rattle.confidentiality.specs.Traces.{is_accepted}
use Rattle.confidentiality.specs.History.{target_field}
use Rattle.confidentiality.specs.Confidentiality.{Confidential}
use Rattle.confidentiality.proofs.Definitions.{claim_definitions}
use Rattle.confidentiality.proofs.Witnesses.{MarkedJournal, only_user, created, register8, read_by8, purged_text, no_text, told_apart, no_opening, answer_byte, refuted, opened₁, opened₂}

-- ---- the kernels

-- whether a message of this kind gets this number
abbrev pub gets_number : ℕ → ℕ → List ℕ → Response State → Bool
gets_number kind number m r = eqb (kind_of m) kind && eqb r.number number

-- the post that a 0403 or a 0505 is about, and its text
abbrev pub post_of : List ℕ → ℕ
post_of m = target_field (message_content m)

abbrev pub text_of : List ℕ → State → List ℕ
text_of m s = (post_numbered s (post_of m)).text

-- a response with another number and body
abbrev pub answering : ℕ → List ℕ → Response State → Response State
answering number body r = record { number = number; answer = frame_bytes number body; state = r.state }

-- a 0505 of somebody who is not entitled is accepted
unfoldable pub leak_read : List ℕ → State → Response State
leak_read m s =
    let r : Response State = step_state m s in
    cond (gets_number 0x0505 10 m r) (answering 0 (string_bytes (text_of m s)) r) r

-- .. is refused, with the length of the text
unfoldable pub leak_length : List ℕ → State → Response State
leak_length m s =
    let r : Response State = step_state m s in
    cond (gets_number 0x0505 10 m r) (answering 10 (to_le_bytes 2 (length (text_of m s))) r) r

-- a list of posts has the length of each text behind it
unfoldable pub leak_list : List ℕ → State → Response State
leak_list m s =
    let r : Response State = step_state m s in
    let lengths : List ℕ = flatten (map (λ (p : Post). to_le_bytes 2 (length p.text)) s.posts) in
    cond (gets_number 0x0603 0 m r) (answering 0 (body_of r.answer ++ lengths) r) r

-- a kernel that holds a value beside the board: an accepted 0403 changes it, and the answer to an accepted message of a kind has it behind it
module _ {A : Type 0} (kind : ℕ) (changed : List ℕ → State → A → A) (shown : List ℕ → A → List ℕ) where
  unfoldable pub leak_beside : List ℕ → State × A → Response (State × A)
  leak_beside m s =
      let r : Response State = step_state m s.0 in
      record {
        number = r.number;
        answer = cond (gets_number kind 0 m r) (frame_bytes 0 (body_of r.answer ++ shown m s.1)) r.answer;
        state = (r.state, cond (gets_number 0x0403 0 m r) (changed m s.0 s.1) s.1);
      }

-- whether the table accepts a message there
abbrev pub accepts_beside : {A : Type 0} → List ℕ → State × A → Bool
accepts_beside m s = is_accepted m s.0

-- a list of posts has the number of all text updates so far behind it
abbrev pub leak_count : List ℕ → State × ℕ → Response (State × ℕ)
leak_count = leak_beside 0x0603 (λ m s count. suc count) (λ m count. to_le_bytes 4 count)

-- a text has the one before its last update behind it: the value is that older text, for each post
abbrev pub leak_older : List ℕ → State × (ℕ → List ℕ) → Response (State × (ℕ → List ℕ))
leak_older =
    leak_beside 0x0505 (λ m s older n. cond (eqb n (post_of m)) (text_of m s) (older n)) (λ m older. string_bytes (older (post_of m)))

-- .. has the number of its updates behind it: the value is that number, for each post
abbrev pub leak_edits : List ℕ → State × (ℕ → ℕ) → Response (State × (ℕ → ℕ))
leak_edits =
    leak_beside 0x0505 (λ m s edits n. cond (eqb n (post_of m)) (suc (edits n)) (edits n)) (λ m edits. to_le_bytes 4 (edits (post_of m)))

-- ---- the journals

-- post 50 is closed to 8, no friend of 9; it gets a text, purged, or none, and 8 sends a last message
abbrev closed_text : List ℕ → MarkedJournal
closed_text last = purged_text (created ++ register8) last

abbrev closed_no_text : List ℕ → MarkedJournal
closed_no_text last = no_text (created ++ register8) last

abbrev asks_list : List ℕ
asks_list = login 0x0603 8 2

-- ---- the claim is false of each

-- told apart by the second answer that 8 gets
pub read_leaks : Confidential is_accepted leak_read empty_state → ⊥
unfolding claim_definitions leak_read
read_leaks =
    refuted is_accepted leak_read empty_state (only_user 8) (closed_text read_by8) (closed_no_text read_by8)
    (record { purged₁ = refl; purged₂ = refl; same_bytes = refl }, ((λ e f. absurd (no_opening e)), tt), told_apart (answer_byte 1 0) _ _ refl)

pub length_leaks : Confidential is_accepted leak_length empty_state → ⊥
unfolding claim_definitions leak_length
length_leaks =
    refuted is_accepted leak_length empty_state (only_user 8) (closed_text read_by8) (closed_no_text read_by8)
    (record { purged₁ = refl; purged₂ = refl; same_bytes = refl }, ((λ e f. absurd (no_opening e)), tt), told_apart (answer_byte 1 4) _ _ refl)

pub list_leaks : Confidential is_accepted leak_list empty_state → ⊥
unfolding claim_definitions leak_list
list_leaks =
    refuted is_accepted leak_list empty_state (only_user 8) (closed_text asks_list) (closed_no_text asks_list)
    (record { purged₁ = refl; purged₂ = refl; same_bytes = refl }, ((λ e f. absurd (no_opening e)), tt), told_apart (answer_byte 1 14) _ _ refl)

pub count_leaks : Confidential accepts_beside leak_count (empty_state, 0) → ⊥
unfolding claim_definitions leak_beside
count_leaks =
    refuted accepts_beside leak_count (empty_state, 0) (only_user 8) (closed_text asks_list) (closed_no_text asks_list)
    (record { purged₁ = refl; purged₂ = refl; same_bytes = refl }, ((λ e f. absurd (no_opening e)), tt), told_apart (answer_byte 1 14) _ _ refl)

-- told apart by the fourth answer that 7 gets, to the 0505 after the opening: behind the text 68 it has 65 or 67
pub older_leaks : Confidential accepts_beside leak_older (empty_state, (λ n. [])) → ⊥
unfolding claim_definitions leak_beside
older_leaks =
    refuted accepts_beside leak_older (empty_state, (λ n. [])) (only_user 7) opened₁ opened₂
    (record { purged₁ = refl; purged₂ = refl; same_bytes = refl }, ((λ e f. refl), tt), told_apart (answer_byte 3 9) _ _ refl)

-- .. it has 2 or 3
pub edits_leaks : Confidential accepts_beside leak_edits (empty_state, (λ n. 0)) → ⊥
unfolding claim_definitions leak_beside
edits_leaks =
    refuted accepts_beside leak_edits (empty_state, (λ n. 0)) (only_user 7) opened₁ opened₂
    (record { purged₁ = refl; purged₂ = refl; same_bytes = refl }, ((λ e f. refl), tt), told_apart (answer_byte 3 7) _ _ refl)
