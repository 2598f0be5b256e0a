-- `read_message` meets its contract: a whole frame has the content of its kind and body (`message-content`), which the family's reader gives;
-- a kind in a gap between the families is unknown (`unknown_kind_lem`).
use Prim.Native.Nat.{ℕ, ◌≤◌}
use native.Mathlib.Omega.{arith}
use mathlib.Core.Path.{◌≡◌, refl, sym, ap, ◌∙◌}
use mathlib.Core.List.{List, []}
use Rattle.std.specs.Prelude.{Option, Result, Err, MatchOption}
use Rattle.std.specs.Option.{ok_or}
use Rattle.layout.proofs.BooleanLaws.{test_fails, test_holds}
use Rattle.reader.specs.Frames.{body_of}
use Rattle.reader.specs.Kinds.{kinds, kind_fields}
use Rattle.reader.specs.Messages.{content, enum_content, read_content, body_content, message_content}
use Rattle.reader.specs.declared.Message.{Message}
use Rattle.reader.specs.declared.Refusal.{Refusal}
use Rattle.reader.specs.declared.Refusal.TheVariants.{Kind, Body}
use Rattle.reader.proofs.KindLaws.{NoneIs, entries_between, unknown_kind_lem}
use Rattle.reader.proofs.MessageLaws.{bad_frame, family-content, message-content, unknown_content}
use Rattle.reader.proofs.read_message.Goals as goal
use Rattle.reader.proofs.read_message.Goals.{After-body-body, After-ok_or, in-257, in-769, in-513-to-517, in-1025-to-1029, in-1281-to-1290, in-1537-to-1542}

abbrev message : After-body-body → List ℕ
message c = c.args.msg.now

whole : (c : After-body-body) (r : Result Message Refusal) →
    read_content c.body-body.result.now r ≡ body_content c.kind-kind.result (kind_fields c.kind-kind.result) c.body-body.result.now
    → read_content (body_of (message c)) r ≡ message_content (message c)
whole c r m =
    message-content (message c) (test_holds c.is_frame.ensures c.if-not-is_frame.false)
    c.kind-kind.result c.body-body.result.now c.kind-kind.ensures c.body-body.ensures r m

unknown : (c : After-body-body) (lo hi : ℕ) → lo ≤ c.kind-kind.result → c.kind-kind.result ≤ hi
    → NoneIs c.kind-kind.result (entries_between lo hi kinds) → read_content (body_of (message c)) (Err Kind) ≡ message_content (message c)
unknown c lo hi l h n = whole c (Err Kind) (unknown_content c.kind-kind.result c.body-body.result.now (unknown_kind_lem c.kind-kind.result lo hi l h n))

-- what the reader of a family has given; a family of one kind is called without it
family : (c : After-body-body) (k : ℕ) (o : Option Message) {r : Result Message Refusal} → c.kind-kind.result ≡ k
    → MatchOption o (content 5 [] ≡ body_content k (kind_fields k) c.body-body.result.now)
    (λ (m : Message). enum_content c.body-body.result.now m ≡ body_content k (kind_fields k) c.body-body.result.now)
    → r ≡ ok_or o Body → read_content (body_of (message c)) r ≡ message_content (message c)
family c k o {r} e h q =
    whole c r (family-content c.body-body.result.now o h q ∙ ap (λ (x : ℕ). body_content x (kind_fields x) c.body-body.result.now) (sym e))

-- the result, made of what an arm has left
given : (c : After-ok_or) {o : Option Message} → c.match-kind.message ≡ o → c.ok_or.result ≡ ok_or o Body
given c e = c.ok_or.ensures.value ∙ ap (λ (o : Option Message). ok_or o Body) e

pub returns-then-not-is_frame : goal.returns-then-not-is_frame
returns-then-not-is_frame c = bad_frame c.args.msg.now (test_fails c.is_frame.ensures c.if-not-is_frame.true)

-- each arm leaves what its family's reader has given
pub returns : goal.returns
returns c =
    let start = (goal.at.returns c).After-body-body in
    elim c.match-kind.branch [
      | in-257 w ↦ family start 0x0101 _ w.in-257.is w.start_action-message.ensures (given c w.message-is)
      | in-769 w ↦ family start 0x0301 _ w.in-769.is w.deletion_action-message.ensures (given c w.message-is)
      | in-513-to-517 w ↦ family start _ _ refl w.creation_action-message.ensures (given c w.message-is)
      | in-1025-to-1029 w ↦ family start _ _ refl w.update_action-message.ensures (given c w.message-is)
      | in-1281-to-1290 w ↦ family start _ _ refl w.reading_action-message.ensures (given c w.message-is)
      | in-1537-to-1542 w ↦ family start _ _ refl w.listing_action-message.ensures (given c w.message-is)
    ]

pub returns-in_default : goal.returns-in_default
unfolding kinds
returns-in_default c =
    unknown (goal.at.returns-in_default c).After-body-body 0 0x0200 (omega arith) (omega arith) (omega arith, tt)

pub returns-in_default-2 : goal.returns-in_default-2
unfolding kinds
returns-in_default-2 c =
    unknown (goal.at.returns-in_default-2 c).After-body-body 0x0206 0x0400 (omega arith) (omega arith) (omega arith, tt)

pub returns-in_default-3 : goal.returns-in_default-3
unfolding kinds
returns-in_default-3 c = unknown (goal.at.returns-in_default-3 c).After-body-body 0x0406 0x0500 (omega arith) (omega arith) tt

pub returns-in_default-4 : goal.returns-in_default-4
unfolding kinds
returns-in_default-4 c = unknown (goal.at.returns-in_default-4 c).After-body-body 0x050b 0x0600 (omega arith) (omega arith) tt

pub returns-in_default-5 : goal.returns-in_default-5
unfolding kinds
returns-in_default-5 c =
    unknown (goal.at.returns-in_default-5 c).After-body-body 0x0607 0xffff (omega arith)
    (omega (arith, c.kind-kind.type_inv)) tt
