-- `fields_of` meets its contract: each arm has the fields that the table of kinds has for its kind, and a kind in no arm is unknown.
use native.Mathlib.Omega.{arith}
use mathlib.Core.Path.{ap}
use Rattle.reader.specs.Kinds.{kind_fields, fields_in, kinds}
use Rattle.reader.proofs.KindLaws.{each_between, unknown_kind_lem}
use Rattle.reader.proofs.MessageLaws.{ReadTarget, read_targets, ListLogin, list_logins}
use Rattle.writer.proofs.table.fields_of.Goals as goal
use Rattle.writer.proofs.table.fields_of.Goals.{in_default-via-then-kind-lt1281, in_default-via-else-kind-lt1281+else-kind-lt1291+then-kind-lt1537, in_default-via-else-kind-lt1281+else-kind-lt1291+else-kind-lt1537+else-kind-lt1542}

pub returns-in-257 : goal.returns-in-257
unfolding kind_fields fields_in kinds
returns-in-257 c = ap kind_fields c.in-257.is

pub returns-in-513 : goal.returns-in-513
unfolding kind_fields fields_in kinds
returns-in-513 c = ap kind_fields c.in-513.is

pub returns-in-514 : goal.returns-in-514
unfolding kind_fields fields_in kinds
returns-in-514 c = ap kind_fields c.in-514.is

pub returns-in-515 : goal.returns-in-515
unfolding kind_fields fields_in kinds
returns-in-515 c = ap kind_fields c.in-515.is

pub returns-in-516 : goal.returns-in-516
unfolding kind_fields fields_in kinds
returns-in-516 c = ap kind_fields c.in-516.is

pub returns-in-517 : goal.returns-in-517
unfolding kind_fields fields_in kinds
returns-in-517 c = ap kind_fields c.in-517.is

pub returns-in-769 : goal.returns-in-769
unfolding kind_fields fields_in kinds
returns-in-769 c = ap kind_fields c.in-769.is

pub returns-in-1025 : goal.returns-in-1025
unfolding kind_fields fields_in kinds
returns-in-1025 c = ap kind_fields c.in-1025.is

pub returns-in-1026 : goal.returns-in-1026
unfolding kind_fields fields_in kinds
returns-in-1026 c = ap kind_fields c.in-1026.is

pub returns-in-1027 : goal.returns-in-1027
unfolding kind_fields fields_in kinds
returns-in-1027 c = ap kind_fields c.in-1027.is

pub returns-in-1028 : goal.returns-in-1028
unfolding kind_fields fields_in kinds
returns-in-1028 c = ap kind_fields c.in-1028.is

pub returns-in-1029 : goal.returns-in-1029
unfolding kind_fields fields_in kinds
returns-in-1029 c = ap kind_fields c.in-1029.is

pub returns-in-1283 : goal.returns-in-1283
unfolding kind_fields fields_in kinds
returns-in-1283 c = ap kind_fields c.in-1283.is

pub returns-in-1542 : goal.returns-in-1542
unfolding kind_fields fields_in kinds
returns-in-1542 c = ap kind_fields c.in-1542.is

pub returns-in-1281-to-1290 : goal.returns-in-1281-to-1290
returns-in-1281-to-1290 c =
    each_between ReadTarget 0x0501 10 read_targets c.args.kind (omega arith) (omega arith) (omega arith)

pub returns-in-1537-to-1541 : goal.returns-in-1537-to-1541
returns-in-1537-to-1541 c = each_between ListLogin 0x0601 5 list_logins c.args.kind (omega arith) (omega arith)

pub returns-in_default : goal.returns-in_default
unfolding kinds
returns-in_default c =
    let k = c.args.kind in
    elim c.in_default.branch [
      | in_default-via-then-kind-lt1281 w ↦ unknown_kind_lem k 0 0x0500 (omega arith) (omega arith) (omega arith, (omega arith, (omega arith, (omega arith, (omega arith, (omega arith, (omega arith, (omega arith, (omega arith, (omega arith, (omega arith, (omega arith, tt))))))))))))
      | in_default-via-else-kind-lt1281+else-kind-lt1291+then-kind-lt1537 w ↦ unknown_kind_lem k 0x050b 0x0600 (omega arith) (omega arith) tt
      | in_default-via-else-kind-lt1281+else-kind-lt1291+else-kind-lt1537+else-kind-lt1542 w ↦ unknown_kind_lem k 0x0606 0xffff_ffff (omega arith) (omega arith) (omega arith, tt)
    ]
