-- Proof that `next_record` meets its contract.
use Rattle.std.proofs.Common.{rules, refl, sym, subst}
use Rattle.csv.specs.Records.{fields_of}
use Rattle.keyfile.specs.Inside.{EndsBefore}
use Rattle.keyfile.proofs.ReadLemmas.{read-more, read-end, read-failed}
use Rattle.keyfile.proofs.records.next_record.Goals as goal

pub returns-in-Ok-true-clause-more : goal.returns-in-Ok-true-clause-more
returns-in-Ok-true-clause-more g c bytes records after =
    let read = rw c.in-Ok-true.field-0-test at (c.in-Ok-true.ensures.reads after.trim after.ready) in
    read-more g.R.Read.remaining c.args.file.now c.read_byte_record-read.new.self bytes records (fields_of c.read_byte_record-read.new.row) after read (search rules) (search rules)

pub returns-in-Ok-false-clause-whole : goal.returns-in-Ok-false-clause-whole
returns-in-Ok-false-clause-whole g c bytes records after =
    let read = rw c.in-Ok-false.field-0-test at (c.in-Ok-false.ensures.reads after.trim after.ready) in
    read-end g.R.Read.remaining c.args.file.now c.read_byte_record-read.new.self bytes records (fields_of c.read_byte_record-read.new.row) after read

pub returns-in-Err-clause-err : goal.returns-in-Err-clause-err
returns-in-Err-clause-err g c bytes records after =
    let failed = read-failed g.R.Read.remaining c.args.file.now c.read_byte_record-read.new.self bytes records c.in-Err.error.kind after (c.in-Err.ensures.why after.ready) in
    (refl, subst (EndsBefore bytes records) (sym c.flaw_of.ensures.flaw) failed)
