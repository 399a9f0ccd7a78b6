-- Proof that `next_row` meets its contract.
use Rattle.std.proofs.Common.{inl, inr, ap}
use Rattle.csv.specs.Records.{fields_of}
use Rattle.keyfile.specs.Faults.{is_stop}
use Rattle.keyfile.proofs.StandLemmas.{passed-on, stands-ended, stands-more, stands-stopped, stands-told}
use Rattle.keyfile.proofs.format.next_row.Goals as goal

pub returns-in_err-raw-clause-err : goal.returns-in_err-raw-clause-err
returns-in_err-raw-clause-err g c bytes rows st =
    let format = g.F.FileFormat.format c.args.format.now in
    let fault = c.in_err-raw.field-0.0 in
    let ended = c.in_err-raw.ensures.err bytes st.records st.after in
    passed-on format bytes c.from_residual.result fault c.from_residual.ensures.1 (stands-ended format g.R.Read.remaining bytes c.args.number rows c.args.file.now st fault ended.0 ended.1)

pub returns-in_err-at_record-in-Some-clause-err : goal.returns-in_err-at_record-in-Some-clause-err
returns-in_err-at_record-in-Some-clause-err g c bytes rows st =
    let format = g.F.FileFormat.format c.args.format.now in
    let fault = c.in_err-at_record-in-Some.field-0.0 in
    let next = rw c.in-Some.is at (c.in_ok-raw.ensures.more bytes st.records st.after) in
    let at = c.in_err-at_record-in-Some.ensures.err in
    let why = rw at.0 at c.row_of.ensures.err in
    passed-on format bytes c.from_residual-in_err-at_record-in-Some.result fault c.from_residual-in_err-at_record-in-Some.ensures.1 (elim why [
      | inl memory ↦ stands-stopped format g.R.Read.remaining bytes c.args.number rows c.args.file.now st fault at.1 (ap is_stop memory)
      | inr read ↦ stands-told format g.R.Read.remaining bytes c.args.number rows c.args.file.now st c.next_record.new.file (fields_of c.in-Some.raw) next fault at.1 c.requires read
    ])

pub returns-in_ok-at_record-in-Some-clause-more : goal.returns-in_ok-at_record-in-Some-clause-more
returns-in_ok-at_record-in-Some-clause-more g c bytes rows st =
    let format = g.F.FileFormat.format c.args.format.now in
    let next = rw c.in-Some.is at (c.in_ok-raw.ensures.more bytes st.records st.after) in
    let read = rw c.in_ok-at_record-in-Some.ensures.ok at c.row_of.ensures.ok in
    stands-more format g.R.Read.remaining bytes c.args.number rows c.args.file.now st c.next_record.new.file (fields_of c.in-Some.raw) next
    (g.F.FileFormat.entry c.in_ok-at_record-in-Some.field-0) c.requires read
