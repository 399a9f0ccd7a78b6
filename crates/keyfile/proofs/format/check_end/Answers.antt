-- Proof that `check_end` meets its contract.
use Rattle.std.proofs.Common.{refl}
use Rattle.csv.specs.Records.{fields_of}
use Rattle.keyfile.specs.Files.{fault_at}
use Rattle.keyfile.specs.declared.fault.Flaw.TheVariants.{TooManyRecords}
use Rattle.keyfile.proofs.StandLemmas.{passed-on, told-only, stands-ended, stands-many}
use Rattle.keyfile.proofs.format.check_end.Goals.{in-None, in-Some}
use Rattle.keyfile.proofs.format.check_end.Goals as goal

pub returns-in_err-next_record-clause-err : goal.returns-in_err-next_record-clause-err
returns-in_err-next_record-clause-err g c bytes rows st =
    let format = g.F.FileFormat.format c.args.format.now in
    let fault = c.in_err-next_record.field-0.0 in
    let ended = c.in_err-next_record.ensures.err bytes st.records st.after in
    passed-on format bytes c.from_residual.result fault c.from_residual.ensures.1 (stands-ended format g.R.Read.remaining bytes c.args.number rows c.args.file.now st fault ended.0 ended.1)

pub returns-clause-err : goal.returns-clause-err
returns-clause-err g c bytes rows st =
    let format = g.F.FileFormat.format c.args.format.now in
    let fault = fault_at c.args.number TooManyRecords in
    elim c.match-branch-2.branch [
      | in-None w ↦ rw w.result-is tt
      | in-Some w ↦
          let next = rw w.in-Some.is at (c.in_ok-next_record.ensures.more bytes st.records st.after) in
          told-only format bytes c.match-branch-2.result fault w.result-is
          (stands-many format g.R.Read.remaining bytes c.args.number rows c.args.file.now st c.next_record.new.file (fields_of w.in-Some.field-0) next fault refl c.requires refl)
    ]
