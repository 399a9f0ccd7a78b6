-- Proof that `read_header` meets its contract.
use Rattle.std.proofs.Common.{[], inl, inr, ap}
use Rattle.std.proofs.lemmas.Result.{IfErr-weaker}
use Rattle.csv.specs.Records.{fields_of}
use Rattle.keyfile.specs.Faults.{is_stop}
use Rattle.keyfile.proofs.StandLemmas.{Told, header-other, header-stopped}
use Rattle.keyfile.proofs.format.read_header.Goals as goal

pub returns-in-Some-clause-err : goal.returns-in-Some-clause-err
returns-in-Some-clause-err g c bytes after =
    let format = g.F.FileFormat.format c.args.format.now in
    let next = rw c.in-Some.is at (c.in_ok-raw.ensures.more bytes [] after) in
    IfErr-weaker c.at_record.result _ (Told format bytes)
    (λ fault at.
    let why = rw at.0 at c.check_header.ensures.err in
    elim why [
      | inl memory ↦ header-stopped format g.R.Read.remaining bytes fault at.1 (ap is_stop memory)
      | inr other ↦ header-other format g.R.Read.remaining bytes c.next_record.new.file (fields_of c.in-Some.raw) next fault at.1 other
    ])
    c.at_record.ensures.err
