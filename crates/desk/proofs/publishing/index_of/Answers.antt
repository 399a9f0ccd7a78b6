-- Proof that `index_of` meets its contract.
use Rattle.std.proofs.Common.{◌≡◌, Ok, refl, string_bytes}
use Rattle.sqlite.specs.Held.{state}
use Rattle.office.specs.Index.{index_answer}
use Rattle.desk.specs.Publications.{Reads}
use Rattle.desk.proofs.PublishLemmas.{read_failed, read_ok, read_refused, reads_as, told_value}
use Rattle.desk.proofs.publishing.index_of.Goals as goal

pub returns-in-Ok : goal.returns-in-Ok
returns-in-Ok g c =
    let one : Reads (state g.S.Store) c.args.office.now c.index.new.self (Ok c.in-Ok.told) (λ s z. index_answer c.args.title.now s ≡ Ok (string_bytes z)) =
    read_ok c.index.ensures.same c.in-Ok.ensures.reads in
    reads_as one (λ s is told. told_value refl told)

pub returns-in-Err-Fault : goal.returns-in-Err-Fault
returns-in-Err-Fault g c = read_failed c.index.ensures.same (rw c.in-Err-Fault.field-0-is at c.in-Err-Fault.ensures.reads)

pub returns : goal.returns
returns g c = read_refused c.index.ensures.same (rw c.in-Err-Refused.field-0-is at c.in-Err-Refused.ensures.reads)
