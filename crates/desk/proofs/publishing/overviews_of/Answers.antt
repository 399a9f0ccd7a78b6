-- Proof that `overviews_of` meets its contract.
use Rattle.std.proofs.Common.{◌≡◌, Ok, map, refl, sym}
use Rattle.store.specs.Overviews.{ward_view}
use Rattle.sqlite.specs.Held.{state}
use Rattle.office.specs.Overviews.{wards_answer}
use Rattle.desk.specs.Publications.{Reads}
use Rattle.desk.proofs.PublishLemmas.{overviews_are, read_failed, read_ok, read_refused, reads_as, told_value}
use Rattle.desk.proofs.publishing.overviews_of.Goals as goal

pub returns-in-Ok : goal.returns-in-Ok
returns-in-Ok g c =
    let one : Reads (state g.S.Store) c.args.office.now c.wards.new.self (Ok c.in-Ok.wards) (λ s z. wards_answer s ≡ Ok (map ward_view z.items)) = read_ok c.wards.ensures.same c.in-Ok.ensures.reads in
    reads_as one (λ s is told. overviews_are s c.in-Ok.wards.items (sym (told_value refl told)))

pub returns-in-Err-Fault : goal.returns-in-Err-Fault
returns-in-Err-Fault g c = read_failed c.wards.ensures.same (rw c.in-Err-Fault.field-0-is at c.in-Err-Fault.ensures.reads)

pub returns : goal.returns
returns g c = read_refused c.wards.ensures.same (rw c.in-Err-Refused.field-0-is at c.in-Err-Refused.ensures.reads)
