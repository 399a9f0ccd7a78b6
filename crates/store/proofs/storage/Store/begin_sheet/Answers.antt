-- Proof that `begin_sheet` meets its contract.
use Rattle.std.proofs.Common.{◌≡◌, ap, arith}
use Rattle.register.specs.Offices.{WardEntry, ward_entry}
use Rattle.register.specs.Elections.{election_of}
use Rattle.store.proofs.ElectionLemmas.{begun_found}
use Rattle.store.proofs.LoadsLemmas.{loads_as}
use Rattle.store.proofs.storage.Store.begin_sheet.Goals as goal

pub returns-in-Ok : goal.returns-in-Ok
returns-in-Ok g c =
    loads_as c.in_ok-election.ensures
    (λ s is told there contested fresh.
    let w = ward_entry c.args.contest.ward in
    let of = told there in
    let few = (c.elections_are_fair.ensures.few s w is.in_range is.keyed is.rise there.0).1 in
    let seats : c.in_ok-election.election.ward.seats ≡ w.seats = ap (λ (x : WardEntry). x.seats) of.ward_is in
    let fair = c.elections_are_fair.ensures.fair s w is.in_range is.keyed is.rise there.0 contested in
    let begun = c.in-Ok.ensures in
    begun_found (election_of s w) c.in_ok-election.election c.in-Ok.begun of contested fresh fair (begun.some (omega (arith, seats, few))) begun.same begun.is begun.rejected)
