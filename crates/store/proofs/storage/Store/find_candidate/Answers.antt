-- Proof that `find_candidate` meets its contract.
use Rattle.std.proofs.Common.{refl}
use Rattle.register.specs.Offices.{candidate_entry, candidate_at}
use Rattle.store.specs.EntryRows.{row_of_candidate}
use Rattle.store.proofs.StateLemmas.{candidate_in, candidate_back}
use Rattle.store.proofs.FindLemmas.{candidate_found, candidate_fits}
use Rattle.store.proofs.LoadsLemmas.{loads_entry}
use Rattle.store.proofs.storage.Store.find_candidate.Goals as goal

pub returns : goal.returns
returns g c =
    let e = c.find_entry.ensures in
    rw (← c.self.view_is) (loads_entry _ _ _ candidate_entry row_of_candidate candidate_in candidate_back (λ s. candidate_at s c.args.ward c.args.candidate)
    (λ s is. candidate_found s is c.args.ward c.args.candidate) (λ s is. candidate_fits s is c.args.ward c.args.candidate)
    (rw (c.number.ensures, c.number-2.ensures) at e.found) (rw (c.number.ensures, c.number-2.ensures) at e.cause) refl e.opens e.reads)
