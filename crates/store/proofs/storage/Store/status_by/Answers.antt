-- Proof that `status_by` meets its contract.
use Rattle.std.proofs.Common.{length, refl, ap, sym, ◌∙◌}
use Rattle.register.specs.Offices.{candidate_entry}
use Rattle.register.specs.Agreement.{batches_of}
use Rattle.tables.proofs.ListLemmas.{mapped_length}
use Rattle.store.proofs.TallyLemmas.{countable, same_status}
use Rattle.store.proofs.KnownLemmas.{as_many}
use Rattle.store.proofs.LoadsLemmas.{loads_as}
use Rattle.store.proofs.storage.Store.status_by.Goals as goal

pub returns : goal.returns
returns g c =
    loads_as c.in_ok-candidates.ensures
    (λ s is told. λ are.
    let candidates = c.in_ok-candidates.candidates in
    let own = batches_of s c.args.ward.now.number in
    let tally = countable s is c.args.ward.now.number c.tally_among-tally.result (c.tally_among-tally.ensures s own are) in
    same_status _ _ refl refl (c.len.ensures ∙ candidates.ok.0 ∙ sym (mapped_length candidate_entry candidates.items) ∙ ap length told)
    (as_many s own c.args.batches.now are) tally.0 tally.1 tally.2 refl)
