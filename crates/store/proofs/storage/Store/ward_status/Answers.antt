-- Proof that `ward_status` meets its contract.
use Rattle.std.proofs.Common.{refl, ap, length, sym, ◌∙◌, subst, List}
use Rattle.register.specs.Offices.{BatchEntry, candidate_entry, batch_entry}
use Rattle.tables.proofs.ListLemmas.{mapped_length}
use Rattle.store.specs.Tallies.{IsTally}
use Rattle.store.proofs.TallyLemmas.{countable, same_status}
use Rattle.store.proofs.LoadsLemmas.{loads_as, loads_both, loads_cut}
use Rattle.store.proofs.storage.Store.ward_status.Goals as goal

pub returns : goal.returns
returns g c =
    loads_as (loads_both (loads_both c.in_ok-candidates.ensures c.in_ok-batches.ensures) (rw c.deref.ensures.value at c.in_ok-tally.ensures))
    (λ s is told.
    let candidates = c.in_ok-candidates.candidates in
    let batches = c.in_ok-batches.batches in
    let tally = countable s is c.args.ward.now.number c.in_ok-tally.tally (subst (λ (bs : List BatchEntry). IsTally s bs c.in_ok-tally.tally) told.0.1 told.1) in
    same_status _ _ refl refl (c.len.ensures ∙ candidates.ok.0 ∙ sym (mapped_length candidate_entry candidates.items) ∙ ap length told.0.0)
    (c.len-2.ensures ∙ batches.ok.0 ∙ sym (mapped_length batch_entry batches.items) ∙ ap length told.0.1) tally.0 tally.1 tally.2 refl)

pub returns-in_err-batches : goal.returns-in_err-batches
returns-in_err-batches g c = loads_cut c.from_residual-in_err-batches.ensures.1 c.in_ok-candidates.ensures c.in_err-batches.ensures

pub returns-in_err-tally : goal.returns-in_err-tally
returns-in_err-tally g c = loads_cut c.from_residual-in_err-tally.ensures.1 (loads_both c.in_ok-candidates.ensures c.in_ok-batches.ensures) c.in_err-tally.ensures
