-- Proof that `list_candidates` meets its contract.
use Rattle.std.proofs.Common.{refl}
use Rattle.register.specs.Offices.{candidate_entry, candidates_of}
use Rattle.store.specs.EntryRows.{row_of_candidate}
use Rattle.store.proofs.StateLemmas.{candidate_in, candidate_back}
use Rattle.store.proofs.FindLemmas.{candidates_listed}
use Rattle.store.proofs.FitLemmas.{candidates_fit}
use Rattle.store.proofs.LoadsLemmas.{loads_entries}
use Rattle.store.proofs.storage.Store.list_candidates.Goals as goal

pub returns : goal.returns
returns g c =
    let e = c.entries_beginning.ensures in
    rw (← c.self.view_is) (loads_entries (λ found. found.items) candidate_entry row_of_candidate candidate_in candidate_back (λ s. candidates_of s c.args.ward)
    (λ s is. candidates_listed s is c.args.ward) candidates_fit (rw c.number.ensures at e.finds) (rw c.number.ensures at e.cause) refl e.opens e.reads)
