-- Proof that `read_known` meets its contract.
use Rattle.std.proofs.Common.{option_map, ap, ◌∙◌}
use Rattle.register.specs.Offices.{batch_entry}
use Rattle.store.specs.Memories.{checksum}
use Rattle.store.specs.Piles.{KeyingsAre}
use Rattle.store.proofs.MemoryLemmas.{same_known}
use Rattle.store.proofs.LoadsLemmas.{loads_as, loads_both, loads_cut}
use Rattle.store.proofs.storage.Store.read_known.Goals as goal

pub returns : goal.returns
returns g c =
    loads_as (loads_both (loads_both c.in_ok-keyings.ensures c.in_ok-papers.ensures) c.in_ok-overview.ensures)
    (λ s is told.
    let are : KeyingsAre s (batch_entry c.args.batch) c.in_ok-keyings.keyings = record { third_is = told.0.0.0; they_are = told.0.0.1 } in
    c.known_with.ensures ∙ same_known _ _ (told.1 are) (ap (option_map checksum) (told.0.1 are)))

pub returns-in_err-papers : goal.returns-in_err-papers
returns-in_err-papers g c = loads_cut c.from_residual-in_err-papers.ensures.1 c.in_ok-keyings.ensures c.in_err-papers.ensures

pub returns-in_err-overview : goal.returns-in_err-overview
returns-in_err-overview g c = loads_cut c.from_residual-in_err-overview.ensures.1 (loads_both c.in_ok-keyings.ensures c.in_ok-papers.ensures) c.in_err-overview.ensures
