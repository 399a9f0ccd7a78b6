-- Proof that `count_part` meets its contract.
use Rattle.std.proofs.Common.{option_map, ◌∙◌}
use Rattle.register.specs.Offices.{ward_at}
use Rattle.register.specs.Elections.{election_of}
use Rattle.store.proofs.ElectionLemmas.{part_counted}
use Rattle.store.proofs.LoadsLemmas.{loads_as}
use Rattle.store.proofs.storage.Store.count_part.Goals as goal

pub returns : goal.returns
returns g c =
    loads_as c.in_ok-found.ensures
    (λ s is found.
    let entry = option_map (election_of s) (ward_at s c.args.ward) in
    (c.counted.ensures.part entry found ∙ part_counted s (ward_at s c.args.ward), c.counted.ensures.count entry found))
