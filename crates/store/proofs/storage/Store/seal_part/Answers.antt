-- Proof that `seal_part` meets its contract.
use Rattle.std.proofs.Common.{option_map, sym, ◌∙◌, true≢false}
use Rattle.register.specs.Offices.{ward_at}
use Rattle.register.specs.Elections.{election_of}
use Rattle.store.proofs.ElectionLemmas.{part_polled, sound_polled}
use Rattle.store.proofs.LoadsLemmas.{loads_as, loads_stopped}
use Rattle.store.proofs.storage.Store.seal_part.Goals as goal

pub returns : goal.returns
returns g c = loads_as c.in_ok-found.ensures (λ s is found. c.in_ok-part.ensures.part (option_map (election_of s) (ward_at s c.args.ward)) found ∙ part_polled s (ward_at s c.args.ward))

pub returns-in_err-part : goal.returns-in_err-part
returns-in_err-part g c =
    loads_stopped c.from_residual-in_err-part.ensures.1 c.in_ok-found.ensures
    (λ s is found. absurd (true≢false (sym (sound_polled s c.args.ward c.in_ok-found.found is found c.in_err-part.ensures.some))))
