-- Proof that `add_agreed` meets its contract.
use Rattle.std.proofs.Common.{List, map, subst, ap, ◌∙◌}
use Rattle.register.specs.Offices.{KeyedEntry, judged_entry}
use Rattle.register.specs.Agreement.{agreed}
use Rattle.register.specs.Polls.{StandFor, ballots_by}
use Rattle.store.specs.Settled.{CountAfter}
use Rattle.store.proofs.LoadsLemmas.{loads_as, loads_stopped}
use Rattle.store.proofs.storage.Store.add_agreed.Goals as goal

pub returns : goal.returns
returns g c =
    loads_as c.in_ok-keyings.ensures
    (λ s is told same.
    subst (λ (ks : List KeyedEntry). CountAfter g.P.KeepsPapers.holds (λ js. StandFor g.P.KeepsPapers.holds c.args.ballots (ballots_by js)) c.args.columns
    (map judged_entry c.args.verdicts.items) c.add_each.new.ballots ks)
    (c.agreed.ensures ∙ ap agreed (told.1 same)) (rw c.deref.ensures.value at c.in_ok-add_each.ensures.adds))

pub returns-in_err-add_each : goal.returns-in_err-add_each
returns-in_err-add_each g c = loads_stopped c.from_residual-in_err-add_each.ensures.1 c.in_ok-keyings.ensures (λ s is told. c.in_err-add_each.ensures.cause)
