-- Proof that `add_batch` meets its contract.
use Rattle.std.proofs.Common.{◌≡◌, map, Option, Some, None, subst}
use Rattle.register.specs.Offices.{ThirdEntry, batch_entry, third_entry, judged_entry, third_at}
use Rattle.register.specs.Polls.{StandFor, ballots_by, settled_with}
use Rattle.store.specs.Settled.{CountAfter}
use Rattle.store.proofs.LoadsLemmas.{loads_as, loads_both, loads_cut}
use Rattle.store.proofs.storage.Store.add_batch.Goals as goal

pub returns-in_ok-agreed-in-Some : goal.returns-in_ok-agreed-in-Some
returns-in_ok-agreed-in-Some g c =
    loads_as (loads_both c.in_ok-found.ensures c.in_ok-agreed-in-Some.ensures)
    (λ s is told.
    let there : Some (third_entry c.in-Some.third) ≡ third_at s c.args.batch.now.number = rw c.in-Some.is at told.0 in
    subst (λ (o : Option ThirdEntry). CountAfter g.P.KeepsPapers.holds (λ js. StandFor g.P.KeepsPapers.holds c.args.ballots (ballots_by js)) c.args.columns
    (map judged_entry c.args.verdicts.items) c.in_ok-agreed-in-Some.agreed (settled_with s (batch_entry c.args.batch.now) o))
    there (told.1 there))

pub returns-in_err-agreed-in-Some : goal.returns-in_err-agreed-in-Some
returns-in_err-agreed-in-Some g c = loads_cut c.from_residual-in_err-agreed-in-Some.ensures.1 c.in_ok-found.ensures c.in_err-agreed-in-Some.ensures

pub returns-in_ok-alike-in-None : goal.returns-in_ok-alike-in-None
returns-in_ok-alike-in-None g c =
    loads_as (loads_both c.in_ok-found.ensures c.in_ok-alike-in-None.ensures)
    (λ s is told.
    let none : None ≡ third_at s c.args.batch.now.number = rw c.in-None.is at told.0 in
    subst (λ (o : Option ThirdEntry). CountAfter g.P.KeepsPapers.holds (λ js. StandFor g.P.KeepsPapers.holds c.args.ballots (ballots_by js)) c.args.columns
    (map judged_entry c.args.verdicts.items) c.in_ok-alike-in-None.alike (settled_with s (batch_entry c.args.batch.now) o))
    none told.1)

pub returns-in_err-alike-in-None : goal.returns-in_err-alike-in-None
returns-in_err-alike-in-None g c = loads_cut c.from_residual-in_err-alike-in-None.ensures.1 c.in_ok-found.ensures c.in_err-alike-in-None.ensures
