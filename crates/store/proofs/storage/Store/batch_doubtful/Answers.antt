-- Proof that `batch_doubtful` meets its contract.
use Rattle.std.proofs.Common.{◌≡◌, ◌++◌, map, rules, refl, ap, ◌∙◌}
use Rattle.register.specs.Offices.{batch_entry, keyed_entry, judged_entry}
use Rattle.register.specs.Polls.{Pile}
use Rattle.tables.specs.declared.fault.Fault.TheVariants.{Memory}
use Rattle.store.specs.Overviews.{doubtful_view, doubtful_among}
use Rattle.store.proofs.OverviewLemmas.{doubtful_put}
use Rattle.store.proofs.LoadsLemmas.{loads_as, loads_stopped}
use Rattle.store.proofs.storage.Store.batch_doubtful.Goals as goal

pub returns : goal.returns
returns g c =
    loads_as c.in_ok-papers.ensures
    (λ s is told.
    let before = map doubtful_view c.args.before.items in
    let put : map doubtful_view c.put_doubtful.new.found.items ≡ before ++ doubtful_among c.args.columns (map judged_entry c.deref.result.now) (map keyed_entry c.agreed.result.now) = search rules in
    doubtful_put s c.args.columns (batch_entry c.args.batch.now) before _ _ _ _ put
    (ap (map judged_entry) c.deref.ensures.value ∙ ap (λ (p : Pile). p.verdicts) told) c.agreed.ensures (ap (λ (p : Pile). p.keyings) told))

pub returns-then-is_err : goal.returns-then-is_err
returns-then-is_err g c = loads_stopped {f = Memory} refl c.in_ok-papers.ensures (λ s is told. refl)
