-- Proof that `clerk_overviews` meets its contract.
use Rattle.std.proofs.Common.{◌≡◌, ◌++◌, ◌∷◌, [], map, take, get_or, rules, refl, sym, ap, ◌∙◌}
use Rattle.std.proofs.lemmas.List.{take_more, take_all}
use Rattle.register.specs.Offices.{batch_entry}
use Rattle.tables.specs.declared.fault.Fault.TheVariants.{Memory}
use Rattle.store.specs.Overviews.{clerk_view, clerk_view_of}
use Rattle.store.proofs.OverviewLemmas.{mapped_more}
use Rattle.store.proofs.LoadsLemmas.{loads_none, loads_as, loads_both, loads_cut, loads_stopped}
use Rattle.store.proofs.storage.Store.clerk_overviews.Goals as goal

pub loop-clerk-init : goal.loop-clerk-init
loop-clerk-init g c = loads_none c.requires (λ s is. search rules)

pub loop-clerk-preserved : goal.loop-clerk-preserved
loop-clerk-preserved g c =
    let k = c.loop-clerk.clerk-index in
    let clerks = c.args.clerks.now in
    let b = batch_entry c.args.batch.now in
    let grown : c.push.new.self.items ≡ c.loop-clerk.found.items ++ c.in_ok-overview.overview ∷ [] = search rules in
    loads_as (loads_both c.loop-clerk.invariant c.in_ok-overview.ensures)
    (λ s is told.
    ap (map clerk_view) grown
    ∙ mapped_more clerk_view (clerk_view_of s b) c.loop-clerk.found.items c.in_ok-overview.overview (take k clerks) (get_or clerks k 0) told.0 told.1
    ∙ ap (map (clerk_view_of s b)) (sym (take_more clerks k 0 c.loop-clerk-test.true)))

pub returns-in_err-overview : goal.returns-in_err-overview
returns-in_err-overview g c = loads_cut c.from_residual.ensures.1 c.loop-clerk.invariant c.in_err-overview.ensures

pub returns-then-is_err : goal.returns-then-is_err
returns-then-is_err g c = loads_stopped {f = Memory} refl (loads_both c.loop-clerk.invariant c.in_ok-overview.ensures) (λ s is told. refl)

pub returns : goal.returns
returns g c = loads_as c.loop-clerk.invariant (λ s is told. told ∙ ap (map (clerk_view_of s (batch_entry c.args.batch.now)))
    (take_all c.loop-clerk.clerk-index c.args.clerks.now c.loop-clerk-test.false))
