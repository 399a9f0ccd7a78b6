-- Proof that `bundles_of` meets its contract.
use Rattle.std.proofs.Common.{rules, ◌≡◌, ◌+◌, ◌++◌, ◌∷◌, ◌∙◌, true, map, drop, List, ap}
use Rattle.count.specs.Bundles.{Bundle}
use Rattle.register.specs.Tabulated.{placed_entry, bundle_of}
use Rattle.register.specs.declared.tabulations.PlacedBundle.{PlacedBundle}
use Rattle.register.proofs.CountReadBackLemmas.{left_at, next_bundle, next_fits}
use Rattle.register.proofs.tabulations.bundles_of.Goals as goal

pub returns-then-not-branch-clause-some : goal.returns-then-not-branch-clause-some
returns-then-not-branch-clause-some c = λ are few.
    let all : List Bundle = map bundle_of (map placed_entry c.args.tabulated.now) in
    let rest : List Bundle = map bundle_of (map placed_entry (drop (c.loop-bundle.bundle-index + 1) c.args.tabulated.now)) in
    let b : Bundle = bundle_of (placed_entry c.bundle-item.result) in
    let first = left_at c.args.tabulated.now c.loop-bundle.bundle-index c.bundle-item.result c.loop-bundle-test.true c.bundle-item.is in
    let left : all ≡ c.loop-bundle.bundles ++ b ∷ rest = c.loop-bundle.invariant are ∙ ap (λ (bs : List PlacedBundle). c.loop-bundle.bundles ++ map bundle_of (map placed_entry bs)) first in
    let fits = next_fits all c.loop-bundle.bundles rest b are few left in
    let added : c.in_ok-add_bundle.field-0 ≡ true = c.in_ok-add_bundle.ensures.fits fits.0 fits.1 in
    search rules

pub loop-bundle-preserved : goal.loop-bundle-preserved
loop-bundle-preserved c = λ are.
    let all : List Bundle = map bundle_of (map placed_entry c.args.tabulated.now) in
    let rest : List Bundle = map bundle_of (map placed_entry (drop (c.loop-bundle.bundle-index + 1) c.args.tabulated.now)) in
    let b : Bundle = bundle_of (placed_entry c.bundle-item.result) in
    let first = left_at c.args.tabulated.now c.loop-bundle.bundle-index c.bundle-item.result c.loop-bundle-test.true c.bundle-item.is in
    let left : all ≡ c.loop-bundle.bundles ++ b ∷ rest = c.loop-bundle.invariant are ∙ ap (λ (bs : List PlacedBundle). c.loop-bundle.bundles ++ map bundle_of (map placed_entry bs)) first in
    let added : c.in_ok-add_bundle.field-0 ≡ true = search rules in
    next_bundle all c.loop-bundle.bundles c.add_bundle.new.bundles rest b are left (c.in_ok-add_bundle.ensures.ok added)
