-- Proof that `settled` meets its contract.
use Rattle.std.proofs.Common.{◌≡◌, ◌+◌, ◌∷◌, length, drop, get_or, sym, ap, ◌∙◌, arith}
use Rattle.std.proofs.lemmas.List.{at_drop_more}
use Rattle.count.specs.Bundles.{papers_of}
use Rattle.checker.specs.Tallies.{settled}
use Rattle.checker.proofs.TallyLemmas.{fits-settled}
use Rattle.checker.proofs.tally.settled.Goals as goal

pub add_papers-requires-clause-few : goal.add_papers-requires-clause-few
add_papers-requires-clause-few c =
    let rest = drop (c.loop-bundle.bundle-index + 1) c.args.recent.now in
    let e = get_or c.args.recent.now c.loop-bundle.bundle-index c.bundle-item.result in
    let same : settled c.loop-bundle.all (e ∷ rest) ≡ settled c.args.bundles c.args.recent.now =
    sym (at_drop_more (settled c.loop-bundle.all) c.args.recent.now c.loop-bundle.bundle-index c.bundle-item.result c.loop-bundle-test.true) ∙ c.loop-bundle.invariant.same in
    omega (arith, fits-settled c.loop-bundle.all rest e, ap (λ bs. length (papers_of bs)) same, c.requires.few, ap (λ b. b.1) c.bundle-item.is)
