-- Proof that `add_papers` meets its contract.
use Rattle.std.proofs.Common.{length, sym, ap, subst, ◌∙◌, arith}
use Rattle.std.specs.Prelude.{option_map, slice_get}
use Rattle.std.specs.List.{AllByRecursion}
use Rattle.count.specs.Bundles.{Bundle, IsBundle, papers_of, with_papers}
use Rattle.count.proofs.BundleLemmas.{length-with_papers}
use Rattle.checker.specs.Tallies.{settled}
use Rattle.checker.proofs.TallyLemmas.{each-more, length-settled, number-at, number-found, settled-more}
use Rattle.checker.proofs.tally.Tally.add_papers.Goals as goal

pub add_at-requires-clause-few : goal.add_at-requires-clause-few
add_at-requires-clause-few c = λ b is.
    let bs = c.self.inside.bundles in
    let es = c.self.inside.recent.items in
    let held = ap (λ l. length (papers_of l)) (sym c.self.view_is) in
    omega (arith, number-at es c.in-Some.i b is, length-settled bs es, held, c.requires.few)

pub invariant_of-self : goal.invariant_of-self
invariant_of-self c =
    let bs = c.self.inside.bundles in
    let es = c.self.inside.recent.items in
    let own = number-found (slice_get es c.in-Some.i) c.args.list.now
    (ap (λ l. option_map (λ (b : Bundle). b.0) (slice_get l c.in-Some.i)) (sym c.deref-2.ensures.value) ∙ c.in-Some.ensures) in
    let set = c.add_at.ensures (c.args.list.now, own.0) own.1 in
    let more = settled-more bs es c.in-Some.i c.args.list.now own.0 c.args.papers own.1 c.requires.some c.self.invariant.0 c.self.invariant.1 in
    let held = ap (λ l. length (papers_of l)) (sym c.self.view_is) in (
      c.self.invariant.0,
      subst (AllByRecursion IsBundle) (sym set) (each-more es c.in-Some.i c.args.list.now own.0 c.args.papers own.1 c.self.invariant.1),
      omega (arith, ap (λ l. length (papers_of l)) (ap (settled bs) set ∙ more), length-with_papers c.args.list.now c.args.papers (settled bs es), c.self.invariant.2),
      omega (arith, c.requires.few, c.self.invariant.2, held),
    )

pub returns-in-Some : goal.returns-in-Some
returns-in-Some c =
    let bs = c.self.inside.bundles in
    let es = c.self.inside.recent.items in
    let own = number-found (slice_get es c.in-Some.i) c.args.list.now
    (ap (λ l. option_map (λ (b : Bundle). b.0) (slice_get l c.in-Some.i)) (sym c.deref-2.ensures.value) ∙ c.in-Some.ensures) in
    ap (settled bs) (c.add_at.ensures (c.args.list.now, own.0) own.1)
    ∙ settled-more bs es c.in-Some.i c.args.list.now own.0 c.args.papers own.1 c.requires.some c.self.invariant.0 c.self.invariant.1
    ∙ ap (λ l. with_papers l c.args.list.now c.args.papers) c.self.view_is
