-- Parts of the proof of `add_papers`: bundles remain bundles when papers are added, and the number of papers increases accordingly.
use Rattle.std.proofs.Common.{length, ap, arith}
use Rattle.count.specs.Bundles.{papers_of, IsBundle}
use Rattle.count.proofs.BundleLemmas.{bundles-with_papers, papers-with_papers, length-with_papers}
use Rattle.count.proofs.bundles.Bundles.add_papers.Goals as goal

pub invariant_of-self-2 : goal.invariant_of-self-2
invariant_of-self-2 c =
    let old = c.self.inside.lists.entries in
    let some : IsBundle (c.args.list, c.args.papers) = (c.requires.some, c.first.ensures.some, c.first.ensures.ranking) in
    let many = length-with_papers c.args.list c.args.papers old in
    let seen = ap (λ l. length (papers_of l)) c.self.view_is in
    rw c.in_ok-add_to.ensures.ok
    (bundles-with_papers c.args.list c.args.papers old some c.self.invariant.0, omega (arith, many, c.self.invariant.1), omega (arith, many, seen, c.self.invariant.1, c.requires.few))

pub returns-clause-adds : goal.returns-clause-adds
returns-clause-adds c = rw (c.in_ok-add_to.ensures.ok, ← c.self.view_is) (papers-with_papers c.args.list c.args.papers c.self.inside.lists.entries)
