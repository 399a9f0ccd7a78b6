-- Parts of the proof of `worth` that are done by hand.
use Rattle.std.proofs.Common.{rules, ◌≡◌, List, [], arith}
use Rattle.count.specs.Bundles.{Bundle}
use Rattle.count.specs.Inside.Placing.{value_of}
use Rattle.count.proofs.BundleFigureLemmas.{worth-end}
use Rattle.count.proofs.bundle_figures.worth.Goals as goal

pub returns : goal.returns
returns c =
    let left : List Bundle = c.loop-papers.papers-iterator in
    let none : left ≡ [] = search rules in
    omega (arith, c.loop-papers.invariant, worth-end value_of c.loop-papers.rest.now left none)
