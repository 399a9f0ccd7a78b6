-- Parts of the proof of `sums` that are done by hand.
use Rattle.std.proofs.Common.{rules, ◌≡◌, List, [], ap, refl, arith}
use Rattle.count.specs.Bundles.{Bundle}
use Rattle.count.specs.Inside.Placing.{value_to, worth_placed}
use Rattle.count.proofs.BundleFigureLemmas.{worth-end, no-sums}
use Rattle.count.proofs.bundle_figures.sums.Goals as goal

pub loop-papers-init : goal.loop-papers-init
loop-papers-init c = record {
  size = refl;
  sound = c.requires.sound;
  all = λ h few.
      let begins : c.into_iter-papers-iterator.result ≡ c.args.bundles.now = search rules in
      omega (arith, no-sums 31 h, ap (worth_placed (value_to h) c.args.places.now) begins);
}

pub returns-clause-each : goal.returns-clause-each
returns-clause-each c = λ h few.
    let left : List Bundle = c.loop-papers.papers-iterator in
    let none : left ≡ [] = search rules in
    omega (arith, c.loop-papers.invariant.all h few, worth-end (value_to h) c.loop-papers.rest.now left none)
