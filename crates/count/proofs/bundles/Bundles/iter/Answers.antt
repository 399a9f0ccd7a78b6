-- Parts of the proof of `iter`: bundles are determined by their papers.
use Rattle.std.proofs.Common.{subst}
use Rattle.count.specs.Bundles.{AreBundles}
use Rattle.count.proofs.BundleLaws.{same-bundles}
use Rattle.count.proofs.bundles.Bundles.iter.Goals as goal

pub returns-clause-told : goal.returns-clause-told
returns-clause-told c = λ others all moved. same-bundles others c.args.self.now all (subst AreBundles c.self.view_is c.self.invariant.0) moved
