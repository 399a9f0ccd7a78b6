-- Parts of the proof of `action_by` that are done by hand.
use Rattle.std.proofs.Common.{◌<◌, List, length, sym, subst}
use Rattle.count.specs.Inside.Placing.{contest_on}
use Rattle.count.specs.declared.stages.Stage.{Stage}
use Rattle.count.proofs.BundleBookLemmas.{bundled-few}
use Rattle.count.proofs.bundle_book.BundleBookCountBook.action_by.Goals as goal

pub action_by-requires : goal.action_by-requires
action_by-requires c = record {
  few = subst (λ (l : List Stage). length l < 255) (sym c.deref.ensures.value)
      (bundled-few (contest_on c.self.inside.terms c.self.inside.bundles.now) c.self.inside.stages.items c.self.inside.bundles.now c.self.inside.places.items c.self.invariant);
}
