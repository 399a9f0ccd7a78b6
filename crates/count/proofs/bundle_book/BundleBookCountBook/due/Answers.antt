-- Parts of the proof of `due` that are done by hand.
use Rattle.std.proofs.Common.{◌<◌, List, length, sym, subst}
use Rattle.count.specs.Bundles.{papers_of}
use Rattle.count.specs.Inside.Placing.{contest_on}
use Rattle.count.specs.declared.stages.Stage.{Stage}
use Rattle.count.proofs.BundleBookLemmas.{bundled-few, due-several}
use Rattle.count.proofs.bundle_book.BundleBookCountBook.due.Goals as goal

pub due-requires : goal.due-requires
due-requires c = record {
  few = subst (λ (l : List Stage). length l < 255) (sym c.deref.ensures.value)
      (bundled-few (contest_on c.self.inside.terms c.self.inside.bundles.now) c.self.inside.stages.items c.self.inside.bundles.now c.self.inside.places.items c.self.invariant);
}

pub returns-clause-several : goal.returns-clause-several
returns-clause-several c =
    due-several (contest_on c.self.inside.terms c.self.inside.bundles.now) c.deref.result.now c.self.inside.stages.items c.self.inside.bundles.now c.self.inside.places.items c.due.result
    c.deref.ensures.value (c.due.ensures (papers_of c.self.inside.bundles.now)) c.self.invariant
