-- Parts of the proof of `elected` that are done by hand.
use Rattle.count.specs.Law.Elected.{elected_after}
use Rattle.count.proofs.StoredCountLemmas.{kept-tells}
use Rattle.count.proofs.stored_count.StoredCount.elected.Goals as goal

pub returns : goal.returns
returns c contest history kept =
    kept-tells elected_after c.elected_with.result c.self.inside.terms c.self.inside.bundles c.self.inside.places.items c.self.inside.stages.items c.deref.result.now c.args.self.now contest history
    c.self.view_is c.deref.ensures.value c.self.invariant c.elected_with.ensures kept
