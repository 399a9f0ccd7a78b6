-- Parts of the proof of `due_by` that are done by hand.
use Rattle.count.specs.Law.Count.{due_by}
use Rattle.count.proofs.StoredCountLemmas.{kept-tells}
use Rattle.count.proofs.stored_count.StoredCount.due_by.Goals as goal

pub returns : goal.returns
returns c contest history kept =
    kept-tells (λ k h. due_by k c.args.lots.now h) c.due_with.result c.self.inside.terms c.self.inside.bundles c.self.inside.places.items
    c.self.inside.stages.items c.deref.result.now c.args.self.now contest history
    c.self.view_is c.deref.ensures.value c.self.invariant c.due_with.ensures kept
