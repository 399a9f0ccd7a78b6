-- Parts of the proof of `cmp` that are done by hand.
use Rattle.std.proofs.Common.{◌∙◌, ap}
use Rattle.std.specs.Cmp.Lexicographic.{slice_cmp}
use Rattle.std.specs.Ordering.{nat_cmp}
use Rattle.paper.specs.Padded.{listed}
use Rattle.paper.proofs.Rankings.{padded-order}
use Rattle.paper.proofs.prefs.PrefsOrd.cmp.Goals as goal

pub returns : goal.returns
returns c =
    c.padded_cmp.ensures
    ∙ padded-order (listed c.self.inside.numbers) (listed c.other.inside.numbers) c.self.inside.numbers c.other.inside.numbers c.self.invariant.2
    c.other.invariant.2 c.self.invariant.0 c.other.invariant.0
    ∙ ap (λ l. slice_cmp nat_cmp l (listed c.other.inside.numbers)) c.self.view_is
    ∙ ap (slice_cmp nat_cmp c.args.self.now) c.other.view_is
