-- Parts of the proof of `has_above` that are done by hand.
use Rattle.std.proofs.Common.{reverse, rules}
use Rattle.count.specs.Law.Due.{is_above}
use Rattle.count.proofs.ties.has_above.Goals as goal

pub returns : goal.returns
returns c = c.has_one.ensures (λ d. is_above (reverse c.args.stages.now) d c.args.c) (λ d passed some few told. search rules)
