-- Parts of the proof of `has_below` that are done by hand.
use Rattle.std.proofs.Common.{reverse, rules}
use Rattle.count.specs.Law.Due.{is_above}
use Rattle.count.proofs.ties.has_below.Goals as goal

pub returns : goal.returns
returns c = c.has_one.ensures (λ d. is_above (reverse c.args.stages.now) c.args.c d) (λ d passed some few told. search rules)
