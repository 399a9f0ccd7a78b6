-- Parts of the proof of `lowest` that are done by hand.
use Rattle.std.proofs.Common.{not, reverse, rules}
use Rattle.std.specs.List.{list_any}
use Rattle.count.specs.Law.Due.{is_above}
use Rattle.count.proofs.ties.lowest.Goals as goal

pub returns : goal.returns
returns c = c.those.ensures (λ x. not (list_any (λ d. is_above (reverse c.args.stages.now) x d) c.args.group.now)) (λ x passed some few told. search rules)
