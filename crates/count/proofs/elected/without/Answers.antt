-- Parts of the proof of `without` that are done by hand.
use Rattle.std.proofs.Common.{not, nat_eq, rules}
use Rattle.std.specs.List.{list_any}
use Rattle.count.proofs.elected.without.Goals as goal

pub returns : goal.returns
returns c = c.those.ensures (λ x. not (list_any (nat_eq x) c.args.others.now)) (λ x passed some few told. search rules)
