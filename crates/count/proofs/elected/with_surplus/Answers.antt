-- Parts of the proof of `with_surplus` that are done by hand.
use Rattle.std.proofs.Common.{nat_lt, rules}
use Rattle.count.specs.Law.Contest.{votes_at}
use Rattle.count.proofs.elected.with_surplus.Goals as goal

pub returns : goal.returns
returns c = c.those.ensures (λ x. nat_lt c.args.quota (votes_at c.args.newest.now x)) (λ x passed some few told. search rules)
