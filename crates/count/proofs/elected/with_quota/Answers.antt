-- Parts of the proof of `with_quota` that are done by hand.
use Rattle.std.proofs.Common.{[], reverse, rules}
use Rattle.count.specs.Books.{contest_of}
use Rattle.count.specs.Law.Elected.{has_reached}
use Rattle.count.proofs.elected.with_quota.Goals as goal

pub returns : goal.returns
returns c = c.those.ensures (has_reached (contest_of c.args.terms.now []) (reverse c.args.stages.now)) (λ x passed some few told. search rules)
