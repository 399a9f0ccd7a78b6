-- Parts of the proof of `undecided` that are done by hand.
use Rattle.std.proofs.Common.{◌&&◌, not, [], reverse, rules}
use Rattle.count.specs.Books.{contest_of}
use Rattle.count.specs.Law.Elected.{has_reached, is_excluded}
use Rattle.count.proofs.elected.undecided.Goals as goal

pub returns : goal.returns
returns c = c.those.ensures (λ x. not (has_reached (contest_of c.args.terms.now []) (reverse c.args.stages.now) x) && not (is_excluded (reverse c.args.stages.now) x))
    (λ x passed some few told. search rules)
