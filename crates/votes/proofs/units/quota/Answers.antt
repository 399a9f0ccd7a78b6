-- Parts of the proof of `quota` that are done by hand.
use Rattle.std.proofs.Common.{rules, ◌≡◌, ◌+◌, ◌*◌, ◌/◌, subst}
use Rattle.votes.specs.Units.{one_vote, IsQuota, quota_of}
use Rattle.votes.proofs.Quotas.{quota_of-IsQuota}
use Rattle.votes.proofs.units.quota.Goals as goal

pub returns-clause-least : goal.returns-clause-least
returns-clause-least c =
    let is : quota_of c.args.valid c.args.seats ≡ (c.from.result / (c.from-2.result + 1) + 1) * one_vote = search rules in
    subst (IsQuota c.args.valid c.args.seats) is (quota_of-IsQuota c.args.valid c.args.seats)
