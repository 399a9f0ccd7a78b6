-- Parts of the proof of `new` that are done by hand.
use Rattle.std.proofs.Common.{◌+◌, ◌≡◌, refl}
use Rattle.paper.specs.Columns.{max_candidates}
use Rattle.paper.specs.Standing.{status_of, status_among}
use Rattle.paper.proofs.Standings.{status_of-absent, is_continuing-among}
use Rattle.paper.proofs.standing.Standing.new.Goals as goal

pub returns-clause-each : goal.returns-clause-each
returns-clause-each c = λ k. rw (c.give-3.ensures.each k, c.give-2.ensures.each k, c.give.ensures.each k, status_of-absent (max_candidates + 1) k) refl

pub returns-clause-continuing : goal.returns-clause-continuing
returns-clause-continuing c = λ k.
    let given : status_of c.give-3.new.statuses k ≡ status_among c.args.continuing c.args.elected c.args.excluded k =
    rw (c.give-3.ensures.each k, c.give-2.ensures.each k, c.give.ensures.each k, status_of-absent (max_candidates + 1) k) refl in
    is_continuing-among c.give-3.new.statuses c.args.continuing c.args.elected c.args.excluded k given
