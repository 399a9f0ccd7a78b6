-- Proof that `flaw_of_others` meets its contract: the flaw has the subject of the first of the given orders that isn't the only one in its place, and their number.
use Rattle.std.proofs.Common.{◌==◌, not, Some, sym, ap, ◌∙◌, arith}
use Rattle.mending.specs.Changes.{places_for}
use Rattle.mending.proofs.FirstFlaws.{first_at, is_not_one}
use Rattle.mending.proofs.checking.flaw_of_others.Goals as goal

pub returns-then-count-ne1-clause-some : goal.returns-then-count-ne1-clause-some
returns-then-count-ne1-clause-some c named placed =
    let orders = c.args.changes.instead.now in
    let instead = c.args.changes.instead.now in
    let i = c.loop-other.other-index in
    let other = c.other-item.result in
    let unplaced = ap (λ n. not (n == 1)) (ap (places_for orders) (sym c.other-item.is) ∙ sym c.in_ok-count.ensures) ∙ is_not_one c.in_ok-count.count c.if-count-ne1.true in
    let first = c.loop-other.invariant.first ∙ first_at (λ r. not (places_for orders r == 1)) instead i other (omega arith) unplaced ∙ ap Some (sym c.other-item.is) in
    (named, placed, (other, first, sym c.in_ok-count.ensures, c.in_ok-subject_of.ensures))
