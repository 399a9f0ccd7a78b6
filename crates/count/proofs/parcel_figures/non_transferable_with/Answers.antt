-- Parts of the proof of `non_transferable_with` that are done by hand.
use Rattle.std.proofs.Common.{◌≡◌, reverse, ap, arith}
use Rattle.count.specs.Inside.Holdings.{newest_non_transferable}
use Rattle.count.proofs.ColumnLemmas.{reverse-newest}
use Rattle.count.proofs.WorthLemmas.{worth_to-within}
use Rattle.count.proofs.parcel_figures.non_transferable_with.Goals as goal

pub overflow_add-units : goal.overflow_add-units
overflow_add-units c =
    let newest : newest_non_transferable (reverse c.args.stages.now) ≡ c.in-Some.newest.now.non_transferable =
    ap newest_non_transferable (reverse-newest c.args.stages.now c.in-Some.field-0-1.now c.in-Some.newest.now c.in-Some.ensures.cases.0) in
    omega (arith, newest, c.units.ensures, c.worth_to-given.ensures, worth_to-within 0 c.args.moved.now, c.requires.non_transferable_small, c.requires.moved_small)
