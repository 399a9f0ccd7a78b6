-- The tabulation of the example count, checked by computation.
use Rattle.std.proofs.Common.{refl}
use Rattle.count.specs.Law.Count.{stages_to}
use Rattle.register.specs.WorkedTabulation.{WorkedTabulation}

pub worked_tabulation : WorkedTabulation
unfolding stages_to
worked_tabulation = record { none_placed = refl; none_shown = refl; placed_first = refl; shown_first = refl; placed_second = refl; shown_second = refl }
