-- The invariant of the loop in `is_one_of`.
use Rattle.std.proofs.Common.{◌≡◌, nat_eq, drop}
use Rattle.std.specs.List.{list_any}
use Rattle.register.proofs.counts.is_one_of.Given as goal

abbrev pub invariant-loop-column : goal.invariant-loop-column
invariant-loop-column l = list_any (nat_eq l.candidate) l.columns ≡ list_any (nat_eq l.candidate) (drop l.column-index l.columns)
