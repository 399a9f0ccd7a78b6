-- The invariant of the loop in `lines_on_wards`: the lines so far, followed by those of the remaining wards, are all lines.
use Rattle.std.proofs.Common.{◌≡◌, ◌++◌, drop, map, string_bytes}
use Rattle.store.specs.Overviews.{ward_view}
use Rattle.desk.specs.Overviews.{ward_line}
use Rattle.desk.proofs.overviews.lines_on_wards.Given as goal

abbrev pub invariant-loop-ward : goal.invariant-loop-ward
invariant-loop-ward l = map string_bytes l.lines.items ++ map (λ w. ward_line (ward_view w)) (drop l.ward-index l.wards) ≡ map (λ w. ward_line (ward_view w)) l.wards
