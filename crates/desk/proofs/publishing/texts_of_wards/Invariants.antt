-- The invariant of the loop in `texts_of_wards`: the texts so far, followed by those of the remaining wards, are all texts.
use Rattle.std.proofs.Common.{◌≡◌, ◌++◌, drop, map}
use Rattle.publication.specs.Election.{ward_entry}
use Rattle.desk.specs.Publications.{sealed_entry}
use Rattle.desk.proofs.publishing.texts_of_wards.Given as goal

abbrev pub invariant-loop-ward : goal.invariant-loop-ward
invariant-loop-ward l = map ward_entry l.texts.items ++ map sealed_entry (drop l.ward-index l.wards) ≡ map sealed_entry l.wards
