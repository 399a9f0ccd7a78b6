-- The invariant of the loop in `are_ward_pages`.
use Rattle.std.proofs.Common.{◌≡◌, map, drop}
use Rattle.std.specs.List.{list_all}
use Rattle.publication.specs.Election.{ward_entry}
use Rattle.publication.specs.Pages.{is_page}
use Rattle.publication.proofs.pages.are_ward_pages.Given as goal

abbrev pub invariant-loop-ward : goal.invariant-loop-ward
invariant-loop-ward l = list_all (λ ward. is_page ward.page) (map ward_entry (drop l.ward-index l.wards)) ≡ list_all (λ ward. is_page ward.page) (map ward_entry l.wards)
