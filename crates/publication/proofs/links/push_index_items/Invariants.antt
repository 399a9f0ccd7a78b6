-- The invariant of the loop in `push_index_items`.
use Rattle.std.proofs.Common.{◌≡◌, ◌++◌, map, drop, string_bytes}
use Rattle.std.specs.List.{flat_map}
use Rattle.publication.specs.Election.{ward_entry}
use Rattle.publication.specs.Links.{index_item}
use Rattle.publication.proofs.links.push_index_items.Given as goal

abbrev pub invariant-loop-ward : goal.invariant-loop-ward
invariant-loop-ward l = string_bytes l.text ++ flat_map index_item (map ward_entry (drop l.ward-index l.wards)) ≡ string_bytes l.fn.text ++ flat_map index_item (map ward_entry l.wards)
