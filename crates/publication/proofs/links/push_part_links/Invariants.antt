-- The invariant of the loop in `push_part_links`.
use Rattle.std.proofs.Common.{◌≡◌, ◌++◌, map, drop, string_bytes}
use Rattle.std.specs.List.{flat_map}
use Rattle.publication.specs.Links.{part_link}
use Rattle.publication.specs.Parts.{part_entry}
use Rattle.publication.proofs.links.push_part_links.Given as goal

abbrev pub invariant-loop-part : goal.invariant-loop-part
invariant-loop-part l = string_bytes l.text ++ flat_map (part_link l.number) (map part_entry (drop l.part-index l.parts))
    ≡ string_bytes l.fn.text ++ flat_map (part_link l.number) (map part_entry l.parts)
