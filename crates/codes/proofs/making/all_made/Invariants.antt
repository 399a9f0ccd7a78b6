-- The invariant of the loop in `all_made`.
use Rattle.std.proofs.Common.{◌≡◌, drop, map}
use Rattle.std.specs.List.{list_all}
use Rattle.codes.specs.Files.{CodeEntry, code_entry}
use Rattle.codes.specs.Making.{is_made}
use Rattle.codes.proofs.making.all_made.Given as goal

abbrev pub invariant-loop-one : goal.invariant-loop-one
invariant-loop-one l = list_all (λ (e : CodeEntry). is_made e.code) (map code_entry (drop l.one-index l.all)) ≡ list_all (λ (e : CodeEntry). is_made e.code) (map code_entry l.all)
