-- The invariant of the loop in `has_clerk`.
use Rattle.std.proofs.Common.{◌≡◌, ◌==◌, drop, map}
use Rattle.std.specs.List.{list_any}
use Rattle.codes.specs.Files.{CodeEntry, code_entry}
use Rattle.codes.proofs.reading.has_clerk.Given as goal

abbrev pub invariant-loop-other : goal.invariant-loop-other
invariant-loop-other l = list_any (λ (other : CodeEntry). other.clerk == l.clerk) (map code_entry (drop l.other-index l.before)) ≡ list_any
    (λ (other : CodeEntry). other.clerk == l.clerk) (map code_entry l.before)
