-- The invariant of the loop in `clerk_has_code`.
use Rattle.std.proofs.Common.{◌≡◌, drop, map}
use Rattle.std.specs.Prelude.{bytes_eq}
use Rattle.std.specs.List.{list_any}
use Rattle.codes.specs.Files.{CodeEntry, code_entry}
use Rattle.codes.proofs.reading.clerk_has_code.Given as goal

abbrev pub invariant-loop-other : goal.invariant-loop-other
invariant-loop-other l =
    list_any (λ (other : CodeEntry). bytes_eq other.code l.code) (map code_entry (drop l.other-index l.before))
    ≡ list_any (λ (other : CodeEntry). bytes_eq other.code l.code) (map code_entry l.before)
