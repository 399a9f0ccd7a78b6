-- The invariant of the loop in `keyed_papers`.
use Rattle.std.proofs.Common.{◌≡◌, ◌+◌, ◌++◌, map, drop, string_bytes}
use Rattle.register.specs.Offices.{keyed_entry}
use Rattle.register.specs.Keyings.{papers_from}
use Rattle.register.proofs.keyings.keyed_papers.Given as goal

abbrev pub invariant-loop-place : goal.invariant-loop-place
invariant-loop-place l =
    map keyed_entry l.papers.items ++ papers_from l.command.batch l.command.round l.actor (l.place + 1) (map string_bytes (drop l.place l.command.papers.items))
    ≡ papers_from l.command.batch l.command.round l.actor 1 (map string_bytes l.command.papers.items)
