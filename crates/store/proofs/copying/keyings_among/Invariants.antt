-- The invariant of the loop in `keyings_among`.
use Rattle.std.proofs.Common.{◌≡◌, ◌≤◌, ◌+◌, length, map, drop}
use Rattle.std.specs.List.{filter}
use Rattle.register.specs.Offices.{keyed_entry}
use Rattle.store.specs.Copies.{is_first_paper}
use Rattle.store.proofs.copying.keyings_among.Given as goal

abbrev pub invariant-loop-keyed : goal.invariant-loop-keyed
invariant-loop-keyed l = record {
  few : l.keyings ≤ l.keyed-index;
  all : l.keyings + length (filter is_first_paper (map keyed_entry (drop l.keyed-index l.papers))) ≡ length (filter is_first_paper (map keyed_entry l.papers));
}
