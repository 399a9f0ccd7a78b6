-- The invariant of the loop in `has_doubtful`.
use Rattle.std.proofs.Common.{◌≡◌, map, drop}
use Rattle.register.specs.Offices.{keyed_entry}
use Rattle.register.specs.Agreement.{has_doubtful}
use Rattle.register.proofs.agreement.has_doubtful.Given as goal

abbrev pub invariant-loop-keyed : goal.invariant-loop-keyed
invariant-loop-keyed l = has_doubtful (map keyed_entry l.keying) l.paper ≡ has_doubtful (map keyed_entry (drop l.keyed-index l.keying)) l.paper
