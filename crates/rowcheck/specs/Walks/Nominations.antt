-- Wards and their candidates, walked side by side.
use Rattle.std.specs.Prelude.{Bool, List, map}
use Rattle.register.specs.declared.wards.Ward.{Ward}
use Rattle.register.specs.declared.candidates.Candidate.{Candidate}
use Rattle.register.specs.Offices.{ward_entry, candidate_entry}
use Rattle.register.specs.Nominations.{are_enough}
use Rattle.rowcheck.specs.Walks.KeyRanges.{pass_by_run}

-- every ward has the candidates that its phase requires, and there are no other candidates
abbrev pub are_nominated : List Ward → List Candidate → Bool
are_nominated = pass_by_run (λ (w : Ward). w.number) (λ (c : Candidate). c.ward) (λ w candidates. are_enough w.phase (ward_entry w) (map candidate_entry candidates))
