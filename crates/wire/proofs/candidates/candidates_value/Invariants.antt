-- The loop invariant of `candidates_value`.
use Rattle.std.proofs.Common.{◌≡◌, map, take}
use Rattle.serde_json.specs.View.{view}
use Rattle.register.specs.Offices.{candidate_entry}
use Rattle.wire.specs.Replies.{candidate_data}
use Rattle.wire.proofs.candidates.candidates_value.Given as goal

abbrev pub invariant-loop-candidate : goal.invariant-loop-candidate
invariant-loop-candidate l = map view l.values.items ≡ map candidate_data (map candidate_entry (take l.candidate-index l.candidates))
