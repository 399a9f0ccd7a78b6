-- The loop invariant of `candidate_numbers_value`.
use Rattle.std.proofs.Common.{◌≡◌, map, take}
use Rattle.serde_json.specs.View.{view}
use Rattle.wire.specs.Replies.{number_data}
use Rattle.wire.proofs.read_responses.numbers.candidate_numbers_value.Given as goal

abbrev pub invariant-loop-number : goal.invariant-loop-number
invariant-loop-number l = map view l.values.items ≡ map number_data (take l.number-index l.numbers)
