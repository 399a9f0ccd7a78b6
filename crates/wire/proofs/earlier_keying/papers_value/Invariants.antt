-- The loop invariant of `papers_value`.
use Rattle.std.proofs.Common.{◌≡◌, map, take}
use Rattle.serde_json.specs.View.{view}
use Rattle.register.specs.Offices.{keyed_entry}
use Rattle.wire.specs.Replies.{marks_data}
use Rattle.wire.proofs.earlier_keying.papers_value.Given as goal

abbrev pub invariant-loop-keyed : goal.invariant-loop-keyed
invariant-loop-keyed l = map view l.values.items ≡ map marks_data (map keyed_entry (take l.keyed-index l.papers))
