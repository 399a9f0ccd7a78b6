-- The loop invariant of `list_value`.
use Rattle.std.proofs.Common.{◌≡◌, map, take}
use Rattle.serde_json.specs.View.{view}
use Rattle.store.specs.Overviews.{doubtful_view}
use Rattle.wire.specs.OfficeReplies.{doubtful_data}
use Rattle.wire.proofs.read_responses.doubtful.list_value.Given as goal

abbrev pub invariant-loop-paper : goal.invariant-loop-paper
invariant-loop-paper l = map view l.values.items ≡ map doubtful_data (map doubtful_view (take l.paper-index l.papers))
