-- The loop invariant of `list_value`.
use Rattle.std.proofs.Common.{◌≡◌, map, take}
use Rattle.serde_json.specs.View.{view}
use Rattle.store.specs.Overviews.{batch_view}
use Rattle.wire.specs.OfficeReplies.{batch_data}
use Rattle.wire.proofs.read_responses.batches.list_value.Given as goal

abbrev pub invariant-loop-batch : goal.invariant-loop-batch
invariant-loop-batch l = map view l.values.items ≡ map batch_data (map batch_view (take l.batch-index l.batches))
