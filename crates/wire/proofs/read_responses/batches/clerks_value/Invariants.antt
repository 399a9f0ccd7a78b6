-- The loop invariant of `clerks_value`.
use Rattle.std.proofs.Common.{◌≡◌, map, take}
use Rattle.serde_json.specs.View.{view}
use Rattle.store.specs.Overviews.{clerk_view}
use Rattle.wire.specs.OfficeReplies.{batch_clerk_data}
use Rattle.wire.proofs.read_responses.batches.clerks_value.Given as goal

abbrev pub invariant-loop-clerk : goal.invariant-loop-clerk
invariant-loop-clerk l = map view l.values.items ≡ map batch_clerk_data (map clerk_view (take l.clerk-index l.clerks))
