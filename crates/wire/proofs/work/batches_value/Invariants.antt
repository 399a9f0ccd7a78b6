-- The loop invariant of `batches_value`.
use Rattle.std.proofs.Common.{◌≡◌, map, take}
use Rattle.serde_json.specs.View.{view}
use Rattle.register.specs.Status.{work_entry}
use Rattle.wire.specs.Replies.{work_data}
use Rattle.wire.proofs.work.batches_value.Given as goal

abbrev pub invariant-loop-batch : goal.invariant-loop-batch
invariant-loop-batch l = map view l.values.items ≡ map work_data (map work_entry (take l.batch-index l.work))
