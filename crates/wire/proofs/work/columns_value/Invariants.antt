-- The loop invariant of `columns_value`.
use Rattle.std.proofs.Common.{◌≡◌, map, take}
use Rattle.serde_json.specs.View.{view}
use Rattle.wire.specs.Replies.{number_data}
use Rattle.wire.proofs.work.columns_value.Given as goal

abbrev pub invariant-loop-column : goal.invariant-loop-column
invariant-loop-column l = map view l.values.items ≡ map number_data (take l.column-index l.column-items)
