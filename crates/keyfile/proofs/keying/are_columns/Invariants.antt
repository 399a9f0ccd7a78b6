-- The invariant of the loop in `are_columns`.
use Rattle.std.proofs.Common.{◌≡◌, map, drop}
use Rattle.keyfile.specs.Keying.{are_columns}
use Rattle.keyfile.proofs.keying.are_columns.Given as goal

abbrev pub invariant-loop-column : goal.invariant-loop-column
invariant-loop-column l = are_columns (map (λ t. t.now) l.rest) (drop l.column-index l.columns) ≡ are_columns (map (λ t. t.now) l.texts) l.columns
