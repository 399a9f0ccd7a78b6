-- The invariant of the loop in `row_values`.
use Rattle.std.proofs.Common.{◌≡◌, ℕ, map, take, pos}
use Rattle.sqlite.specs.declared.types.Value.TheVariants.{Int}
use Rattle.sqlite.specs.Values.{bound}
use Rattle.tables.proofs.value_conversion.row_values.Given as goal

abbrev pub invariant-loop-n : goal.invariant-loop-n
invariant-loop-n l = bound l.values.items ≡ map (λ (n : ℕ). Int (pos n)) (take l.n-index l.numbers)
