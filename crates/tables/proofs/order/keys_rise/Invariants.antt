-- The invariant of the loop in `keys_rise`.
use Rattle.std.proofs.Common.{◌≡◌, ℕ, ◌+◌, ◌<◌, get_or, [], Less}
use Rattle.tables.specs.Rows.{row_cmp}
use Rattle.tables.proofs.order.keys_rise.Given as goal

abbrev pub invariant-loop-i : goal.invariant-loop-i
invariant-loop-i l = (k : ℕ) → k + 1 < l.i → row_cmp l.table (get_or l.rows k []) (get_or l.rows (k + 1) []) ≡ Less
