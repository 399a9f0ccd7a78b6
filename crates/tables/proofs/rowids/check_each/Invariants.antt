-- The invariant of the loop in `check_each`.
use Rattle.std.proofs.Common.{◌≡◌, ℕ, ◌+◌, ◌<◌, get_or, [], true, Less}
use Rattle.sqlite.specs.Order.{value_cmp}
use Rattle.sqlite.specs.View.{is_int}
use Rattle.sqlite.specs.Tree.{rowid}
use Rattle.tables.proofs.rowids.check_each.Given as goal

abbrev pub invariant-loop-i : goal.invariant-loop-i
invariant-loop-i l = record {
  ints : (k : ℕ) → k < l.i → is_int (rowid (get_or l.rows k [])) ≡ true;
  rise : (k : ℕ) → k + 1 < l.i → value_cmp (rowid (get_or l.rows k [])) (rowid (get_or l.rows (k + 1) [])) ≡ Less;
}
