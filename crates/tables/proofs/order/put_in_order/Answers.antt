-- Proof that `put_in_order` meets its contract.
use Rattle.std.proofs.Common.{rules, is_lt}
use Rattle.std.proofs.lemmas.Result.{on_ok_weaker}
use Rattle.std.proofs.lemmas.List.Sorted.{ranks_by}
use Rattle.std.proofs.lemmas.Fn.{always_returns_same}
use Rattle.tables.specs.Rows.{row_cmp}
use Rattle.tables.proofs.OrderLemmas.{row_total}
use Rattle.tables.proofs.order.put_in_order.Goals as goal

pub returns-clause-sorted : goal.returns-clause-sorted
returns-clause-sorted c =
    on_ok_weaker c.sort_by.result
    (λ sorted. sorted (λ a b. is_lt (row_cmp c.args.table a b)) (ranks_by (row_total c.args.table) (λ row. row)) (always_returns_same _ _ _ (λ a r f k. search rules)))
    c.sort_by.ensures.sorted
