-- Proof that `all_rows` meets its contract.
use Rattle.std.proofs.lemmas.Result.{err_from_is_err_and}
use Rattle.tables.proofs.ListingLemmas.{in_order_listed}
use Rattle.tables.proofs.reading.all_rows.Goals as goal

pub returns-in-Ok-clause-lists : goal.returns-in-Ok-clause-lists
returns-in-Ok-clause-lists g c clean db begins rests =
    in_order_listed c.args.table db c.in_ok-rows.rows.items c.put_in_order.new.rows.items (c.in_ok-rows.ensures.scans clean db begins rests) c.put_in_order.ensures.same
    c.in-Ok.ensures.sorted

pub returns-in_err-rows-clause-cause : goal.returns-in_err-rows-clause-cause
returns-in_err-rows-clause-cause g c =
    let p = err_from_is_err_and c.from_residual.result c.from_residual.ensures.1 in
    rw (p.1, p.2) c.in_err-rows.ensures.cause

pub returns-in_err-rows-clause-fails : goal.returns-in_err-rows-clause-fails
returns-in_err-rows-clause-fails g c clean db begins rests =
    let p = err_from_is_err_and c.from_residual.result c.from_residual.ensures.1 in
    rw (p.1, p.2) (c.in_err-rows.ensures.fails clean db begins rests)
