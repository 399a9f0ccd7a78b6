-- Proof that `find_rowid` meets its contract.
use Rattle.std.proofs.Common.{inl}
use Rattle.std.proofs.lemmas.Result.{err_from_is_err_and}
use Rattle.sqlite.specs.Values.{bound}
use Rattle.tables.proofs.RunLemmas.{if_stands_at}
use Rattle.tables.proofs.rowid_ranges.find_rowid.Goals as goal

pub returns-clause-there : goal.returns-clause-there
returns-clause-there g c clean many db begins rests =
    if_stands_at c.args.table (bound c.args.key.now) db c.in_ok-rows.rows.items c.in_ok-id.id (c.in_ok-rows.ensures.shows clean many db begins rests)
    (rw c.deref.ensures.value at c.in_ok-id.ensures.id)

pub returns-in_err-rows-clause-fails : goal.returns-in_err-rows-clause-fails
returns-in_err-rows-clause-fails g c clean many contents at kinds =
    let p = err_from_is_err_and c.from_residual.result c.from_residual.ensures.1 in
    rw (p.1, p.2) (c.in_err-rows.ensures.fails clean many contents at kinds)

pub returns-in_err-id-clause-fails : goal.returns-in_err-id-clause-fails
returns-in_err-id-clause-fails g c clean many contents at kinds =
    let p = err_from_is_err_and c.from_residual-in_err-id.result c.from_residual-in_err-id.ensures.1 in
    rw (p.1, p.2) (inl c.in_err-id.ensures.cause)
