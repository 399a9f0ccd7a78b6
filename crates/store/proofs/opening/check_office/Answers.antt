-- Proof that `check_office` meets its contract.
use Rattle.std.proofs.Common.{subst}
use Rattle.std.proofs.lemmas.Result.{err_from_is_err_and}
use Rattle.store.specs.EntryRows.{this_version}
use Rattle.store.specs.Openings.{FaultOfRows}
use Rattle.store.proofs.TellLemmas.{never_older, store_office, version_held, office_told}
use Rattle.store.proofs.opening.check_office.Goals as goal

pub returns-clause-holds : goal.returns-clause-holds
returns-clause-holds g c clean db begins sound rests =
    let row = rw c.deref.ensures.value at c.in_ok-check_rows.ensures.version in
    version_held this_version db begins sound c.in_ok-rows.rows.items (c.in_ok-rows.ensures.lists clean db begins rests) row.0 row.1 row.2

pub returns-in_err-rows-clause-told : goal.returns-in_err-rows-clause-told
returns-in_err-rows-clause-told g c clean db begins sound rests =
    let p = err_from_is_err_and c.from_residual.result c.from_residual.ensures.1 in
    rw (p.1, p.2) (store_office db _ (c.in_err-rows.ensures.cause clean db begins rests))

pub returns-in_err-check_rows-clause-told : goal.returns-in_err-check_rows-clause-told
returns-in_err-check_rows-clause-told g c clean db begins sound rests =
    let p = err_from_is_err_and c.from_residual-in_err-check_rows.result c.from_residual-in_err-check_rows.ensures.1 in
    rw (p.1, p.2) (office_told db begins sound c.in_ok-rows.rows.items (c.in_ok-rows.ensures.lists clean db begins rests) _ (rw c.deref.ensures.value at c.in_err-check_rows.ensures.told))

pub returns-in_err-rows-clause-fails : goal.returns-in_err-rows-clause-fails
returns-in_err-rows-clause-fails g c clean db has rests =
    let p = err_from_is_err_and c.from_residual.result c.from_residual.ensures.1 in
    rw (p.1, p.2) (c.in_err-rows.ensures.fails clean db has rests)

pub returns-in_err-check_rows-clause-fails : goal.returns-in_err-check_rows-clause-fails
returns-in_err-check_rows-clause-fails g c clean db has rests =
    let p = err_from_is_err_and c.from_residual-in_err-check_rows.result c.from_residual-in_err-check_rows.ensures.1 in
    rw (p.1, p.2) (λ store. absurd (subst (FaultOfRows c.deref.result.now) store c.in_err-check_rows.ensures.told))

pub returns-in_err-rows-clause-older : goal.returns-in_err-rows-clause-older
returns-in_err-rows-clause-older g c clean db has rests =
    let p = err_from_is_err_and c.from_residual.result c.from_residual.ensures.1 in
    rw (p.1, p.2) (λ same. never_older _ (c.in_err-rows.ensures.cause clean db has rests) same)

pub returns-in_err-check_rows-clause-older : goal.returns-in_err-check_rows-clause-older
returns-in_err-check_rows-clause-older g c clean db has rests =
    let p = err_from_is_err_and c.from_residual-in_err-check_rows.result c.from_residual-in_err-check_rows.ensures.1 in
    rw (p.1, p.2) (λ same. c.in_ok-rows.ensures.opens clean)
