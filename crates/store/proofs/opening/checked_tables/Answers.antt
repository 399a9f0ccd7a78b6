-- Proof that `checked_tables` meets its contract.
use Rattle.std.proofs.Common.{◌≡◌, true, false, sym, ◌∙◌, rules}
use Rattle.std.proofs.lemmas.Result.{err_from_is_err_and}
use Rattle.rowcheck.specs.States.{state_of, tabulated}
use Rattle.tables.specs.declared.fault.Fault.TheVariants.{Memory, Store}
use Rattle.store.proofs.TellLemmas.{maps_are, entries_held}
use Rattle.store.proofs.opening.checked_tables.Goals as goal

pub returns-then-of_state-clause-holds : goal.returns-then-of_state-clause-holds
returns-then-of_state-clause-holds g c clean db has sound rests =
    let of : c.in_ok-of_state.of_state ≡ true = search rules in
    let s = state_of c.in_ok-rows.rows in
    let lists = c.in_ok-rows.ensures.lists.lists clean db has rests in
    let is = c.in_ok-of_state.ensures.some of in
    (entries_held db has sound s (tabulated c.in_ok-rows.rows) is lists, is.1)

pub returns-else-of_state-clause-told : goal.returns-else-of_state-clause-told
returns-else-of_state-clause-told g c clean db has rests =
    let not : c.in_ok-of_state.of_state ≡ false = search rules in
    let lists = c.in_ok-rows.ensures.lists.lists clean db has rests in
    λ s holds. c.in_ok-of_state.ensures.none not (maps_are db (state_of c.in_ok-rows.rows) s (tabulated c.in_ok-rows.rows) lists holds)

pub returns-in_err-rows-clause-told : goal.returns-in_err-rows-clause-told
returns-in_err-rows-clause-told g c clean db has rests =
    let p = err_from_is_err_and c.from_residual.result c.from_residual.ensures.1 in
    rw (p.1, p.2) (c.in_err-rows.ensures.lists.told clean db has rests)

pub returns-in_err-rows-clause-fails : goal.returns-in_err-rows-clause-fails
returns-in_err-rows-clause-fails g c clean db has rests =
    let p = err_from_is_err_and c.from_residual.result c.from_residual.ensures.1 in
    rw (p.1, p.2) (c.in_err-rows.ensures.lists.fails clean db has rests)

pub returns-in_err-of_state-clause-fails : goal.returns-in_err-of_state-clause-fails
returns-in_err-of_state-clause-fails g c clean db has rests =
    let p = err_from_is_err_and c.from_residual-in_err-of_state.result c.from_residual-in_err-of_state.ensures.1 in
    let memory = c.in_err-of_state.ensures.cause in
    rw (p.1, p.2) (λ store. absurd (let no : Memory ≡ Store = sym memory ∙ store in cc))
