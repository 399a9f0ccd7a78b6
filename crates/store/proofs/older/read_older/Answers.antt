-- Proof that `read_older` meets its contract.
use Rattle.std.proofs.Common.{sym, ap, ◌∙◌}
use Rattle.std.proofs.lemmas.Result.{err_from_is_err_and}
use Rattle.sqlite.specs.Effect.{Database}
use Rattle.tables.specs.Presence.{tables_present}
use Rattle.store.proofs.MigrationLemmas.{form_schema, none_of_schema}
use Rattle.store.proofs.older.read_older.Goals as goal

pub returns-in-None-clause-told : goal.returns-in-None-clause-told
returns-in-None-clause-told g c clean db is rests = none_of_schema db (λ form same. c.in-None.ensures.none form (ap (λ (d : Database). tables_present d.schema) rests.now ∙ same))

pub returns-in_err-missing-clause-told : goal.returns-in_err-missing-clause-told
returns-in_err-missing-clause-told g c clean db is rests =
    let schema = form_schema c.in-Some.form db.schema is (sym (ap (λ (d : Database). tables_present d.schema) rests.now) ∙ c.in-Some.ensures.some) in
    let p = err_from_is_err_and c.from_residual.result c.from_residual.ensures.1 in
    rw (p.1, p.2) (c.in_err-missing.ensures.told clean db schema rests)

pub returns-in_err-missing-clause-fails : goal.returns-in_err-missing-clause-fails
returns-in_err-missing-clause-fails g c clean db is rests =
    let schema = form_schema c.in-Some.form db.schema is (sym (ap (λ (d : Database). tables_present d.schema) rests.now) ∙ c.in-Some.ensures.some) in
    let p = err_from_is_err_and c.from_residual.result c.from_residual.ensures.1 in
    rw (p.1, p.2) (c.in_err-missing.ensures.fails clean db schema rests)
