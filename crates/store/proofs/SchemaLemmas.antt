-- The schema of an office created in memory.
use Rattle.std.proofs.Common.{◌≡◌, true, IsTrue, refl, ap, ◌∙◌}
use Rattle.sqlite_schema.specs.declared.schema.Table.{Table}
use Rattle.sqlite_trees.specs.View.{doubt}
use Rattle.sqlite.specs.State.{State, HasCleanDisk}
use Rattle.sqlite.specs.Steps.{IsEmpty}
use Rattle.register.specs.Offices.{empty_office}
use Rattle.tables.specs.Schema.{IsOfficeSchema}
use Rattle.store.specs.StateTables.{tables_of, IsAt}
use Rattle.store.specs.Openings.{IsBlank}
use Rattle.store.proofs.ReopenLemmas.{begins}

-- an empty database is blank
pub empty_blank : (st : State) → IsEmpty st → IsBlank st
empty_blank st empty = record { is_open = empty.0.is_open; outside = empty.0.autocommit; settled = empty.0.clean; schema = empty.2; sound = (empty.1 empty.0.is_open).0 }

-- the disk of a store in memory is clean
pub clean_memory : doubt true ≡ 0
unfolding doubt
clean_memory = refl

-- an office created in an empty database has the schema of an office
pub made_schema : (old new : State) → HasCleanDisk new → IsTrue new.is_open → IsEmpty old → (HasCleanDisk new → IsBlank old → IsAt empty_office new) → IsOfficeSchema new.now.schema
made_schema old new clean is_open empty made = begins (tables_of empty_office) new.now ((made clean (empty_blank old empty)).rests is_open).office

-- tables with the same parts are equal
pub same_table : (x y : Table) → (x.name ≡ y.name) × (x.tree ≡ y.tree) × (x.key ≡ y.key) × (x.is_counted ≡ y.is_counted)
    → (x.columns ≡ y.columns) × (x.primary ≡ y.primary) × (x.uniques ≡ y.uniques) × (x.orders ≡ y.orders)
    → (x.checks ≡ y.checks) × (x.references ≡ y.references) × (x.computed ≡ y.computed) × (x.stamps ≡ y.stamps) → x ≡ y
same_table x y names columns rules =
    ap (λ v. record x { name = v }) names.0
    ∙ ap (λ v. record x { name = y.name; tree = v }) names.1
    ∙ ap (λ v. record x { name = y.name; tree = y.tree; key = v }) names.2
    ∙ ap (λ v. record x { name = y.name; tree = y.tree; key = y.key; is_counted = v }) names.3
    ∙ ap (λ v. record x { name = y.name; tree = y.tree; key = y.key; is_counted = y.is_counted; columns = v }) columns.0
    ∙ ap (λ v. record x { name = y.name; tree = y.tree; key = y.key; is_counted = y.is_counted; columns = y.columns; primary = v }) columns.1
    ∙ ap (λ v. record y { uniques = v; orders = x.orders; checks = x.checks; references = x.references; computed = x.computed; stamps = x.stamps }) columns.2
    ∙ ap (λ v. record y { orders = v; checks = x.checks; references = x.references; computed = x.computed; stamps = x.stamps }) columns.3
    ∙ ap (λ v. record y { checks = v; references = x.references; computed = x.computed; stamps = x.stamps }) rules.0
    ∙ ap (λ v. record y { references = v; computed = x.computed; stamps = x.stamps }) rules.1
    ∙ ap (λ v. record y { computed = v; stamps = x.stamps }) rules.2
    ∙ ap (λ v. record y { stamps = v }) rules.3
