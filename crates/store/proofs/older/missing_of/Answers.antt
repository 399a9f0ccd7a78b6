-- Proof that `missing_of` meets its contract.
use Rattle.std.proofs.Common.{◌≡◌, true, false, sym, ◌∙◌, rules}
use Rattle.register.specs.Tabulated.{tabulation_entries}
use Rattle.store.proofs.MigrationLemmas.{asked, if_lacking}
use Rattle.store.proofs.older.missing_of.Goals as goal

pub returns-then-are_about_thirds-clause-none : goal.returns-then-are_about_thirds-clause-none
returns-then-are_about_thirds-clause-none c =
    let yes : c.are_about_thirds.result ≡ true = search rules in
    asked c.args.rows.now c.args.form (sym (rw c.deref.ensures.value at c.are_about_thirds.ensures) ∙ yes)

pub returns-in-Ok-Some-clause-some : goal.returns-in-Ok-Some-clause-some
returns-in-Ok-Some-clause-some c =
    let unasked : c.are_about_thirds.result ≡ false = search rules in
    if_lacking c.missing_tabulation.result c.args.rows.now c.args.form (tabulation_entries c.in-Ok-Some.counted)
    (sym (rw c.deref.ensures.value at c.are_about_thirds.ensures) ∙ unasked) c.requires.bare
    (rw c.in-Ok-Some.field-0-is at c.in-Ok-Some.ensures.some) c.missing_tabulation.ensures.some
