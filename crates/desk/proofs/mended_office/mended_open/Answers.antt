-- Proof that `mended_open` meets its contract.
use Rattle.std.proofs.Common.{◌∙◌, inl, inr, refl, sym, subst, ap, List, length, map, string_bytes}
use Rattle.sqlite.specs.Held.{state}
use Rattle.register.specs.declared.command.Request.{Request}
use Rattle.tables.proofs.ReadLemmas.{only_reads_itself}
use Rattle.office.specs.Runs.{LeadTo}
use Rattle.mending.specs.declared.changes.Changes.{Changes}
use Rattle.desk.specs.Journals.{IsScriptOf}
use Rattle.desk.specs.Mends.{script_of}
use Rattle.desk.specs.Pages.{page_of}
use Rattle.desk.proofs.MendLemmas.{ends_unbegun, unbegun}
use Rattle.desk.proofs.mended_office.mended_open.Goals as goal

-- the texts after `--with` aren't orders that can be sent, or an allocation failed
pub returns-in-Err-clause-made : goal.returns-in-Err-clause-made
returns-in-Err-clause-made g c clean is_open s at journal mended blank second =
    inr (unbegun c.args.asked.now (page_of c.in-Err.outcome) (rw c.deref.ensures.value at c.in-Err.ensures.err), refl)

pub returns-in-Err-clause-stays : goal.returns-in-Err-clause-stays
returns-in-Err-clause-stays g c clean is_open s at = inl (record { is_open = is_open; at = at })

pub returns-in-Err-clause-reads : goal.returns-in-Err-clause-reads
returns-in-Err-clause-reads g c = only_reads_itself (state g.S.Store c.args.office.now.held)

pub returns-in-Err-clause-whole : goal.returns-in-Err-clause-whole
returns-in-Err-clause-whole g c honest blank trees may = inl may

-- the orders of the office couldn't be read
pub returns-in-Err-found-clause-made : goal.returns-in-Err-found-clause-made
returns-in-Err-found-clause-made g c clean is_open s at journal mended blank second =
    inr (inr (rw c.in-Err-found.is at c.orders_and_wards-found.ensures.told), refl)

pub returns-in-Err-found-clause-whole : goal.returns-in-Err-found-clause-whole
returns-in-Err-found-clause-whole g c honest blank trees may = inl may

-- the changes were tried
pub returns-clause-made : goal.returns-clause-made
returns-clause-made g c clean is_open s at journal mended blank second =
    let found = rw c.in-Ok-found.is at (c.orders_and_wards-found.ensures.leads clean is_open s at journal blank) in
    let changes : Changes = record { orders = c.deref-2.result; without = c.deref-3.result; instead = c.deref-4.result } in
    let script = rw c.deref.ensures.value at c.in-Ok.ensures.ok in
    let tried = rw c.deref-5.ensures.value at (c.checked-outcome.ensures.made mended second) in
    inl (
      changes,
      record {
        orders = subst (λ (l : List Request). LeadTo l s) (sym c.deref-2.ensures.value) found.0;
        without = ap (map string_bytes) c.deref-3.ensures.value;
        instead = subst (λ (l : List Request). IsScriptOf (script_of (map string_bytes c.args.asked.now.instead.items)) l) (sym c.deref-4.ensures.value) script;
        each = ap length c.deref-4.ensures.value ∙ c.in-Ok.ensures.each ∙ ap length c.deref.ensures.value;
      },
      rw found.1 at tried,
    )

-- what is reported about the new database
pub returns-in-Err-clause-holds : goal.returns-in-Err-clause-holds
returns-in-Err-clause-holds g c =
    ends_unbegun c.args.asked.now (page_of c.in-Err.outcome) (unbegun c.args.asked.now (page_of c.in-Err.outcome) (rw c.deref.ensures.value at c.in-Err.ensures.err))

pub returns-in-Err-found-clause-holds : goal.returns-in-Err-found-clause-holds
returns-in-Err-found-clause-holds g c =
    ends_unbegun c.args.asked.now (page_of c.in-Err-found.outcome) (inr (rw c.in-Err-found.is at c.orders_and_wards-found.ensures.told))
