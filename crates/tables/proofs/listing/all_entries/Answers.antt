-- Proof that `all_entries` meets its contract.
use Rattle.std.proofs.Common.{◌≡◌, inl, inr, [], map, refl, sym, subst, ◌∙◌}
use Rattle.std.proofs.lemmas.Result.{err_from_is_err_and}
use Rattle.std.specs.List.Sorted.{IsStrictlySortedBy}
use Rattle.tables.specs.Rows.{at, column_places, begins_with, is_row_of, row_cmp}
use Rattle.tables.specs.declared.fault.Fault.TheVariants.{Memory, Store, Damaged}
use Rattle.tables.specs.Reading.{ListsKeyed}
use Rattle.tables.proofs.ListLemmas.{all_mapped}
use Rattle.tables.proofs.HoldLemmas.{shown_rows, none_held}
use Rattle.tables.proofs.OrderLemmas.{rows_rise}
use Rattle.tables.proofs.ListingLemmas.{order_shown}
use Rattle.tables.proofs.listing.all_entries.Goals as goal

pub returns-clause-lists : goal.returns-clause-lists
returns-clause-lists g c clean db begins rests =
    let t = g.E.Entries.TABLE in
    let rows = c.in_ok-rows.rows.items in
    let keyed = (rw c.TABLE.ensures at (c.in_ok-rows.ensures.lists clean db)) begins rests in
    let shown : rows ≡ map g.E.Entries.row_of c.in_ok-entries.entries.items = sym (shown_rows t (begins_with []) db rows keyed.lists) ∙ (rw c.deref-2.ensures.value at c.in_ok-entries.ensures.reads) in
    record {
      all = subst (ListsKeyed t db) shown keyed;
      typed = all_mapped (is_row_of t) g.E.Entries.row_of (g.met.E.Entries.typed) c.in_ok-entries.entries.items;
      rise = subst (IsStrictlySortedBy (row_cmp t)) shown (rw (c.TABLE-2.ensures, c.deref.ensures.value) at (c.keys_rise.ensures.rise c.if-not-keys_rise.false));
    }

pub returns-clause-rise : goal.returns-clause-rise
returns-clause-rise g c =
    let t = g.E.Entries.TABLE in
    let rows = c.in_ok-rows.rows.items in
    let up : IsStrictlySortedBy (row_cmp t) rows = rw (c.TABLE-2.ensures, c.deref.ensures.value) at (c.keys_rise.ensures.rise c.if-not-keys_rise.false) in
    subst (IsStrictlySortedBy (row_cmp t)) (rw c.deref-2.ensures.value at c.in_ok-entries.ensures.reads) (rows_rise (at (column_places t)) (row_cmp t) (row_cmp t) (order_shown t) rows up)

pub returns-in_err-rows-clause-cause : goal.returns-in_err-rows-clause-cause
returns-in_err-rows-clause-cause g c clean db begins rests =
    let p = err_from_is_err_and c.from_residual.result c.from_residual.ensures.1 in
    rw (p.1, p.2) (elim ((rw c.TABLE.ensures at (c.in_err-rows.ensures.cause clean db)) begins rests) [ inl memory ↦ inl memory | inr store ↦ inr (inl store) ])

pub returns-then-not-keys_rise-clause-cause : goal.returns-then-not-keys_rise-clause-cause
returns-then-not-keys_rise-clause-cause g c clean db begins rests =
    let keyed = (rw c.TABLE.ensures at (c.in_ok-rows.ensures.lists clean db)) begins rests in
    inr (inr (
      refl,
      none_held g.E.Entries.TABLE g.E.Entries.is_row db c.in_ok-rows.rows.items keyed.lists
          (inr (rw (c.TABLE-2.ensures, c.deref.ensures.value) at (c.keys_rise.ensures.fall c.if-not-keys_rise.true))),
    ))

pub returns-in_err-entries-clause-cause : goal.returns-in_err-entries-clause-cause
returns-in_err-entries-clause-cause g c clean db begins rests =
    let keyed = (rw c.TABLE.ensures at (c.in_ok-rows.ensures.lists clean db)) begins rests in
    let p = err_from_is_err_and c.from_residual-in_err-entries.result c.from_residual-in_err-entries.ensures.1 in
    rw (p.1, p.2) (elim c.in_err-entries.ensures.cause [
      | inl memory ↦ inl memory
      | inr wrong ↦ inr (inr (wrong.0, none_held g.E.Entries.TABLE g.E.Entries.is_row db c.in_ok-rows.rows.items keyed.lists (inl (rw c.deref-2.ensures.value at wrong.1))))
    ])

pub returns-in_err-rows-clause-fails : goal.returns-in_err-rows-clause-fails
returns-in_err-rows-clause-fails g c clean db begins rests =
    let p = err_from_is_err_and c.from_residual.result c.from_residual.ensures.1 in
    rw (p.1, p.2) ((rw c.TABLE.ensures at (c.in_err-rows.ensures.fails clean db)) begins rests)

pub returns-in_err-entries-clause-fails : goal.returns-in_err-entries-clause-fails
returns-in_err-entries-clause-fails g c clean db begins rests =
    let p = err_from_is_err_and c.from_residual-in_err-entries.result c.from_residual-in_err-entries.ensures.1 in
    rw (p.1, p.2) (λ store. absurd (elim c.in_err-entries.ensures.cause [
      | inl memory ↦ let no : Memory ≡ Store = sym memory ∙ store in cc
      | inr wrong ↦ let no : Damaged ≡ Store = sym wrong.0 ∙ store in cc
    ]))
