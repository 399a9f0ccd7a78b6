-- Proof that `replace_entries` meets its contract.
use Rattle.std.proofs.Common.{◌≡◌, List, [], map, get_or, sym, ap, subst, ◌∙◌, arith}
use Rattle.std.proofs.lemmas.List.{take_all}
use Rattle.sqlite.specs.Order.{Row}
use Rattle.sqlite.specs.Held.{state}
use Rattle.tables.specs.Contents.{Sees, replaced_all}
use Rattle.tables.proofs.ListLemmas.{get_mapped, mapped_length}
use Rattle.tables.proofs.ChangeLemmas.{none_replaced, next_replaced}
use Rattle.tables.proofs.AlterLemmas.{alters_none, alters_told, alters_both, alters_cut}
use Rattle.tables.proofs.writing.replace_entries.Goals as goal

pub loop-entry-init : goal.loop-entry-init
loop-entry-init g c = alters_none (λ contents sees. none_replaced g.E.Entries.TABLE contents (state g.S.Store c.args.tx.now.conn.now) sees)

pub loop-entry-preserved : goal.loop-entry-preserved
loop-entry-preserved g c =
    let rows = map g.E.Entries.row_of c.args.entries.now in
    let k = c.loop-entry.entry-index in
    let is : get_or rows k [] ≡ g.E.Entries.row_of c.entry-item.result =
    get_mapped g.E.Entries.row_of c.args.entries.now k [] c.entry-item.result (omega arith) ∙ ap g.E.Entries.row_of (sym c.entry-item.is)
    in
    alters_both c.loop-entry.invariant c.in_ok-replace_entry.ensures
    (λ contents from sees. (
      _,
      sees,
      λ given.
          next_replaced g.E.Entries.TABLE rows k (g.E.Entries.row_of c.entry-item.result) (omega (arith, mapped_length g.E.Entries.row_of c.args.entries.now)) is contents
          (state g.S.Store c.replace_entry.new.tx.conn.now) given,
    ))

pub returns-in_err-replace_entry : goal.returns-in_err-replace_entry
returns-in_err-replace_entry g c = alters_cut c.from_residual.ensures.1 c.loop-entry.invariant c.in_err-replace_entry.ensures

pub returns : goal.returns
returns g c =
    let rows = map g.E.Entries.row_of c.args.entries.now in
    alters_told c.loop-entry.invariant
    (λ contents sees. (
      contents,
      sees,
      λ given.
          subst (λ (l : List Row). Sees (replaced_all g.E.Entries.TABLE l contents) (state g.S.Store c.loop-entry.tx.conn.now))
          (take_all c.loop-entry.entry-index rows (omega (arith, mapped_length g.E.Entries.row_of c.args.entries.now, c.loop-entry-test.false))) given,
    ))
