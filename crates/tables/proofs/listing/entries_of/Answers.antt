-- Proof that `entries_of` meets its contract.
use Rattle.std.proofs.Common.{sym, arith, [], subst, ◌∙◌, inl, inr}
use Rattle.std.proofs.lemmas.Result.{err_from_is_err_and}
use Rattle.tables.proofs.ListLemmas.{get_any}
use Rattle.tables.proofs.listing.entries_of.Goals as goal

pub returns-in_err-entry-clause-cause : goal.returns-in_err-entry-clause-cause
returns-in_err-entry-clause-cause g c =
    let p = err_from_is_err_and c.from_residual.result c.from_residual.ensures.1 in
    rw (p.1, p.2) (elim c.in_err-entry.ensures.cause [
      | inl memory ↦ inl memory
      | inr wrong ↦ inr (
        wrong.0,
        (
          c.loop-row.row-index,
          omega arith,
          λ it. wrong.1
              (subst g.E.Entries.is_row (get_any c.args.rows.now c.loop-row.row-index [] c.row-item.result (omega arith) ∙ sym c.row-item.is) it),
        ),
      )
    ])
