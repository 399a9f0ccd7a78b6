-- Proof that `add_stages` meets its contract.
use Rattle.std.proofs.Common.{◌++◌, map, Result, Ok, Err, OnOk, reverse, sym, ap, ◌∙◌}
use Rattle.count.specs.Law.Places.{place}
use Rattle.register.specs.Offices.{ward_entry}
use Rattle.register.specs.Tabulated.{placed_entry, figure_entry}
use Rattle.rowcheck.proofs.CountedBookLemmas.{counted-papers, counted-bundles, counted-figures}
use Rattle.rowcheck.proofs.counts.add_stages.Goals as goal

both_ok : {T E P Q R : Type 0} (r : Result T E) → (P → Q → R) → OnOk r P → OnOk r Q → OnOk r R
both_ok (Ok x) join p q = join p q
both_ok (Err e) join p q = tt

pub returns : goal.returns
returns c =
    both_ok c.add.result
    (λ bundles figures e has.
    let ward = ward_entry c.args.ward.now in
    let book = c.args.book.now in
    let own = c.places.ensures.bundles c.args.bundles.now c.len.ensures.bundles (counted-papers e ward c.args.columns.now c.args.bundles.now book has) in
    record {
      bundles =
          bundles (place book.contest book.history) (c.places.ensures.places ∙ ap (map _) (sym own))
          ∙ ap (λ added. map placed_entry c.args.tabulation.now.bundles.items ++ added) (counted-bundles e ward c.args.columns.now c.args.bundles.now book has c.if-ward-eq0.false);
      figures =
          figures ∙ ap (λ added. map figure_entry c.args.tabulation.now.figures.items ++ added)
          (counted-figures e ward c.args.columns.now c.args.bundles.now book has c.if-ward-eq0.false (reverse c.stages.result.now) c.stages.ensures.is);
    })
    c.add.ensures.bundles c.add.ensures.figures
