-- Proof that `read_stored_count` meets its contract.
use Rattle.std.proofs.Common.{map, refl, ap, ◌∙◌}
use Rattle.register.specs.Offices.{ward_entry, candidate_entry}
use Rattle.register.specs.Marks.{columns_of}
use Rattle.register.specs.Elections.{ElectionEntry}
use Rattle.register.specs.Tabulated.{AreOfCount, placed_entry, figure_entry}
use Rattle.store.specs.Elections.{election_in}
use Rattle.store.proofs.ElectionLemmas.{some_found}
use Rattle.store.proofs.LoadsLemmas.{loads_as, loads_both, loads_cut}
use Rattle.store.proofs.storage.Store.read_stored_count.Goals as goal

pub returns-in-Ok : goal.returns-in-Ok
returns-in-Ok g c =
    loads_as (loads_both c.in_ok-bundles.ensures c.in_ok-figures.ensures)
    (λ s is told there begun.
    let w = ward_entry c.args.contest.now.ward in
    let e : ElectionEntry = election_in s c.args.contest.now in
    let law = c.tabulations_are_ordered.ensures in
    let counted = law.counted s w is there.0 begun in
    let of : AreOfCount e c.columns_of.result w.seats (map placed_entry c.in_ok-bundles.bundles.items) (map figure_entry c.in_ok-figures.figures.items) = record {
      begun = begun;
      fair = counted.fair;
      papers_are_bundled = counted.papers_are_bundled;
      candidates_are = c.columns_of.ensures.is ∙ ap columns_of (ap (map candidate_entry) c.deref.ensures.value ∙ there.1);
      seats_are = refl;
      bundles_are = told.0 ∙ law.bundles s w is there.0;
      figures_are = told.1 ∙ law.figures s w is there.0;
    } in
    let found = some_found c.in-Ok.kept ((rw (c.deref-2.ensures.value, c.deref-3.ensures.value) at c.in-Ok.ensures.some) e of)
    (rw (c.deref-2.ensures.value, c.deref-3.ensures.value) at c.in-Ok.ensures.is) in
    (found.0, found.1, found.2 e of))

pub returns-in_err-figures : goal.returns-in_err-figures
returns-in_err-figures g c = loads_cut c.from_residual-in_err-figures.ensures.1 c.in_ok-bundles.ensures c.in_err-figures.ensures
