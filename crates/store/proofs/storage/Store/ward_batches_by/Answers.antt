-- Proof that `ward_batches_by` meets its contract.
use Rattle.std.proofs.Common.{◌≡◌, ◌==◌, map, filter, List, rules, refl, sym, ap, ◌∙◌}
use Rattle.register.specs.Offices.{BatchEntry}
use Rattle.tables.specs.declared.fault.Fault.TheVariants.{Memory}
use Rattle.store.specs.Memories.{IsKnown, row_of}
use Rattle.store.specs.Overviews.{batch_view_of}
use Rattle.store.proofs.MemoryLemmas.{all_right, all_rows, one_of}
use Rattle.store.proofs.TwinLemmas.{views_more, rows_more}
use Rattle.store.proofs.LoadsLemmas.{loads_none, loads_as, loads_both, loads_cut, loads_stopped, entries_all}
use Rattle.store.proofs.storage.Store.ward_batches_by.Goals as goal

pub with_twin_in-requires : goal.with_twin_in-requires
with_twin_in-requires g c clean = c.loop-one.invariant.opens clean

pub loop-one-init : goal.loop-one-init
loop-one-init g c = loads_none c.requires (λ s is. λ all. search rules)

pub loop-one-preserved : goal.loop-one-preserved
loop-one-preserved g c =
    loads_as (loads_both c.loop-one.invariant c.in_ok-overview.ensures)
    (λ s is told. λ all.
    let own : IsKnown s c.one-item.result = one_of (IsKnown s) c.args.known.now c.loop-one.one-index c.one-item.result (all_right s c.args.known.now s.batches all) c.loop-one-test.true
    c.one-item.is in
    c.in-Ok.ensures
    ∙ views_more s c.args.ward _ (row_of c.one-item.result) _ _ (told.0 all) (told.1 all own)
    ∙ sym (ap (λ (bs : List BatchEntry). map (batch_view_of s) (filter (λ (b : BatchEntry). b.ward == c.args.ward) bs))
    (rows_more row_of c.args.known.now c.loop-one.one-index c.one-item.result c.loop-one-test.true c.one-item.is)))

pub returns-in_err-overview : goal.returns-in_err-overview
returns-in_err-overview g c = loads_cut c.from_residual.ensures.1 c.loop-one.invariant c.in_err-overview.ensures

pub returns-in_default : goal.returns-in_default
returns-in_default g c = loads_stopped {f = Memory} refl (loads_both c.loop-one.invariant c.in_ok-overview.ensures) (λ s is told. refl)

pub returns : goal.returns
returns g c =
    loads_as c.loop-one.invariant
    (λ s is told. λ all.
    told all ∙ ap (λ (bs : List BatchEntry). map (batch_view_of s) (filter (λ (b : BatchEntry). b.ward == c.args.ward) bs))
    (entries_all row_of c.args.known.now _ c.loop-one-test.false ∙ all_rows s c.args.known.now s.batches all))
