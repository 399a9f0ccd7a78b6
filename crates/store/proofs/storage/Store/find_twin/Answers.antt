-- Proof that `find_twin` meets its contract.
use Rattle.std.proofs.Common.{◌≡◌, true, map, find, List, Option, refl, sym, ap, ◌∙◌, None, option_map}
use Rattle.register.specs.Offices.{BatchEntry}
use Rattle.store.specs.Overviews.{is_twin}
use Rattle.store.specs.Memories.{IsKnown, row_of}
use Rattle.store.proofs.TwinLemmas.{find_more, find_here, rows_more, rows_split}
use Rattle.store.proofs.MemoryLemmas.{one_of}
use Rattle.store.proofs.LoadsLemmas.{loads_none, loads_as, loads_both, loads_cut, entries_all}
use Rattle.store.proofs.storage.Store.find_twin.Goals as goal

pub is_twin-requires : goal.is_twin-requires
is_twin-requires g c clean = c.loop-other.invariant.opens clean

pub loop-other-init : goal.loop-other-init
loop-other-init g c = loads_none c.requires (λ s is. λ own taken are. refl)

pub loop-other-preserved : goal.loop-other-preserved
loop-other-preserved g c =
    loads_as (loads_both c.loop-other.invariant c.in_ok-is_twin.ensures)
    (λ s is told. λ own taken are.
    let p = is_twin s (row_of c.args.one.now) in
    let other : IsKnown s c.other-item.result = one_of (IsKnown s) c.args.known.now c.loop-other.other-index c.other-item.result are c.loop-other-test.true c.other-item.is in
    ap (find p) (rows_more row_of c.args.known.now c.loop-other.other-index c.other-item.result c.loop-other-test.true c.other-item.is)
    ∙ find_more p _ (row_of c.other-item.result) (told.0 own taken are) (sym (told.1 own taken other) ∙ c.if-is_twin.false))

pub returns-in_err-is_twin : goal.returns-in_err-is_twin
returns-in_err-is_twin g c = loads_cut c.from_residual.ensures.1 c.loop-other.invariant c.in_err-is_twin.ensures

pub returns-then-is_twin : goal.returns-then-is_twin
returns-then-is_twin g c =
    loads_as (loads_both c.loop-other.invariant c.in_ok-is_twin.ensures)
    (λ s is told. λ own taken are.
    let p = is_twin s (row_of c.args.one.now) in
    let other : IsKnown s c.other-item.result = one_of (IsKnown s) c.args.known.now c.loop-other.other-index c.other-item.result are c.loop-other-test.true c.other-item.is in
    sym (ap (λ (o : Option BatchEntry). option_map (λ (b : BatchEntry). b.number) o)
    (ap (find p) (rows_split row_of c.args.known.now c.loop-other.other-index c.other-item.result c.loop-other-test.true c.other-item.is)
    ∙ find_here p _ (row_of c.other-item.result) _ (told.0 own taken are) (sym (told.1 own taken other) ∙ c.if-is_twin.true))))

pub returns : goal.returns
returns g c =
    loads_as c.loop-other.invariant
    (λ s is told. λ own taken are.
    sym (ap (λ (o : Option BatchEntry). option_map (λ (b : BatchEntry). b.number) o)
    (ap (find (is_twin s (row_of c.args.one.now))) (sym (entries_all row_of c.args.known.now _ c.loop-other-test.false)) ∙ told own taken are)))
