-- Proof that `ward_overviews_by` meets its contract.
use Rattle.std.proofs.Common.{◌≡◌, ◌++◌, ◌∷◌, [], map, length, rules, refl, sym, ap, ◌∙◌}
use Rattle.std.proofs.lemmas.Iterator.Adapters.{YieldsList-from_vec}
use Rattle.std.proofs.lemmas.Iterator.Consumers.{YieldsList-end, YieldsList-turn}
use Rattle.register.specs.declared.wards.Ward.{Ward}
use Rattle.register.specs.Offices.{ward_entry}
use Rattle.tables.specs.declared.fault.Fault.TheVariants.{Memory}
use Rattle.tables.proofs.ListLemmas.{mapped_twice, mapped_itself}
use Rattle.store.specs.Overviews.{ward_view, ward_view_of}
use Rattle.store.proofs.OverviewLemmas.{mapped_more, ward_there}
use Rattle.store.proofs.LoadsLemmas.{loads_none, loads_as, loads_both, loads_cut, loads_stopped}
use Rattle.store.proofs.storage.Store.ward_overviews_by.Goals as goal

pub ward_overview_by-requires : goal.ward_overview_by-requires
ward_overview_by-requires g c clean = c.loop-ward.invariant.reads.opens clean

pub loop-ward-init : goal.loop-ward-init
loop-ward-init g c = record { goes = (tt, tt); reads = loads_none c.requires (λ s is. λ same known. search rules) }

pub loop-ward-preserved : goal.loop-ward-preserved
loop-ward-preserved g c =
    let road = YieldsList-from_vec c.args.wards.items (search rules) (search rules) in
    let turn = YieldsList-turn road c.loop-ward.yielded _ c.loop-ward.yielded_by _ c.next.new.self c.in-Some.ward c.in-Some.is c.next.ensures.steps in
    let grown : c.push.new.self.items ≡ c.loop-ward.found.items ++ c.in_ok-overview.overview ∷ [] = search rules in
    record {
      goes = (tt, tt);
      reads = loads_as (loads_both c.loop-ward.invariant.reads c.in_ok-overview.ensures)
          (λ s is told. λ same known.
          ap (map ward_view) grown
          ∙ mapped_more ward_view (λ (w : Ward). ward_view_of s (ward_entry w)) c.loop-ward.found.items c.in_ok-overview.overview c.loop-ward.yielded c.in-Some.ward
          (told.0 same known) (told.1 (ward_there s is c.args.wards.items same (length c.loop-ward.yielded) c.in-Some.ward turn.0 turn.1) known));
    }

pub returns-in_err-overview : goal.returns-in_err-overview
returns-in_err-overview g c = loads_cut c.from_residual.ensures.1 c.loop-ward.invariant.reads c.in_err-overview.ensures

pub returns-then-is_err : goal.returns-then-is_err
returns-then-is_err g c = loads_stopped {f = Memory} refl (loads_both c.loop-ward.invariant.reads c.in_ok-overview.ensures) (λ s is told. refl)

pub returns : goal.returns
returns g c =
    let road = YieldsList-from_vec c.args.wards.items (search rules) (search rules) in
    let all : c.loop-ward.yielded ≡ c.args.wards.items = sym (mapped_itself c.loop-ward.yielded) ∙
    (YieldsList-end road c.loop-ward.yielded _ c.loop-ward.yielded_by _ c.next.new.self c.in-None.is c.next.ensures.steps).0 in
    loads_as c.loop-ward.invariant.reads
    (λ s is told. λ same known.
    told same known ∙ ap (map (λ (w : Ward). ward_view_of s (ward_entry w))) all ∙ sym (mapped_twice ward_entry (ward_view_of s) c.args.wards.items) ∙ ap (map (ward_view_of s)) same)
