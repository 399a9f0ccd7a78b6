-- Proof that `all_known` meets its contract.
use Rattle.std.proofs.Common.{◌≡◌, ◌++◌, ◌∷◌, [], map, rules, refl, sym, ap, ◌∙◌}
use Rattle.std.proofs.lemmas.List.{map-append}
use Rattle.std.proofs.lemmas.Iterator.Adapters.{YieldsList-from_vec}
use Rattle.std.proofs.lemmas.Iterator.Consumers.{YieldsList-end}
use Rattle.register.specs.Offices.{batch_entry}
use Rattle.tables.specs.declared.fault.Fault.TheVariants.{Memory}
use Rattle.tables.proofs.ListLemmas.{mapped_itself}
use Rattle.store.specs.Memories.{known_of, known_view}
use Rattle.store.proofs.OverviewLemmas.{mapped_more}
use Rattle.store.proofs.LoadsLemmas.{loads_none, loads_as, loads_both, loads_cut, loads_stopped}
use Rattle.store.proofs.storage.Store.all_known.Goals as goal

pub known_or_read-requires : goal.known_or_read-requires
known_or_read-requires g c clean = c.loop-batch.invariant.reads.opens clean

pub loop-batch-init : goal.loop-batch-init
loop-batch-init g c = record { goes = (tt, tt); reads = loads_none c.requires (λ s is. λ are. search rules) }

pub loop-batch-preserved : goal.loop-batch-preserved
loop-batch-preserved g c =
    let grown : c.push.new.self.items ≡ c.loop-batch.found.items ++ c.in_ok-one.one ∷ [] = search rules in
    let done = c.loop-batch.yielded in
    let b = c.in-Some.batch in
    record {
      goes = (tt, tt);
      reads = loads_as (loads_both c.loop-batch.invariant.reads c.in_ok-one.ensures)
          (λ s is told. λ are.
          ap (map known_view) grown
          ∙ mapped_more known_view (known_of s) c.loop-batch.found.items c.in_ok-one.one (map batch_entry done) (batch_entry b) (told.0 are) (told.1 are)
          ∙ ap (map (known_of s)) (sym (map-append batch_entry done (b ∷ []))));
    }

pub returns-in_err-one : goal.returns-in_err-one
returns-in_err-one g c = loads_cut c.from_residual.ensures.1 c.loop-batch.invariant.reads c.in_err-one.ensures

pub returns-then-is_err : goal.returns-then-is_err
returns-then-is_err g c = loads_stopped {f = Memory} refl (loads_both c.loop-batch.invariant.reads c.in_ok-one.ensures) (λ s is told. refl)

pub returns : goal.returns
returns g c =
    let road = YieldsList-from_vec c.args.batches.items (search rules) (search rules) in
    let all : c.loop-batch.yielded ≡ c.args.batches.items = sym (mapped_itself c.loop-batch.yielded) ∙
    (YieldsList-end road c.loop-batch.yielded _ c.loop-batch.yielded_by _ c.next.new.self c.in-None.is c.next.ensures.steps).0 in
    loads_as c.loop-batch.invariant.reads (λ s is told. λ are. told are ∙ ap (map (known_of s)) (ap (map batch_entry) all))
