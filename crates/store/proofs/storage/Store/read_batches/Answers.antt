-- Proof that `read_batches` meets its contract.
use Rattle.std.proofs.Common.{◌≡◌, ◌++◌, ◌∷◌, [], map, rules, refl, sym, ap, ◌∙◌}
use Rattle.std.proofs.lemmas.List.{map-append}
use Rattle.std.proofs.lemmas.Iterator.Adapters.{YieldsList-from_vec}
use Rattle.std.proofs.lemmas.Iterator.Consumers.{YieldsList-end}
use Rattle.register.specs.Offices.{batch_entry}
use Rattle.tables.specs.declared.fault.Fault.TheVariants.{Memory}
use Rattle.tables.proofs.ListLemmas.{mapped_itself}
use Rattle.store.specs.Piles.{read_view, read_view_of}
use Rattle.store.proofs.OverviewLemmas.{mapped_more}
use Rattle.store.proofs.LoadsLemmas.{loads_none, loads_as, loads_both, loads_cut, loads_stopped}
use Rattle.store.proofs.storage.Store.read_batches.Goals as goal

pub loop-batch-init : goal.loop-batch-init
loop-batch-init g c = record { goes = (tt, tt); reads = loads_none c.requires (λ s is. search rules) }

pub loop-batch-preserved : goal.loop-batch-preserved
loop-batch-preserved g c =
    let grown : c.push.new.self.items ≡ c.loop-batch.found.items ++ c.in_ok-read.read ∷ [] = search rules in
    let done = c.loop-batch.yielded in
    let b = c.in-Some.batch in
    record {
      goes = (tt, tt);
      reads = loads_as (loads_both c.loop-batch.invariant.reads c.in_ok-read.ensures)
          (λ s is told.
          ap (map read_view) grown
          ∙ mapped_more read_view (read_view_of s c.args.ward) c.loop-batch.found.items c.in_ok-read.read (map batch_entry done) (batch_entry b) told.0 told.1
          ∙ ap (map (read_view_of s c.args.ward)) (sym (map-append batch_entry done (b ∷ []))));
    }

pub returns-in_err-read : goal.returns-in_err-read
returns-in_err-read g c = loads_cut c.from_residual.ensures.1 c.loop-batch.invariant.reads c.in_err-read.ensures

pub returns-then-is_err : goal.returns-then-is_err
returns-then-is_err g c = loads_stopped {f = Memory} refl (loads_both c.loop-batch.invariant.reads c.in_ok-read.ensures) (λ s is told. refl)

pub returns : goal.returns
returns g c =
    let road = YieldsList-from_vec c.args.batches.items (search rules) (search rules) in
    let all : c.loop-batch.yielded ≡ c.args.batches.items = sym (mapped_itself c.loop-batch.yielded) ∙
    (YieldsList-end road c.loop-batch.yielded _ c.loop-batch.yielded_by _ c.next.new.self c.in-None.is c.next.ensures.steps).0 in
    loads_as c.loop-batch.invariant.reads (λ s is told. told ∙ ap (map (read_view_of s c.args.ward)) (ap (map batch_entry) all))
