-- Proof that `work_in` meets its contract.
use Rattle.std.proofs.Common.{◌≡◌, map, take, refl, sym, ap, ◌∙◌, ◌++◌, ◌∷◌, [], rules}
use Rattle.std.specs.Option.{option_to_list}
use Rattle.register.specs.Offices.{batch_entry}
use Rattle.register.specs.Status.{work_entry}
use Rattle.tables.specs.declared.fault.Fault.TheVariants.{Memory}
use Rattle.store.proofs.WorkLemmas.{work_among, more_work}
use Rattle.store.proofs.LoadsLemmas.{loads_none, loads_as, loads_both, loads_cut, loads_stopped, entries_more, entries_all, no_batch}
use Rattle.store.proofs.storage.Store.work_in.Goals as goal
use Rattle.store.proofs.storage.Store.work_in.Goals.{in-Some+else-is_err, in_default}

pub loop-batch-init : goal.loop-batch-init
loop-batch-init g c = loads_none c.requires (λ s is. search rules)

pub loop-batch-preserved : goal.loop-batch-preserved
loop-batch-preserved g c =
    let k = c.loop-batch.batch-index in
    let next = entries_more batch_entry c.args.batches.now k no_batch c.loop-batch-test.true in
    let grown : c.match-branch-2.found.items ≡ c.loop-batch.found.items ++ option_to_list c.in_ok-work.field-0 = elim c.match-branch-2.branch [
      | in-Some+else-is_err w ↦ let pushed : w.push.new.self.items ≡ c.loop-batch.found.items ++ w.in-Some.work ∷ [] = search rules in rw (w.found-is, w.in-Some.is) pushed
      | in_default w ↦ search rules
    ] in
    loads_as (loads_both c.loop-batch.invariant c.in_ok-work.ensures)
    (λ s is told.
    ap (map work_entry) grown
    ∙ more_work s c.args.clerk (take k (map batch_entry c.args.batches.now)) _ c.loop-batch.found.items c.in_ok-work.field-0 told.0 told.1
    ∙ ap (work_among s c.args.clerk) (sym next))

pub returns-in_err-work : goal.returns-in_err-work
returns-in_err-work g c = loads_cut c.from_residual.ensures.1 c.loop-batch.invariant c.in_err-work.ensures

pub returns-then-is_err : goal.returns-then-is_err
returns-then-is_err g c = loads_stopped {f = Memory} refl (loads_both c.loop-batch.invariant c.in_ok-work.ensures) (λ s is told. refl)

pub returns : goal.returns
returns g c = loads_as c.loop-batch.invariant (λ s is told. told ∙ ap (work_among s c.args.clerk) (entries_all batch_entry c.args.batches.now _ c.loop-batch-test.false))
