use Rattle.std.proofs.Common.{is_some}
use Rattle.std.proofs.lemmas.List.Folds.{list_all-map}
use Rattle.register.specs.Offices.{BatchEntry, JudgedEntry, batch_entry, judged_entry, batch_at, verdicts_of}
use Rattle.register.specs.BatchConditions.{is_judged}
use Rattle.rowcheck.specs.States.{state_of}
use Rattle.rowcheck.proofs.verdicts.all_judged.Goals as goal

pub returns : goal.returns
returns c =
    rw (
      c.are_of_batches-owned.ensures,
      c.are_judged.ensures,
      c.deref.ensures.value,
      c.deref-2.ensures.value,
      list_all-map (λ (v : JudgedEntry). is_some (batch_at (state_of c.args.rows.now) v.batch)) judged_entry c.args.rows.now.verdicts.items,
      list_all-map (λ (b : BatchEntry). is_judged (state_of c.args.rows.now) b (verdicts_of (state_of c.args.rows.now) b.number)) batch_entry c.args.rows.now.batches.items,
    )
