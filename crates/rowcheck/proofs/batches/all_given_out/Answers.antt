use Rattle.std.proofs.lemmas.List.Folds.{list_all-map}
use Rattle.register.specs.Offices.{ThirdEntry, batch_entry, third_entry, batch_at}
use Rattle.register.specs.BatchConditions.{is_given_out, is_third_for}
use Rattle.rowcheck.specs.States.{state_of}
use Rattle.rowcheck.proofs.batches.all_given_out.Goals as goal

pub returns : goal.returns
returns c =
    rw (
      c.are_given_out-given_out.ensures,
      c.are_set_right.ensures,
      c.deref.ensures.value,
      c.deref-2.ensures.value,
      list_all-map (is_given_out (state_of c.args.rows.now)) batch_entry c.args.rows.now.batches.items,
      list_all-map (λ (t : ThirdEntry). is_third_for t (batch_at (state_of c.args.rows.now) t.batch)) third_entry c.args.rows.now.thirds.items,
    )
