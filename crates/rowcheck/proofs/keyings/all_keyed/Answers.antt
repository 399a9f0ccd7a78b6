use Rattle.std.proofs.Common.{sym, is_some}
use Rattle.std.proofs.lemmas.List.Folds.{list_all-map}
use Rattle.register.specs.Offices.{KeyedEntry, batch_entry, keyed_entry, batch_at}
use Rattle.rowcheck.specs.States.{state_of}
use Rattle.rowcheck.specs.Walks.Keyings.{is_rightly_keyed}
use Rattle.rowcheck.proofs.OwnerLemmas.{keyed_by_batch}
use Rattle.rowcheck.proofs.keyings.all_keyed.Goals as goal

pub returns : goal.returns
returns c =
    rw (
      c.are_of_batches-owned.ensures,
      c.are_rightly_keyed.ensures,
      c.deref.ensures.value,
      c.deref-2.ensures.value,
      sym (list_all-map (λ (k : KeyedEntry). is_some (batch_at (state_of c.args.rows.now) k.batch)) keyed_entry c.args.rows.now.keyings.items),
      sym (list_all-map (is_rightly_keyed (state_of c.args.rows.now)) batch_entry c.args.rows.now.batches.items),
    )
    (keyed_by_batch (state_of c.args.rows.now) c.requires.batches)
