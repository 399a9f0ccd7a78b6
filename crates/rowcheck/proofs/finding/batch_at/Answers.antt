use Rattle.std.specs.Ordering.{nat_cmp, is_eq}
use Rattle.register.specs.declared.batches.Batch.{Batch}
use Rattle.register.specs.Offices.{BatchEntry, batch_entry, batch_cmp}
use Rattle.rowcheck.proofs.FindingLemmas.{equal_either_way, first_found, follows_key, stand_in_order}
use Rattle.rowcheck.proofs.finding.batch_at.Goals as goal

pub run_of-requires : goal.run_of-requires
run_of-requires c =
    rw c.deref.ensures.value (stand_in_order batch_entry batch_cmp (λ (x : BatchEntry). nat_cmp x.number c.args.number)
    (follows_key (λ (x : BatchEntry). x.number) c.args.number) c.args.rows.now.batches.items c.requires.batches)

pub returns : goal.returns
returns c =
    rw (c.first.ensures.value, c.run_of.ensures, c.deref.ensures.value)
    (first_found batch_entry (λ (x : BatchEntry). is_eq (nat_cmp c.args.number x.number)) (λ (x : Batch). is_eq (nat_cmp x.number c.args.number))
    (λ x. equal_either_way x.number c.args.number) c.args.rows.now.batches.items)
