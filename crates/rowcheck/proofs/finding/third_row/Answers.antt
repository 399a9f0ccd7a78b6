use Rattle.std.specs.Ordering.{nat_cmp, is_eq}
use Rattle.register.specs.declared.batches.ThirdClerk.{ThirdClerk}
use Rattle.register.specs.Offices.{ThirdEntry, third_entry, third_cmp}
use Rattle.rowcheck.proofs.FindingLemmas.{equal_either_way, first_found, follows_key, stand_in_order}
use Rattle.rowcheck.proofs.finding.third_row.Goals as goal

pub run_of-requires : goal.run_of-requires
run_of-requires c =
    rw c.deref.ensures.value (stand_in_order third_entry third_cmp (λ (x : ThirdEntry). nat_cmp x.batch c.args.batch)
    (follows_key (λ (x : ThirdEntry). x.batch) c.args.batch) c.args.rows.now.thirds.items c.requires.thirds)

pub returns : goal.returns
returns c =
    rw (c.first.ensures.value, c.run_of.ensures, c.deref.ensures.value)
    (first_found third_entry (λ (x : ThirdEntry). is_eq (nat_cmp c.args.batch x.batch)) (λ (x : ThirdClerk). is_eq (nat_cmp x.batch c.args.batch))
    (λ x. equal_either_way x.batch c.args.batch) c.args.rows.now.thirds.items)
