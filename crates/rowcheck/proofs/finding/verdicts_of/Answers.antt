use Rattle.std.proofs.Common.{◌==◌}
use Rattle.std.specs.Ordering.{nat_cmp, on, is_eq}
use Rattle.std.specs.Cmp.{unsigned_tied}
use Rattle.register.specs.declared.verdicts.JudgedPaper.{JudgedPaper}
use Rattle.register.specs.Offices.{JudgedEntry, judged_entry, judged_cmp}
use Rattle.rowcheck.proofs.FindingLemmas.{entries_found, follows, stand_in_order}
use Rattle.rowcheck.proofs.finding.verdicts_of.Goals as goal

pub run_of-requires : goal.run_of-requires
run_of-requires c =
    rw c.deref.ensures.value (stand_in_order judged_entry judged_cmp (λ (x : JudgedEntry). nat_cmp x.batch c.args.batch)
    (follows (λ (x : JudgedEntry). x.batch) c.args.batch (on (λ (x : JudgedEntry). x.paper) nat_cmp)) c.args.rows.now.verdicts.items c.requires.verdicts)

pub returns : goal.returns
returns c =
    rw (c.run_of.ensures, c.deref.ensures.value)
    (entries_found judged_entry (λ (x : JudgedEntry). x.batch == c.args.batch) (λ (x : JudgedPaper). is_eq (nat_cmp x.batch c.args.batch))
    (λ x. unsigned_tied x.batch c.args.batch) c.args.rows.now.verdicts.items)
