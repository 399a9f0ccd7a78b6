use Rattle.std.proofs.Common.{◌==◌}
use Rattle.std.specs.Ordering.{nat_cmp, on, then_cmp, is_eq}
use Rattle.std.specs.Cmp.{unsigned_tied}
use Rattle.register.specs.declared.keyings.KeyedPaper.{KeyedPaper}
use Rattle.register.specs.Offices.{KeyedEntry, keyed_entry, keyed_cmp}
use Rattle.rowcheck.proofs.FindingLemmas.{entries_found, follows, stand_in_order}
use Rattle.rowcheck.proofs.finding.papers_of.Goals as goal

pub run_of-requires : goal.run_of-requires
run_of-requires c =
    rw c.deref.ensures.value (stand_in_order keyed_entry keyed_cmp (λ (x : KeyedEntry). nat_cmp x.batch c.args.batch)
    (follows (λ (x : KeyedEntry). x.batch) c.args.batch (then_cmp (on (λ (x : KeyedEntry). x.round) nat_cmp)
    (then_cmp (on (λ (x : KeyedEntry). x.clerk) nat_cmp) (on (λ (x : KeyedEntry). x.paper) nat_cmp)))) c.args.rows.now.keyings.items c.requires.keyings)

pub returns : goal.returns
returns c =
    rw (c.run_of.ensures, c.deref.ensures.value)
    (entries_found keyed_entry (λ (x : KeyedEntry). x.batch == c.args.batch) (λ (x : KeyedPaper). is_eq (nat_cmp x.batch c.args.batch))
    (λ x. unsigned_tied x.batch c.args.batch) c.args.rows.now.keyings.items)
