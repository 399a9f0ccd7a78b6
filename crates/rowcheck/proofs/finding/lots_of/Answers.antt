use Rattle.std.proofs.Common.{◌==◌}
use Rattle.std.specs.Ordering.{nat_cmp, on, is_eq}
use Rattle.std.specs.Cmp.{unsigned_tied}
use Rattle.register.specs.declared.counts.DrawnLot.{DrawnLot}
use Rattle.register.specs.Offices.{LotEntry, lot_entry, lot_cmp}
use Rattle.rowcheck.proofs.FindingLemmas.{entries_found, follows, stand_in_order}
use Rattle.rowcheck.proofs.finding.lots_of.Goals as goal

pub run_of-requires : goal.run_of-requires
run_of-requires c =
    rw c.deref.ensures.value (stand_in_order lot_entry lot_cmp (λ (x : LotEntry). nat_cmp x.ward c.args.ward)
    (follows (λ (x : LotEntry). x.ward) c.args.ward (on (λ (x : LotEntry). x.stage) nat_cmp)) c.args.rows.now.lots.items c.requires.lots)

pub returns : goal.returns
returns c =
    rw (c.run_of.ensures, c.deref.ensures.value)
    (entries_found lot_entry (λ (x : LotEntry). x.ward == c.args.ward) (λ (x : DrawnLot). is_eq (nat_cmp x.ward c.args.ward)) (λ x. unsigned_tied x.ward c.args.ward) c.args.rows.now.lots.items)
