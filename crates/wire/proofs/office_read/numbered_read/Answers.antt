-- Proof that `numbered_read` meets its contract.
use Rattle.std.proofs.Common.{sym}
use Rattle.wire.proofs.OfficeTargetLemmas.{of-actor, of-batches, of-wards}
use Rattle.wire.proofs.office_read.numbered_read.Goals as goal

pub returns-then-starts_with : goal.returns-then-starts_with
returns-then-starts_with c = of-wards c.args.target.now c.ward_read.result (sym c.if-starts_with.ensures.value) c.ward_read.ensures

pub returns-then-starts_with-2 : goal.returns-then-starts_with-2
returns-then-starts_with-2 c =
    of-batches c.args.target.now c.batch_read.result (sym c.if-starts_with.ensures.value) (sym c.if-starts_with-2.ensures.value) c.batch_read.ensures

pub returns-in-Some : goal.returns-in-Some
returns-in-Some c =
    of-actor c.args.target.now _ (sym c.if-starts_with.ensures.value) (sym c.if-starts_with-2.ensures.value) (sym c.if-starts_with-3.ensures.value) c.in-Some.ensures

pub returns-in-None : goal.returns-in-None
returns-in-None c =
    of-actor c.args.target.now _ (sym c.if-starts_with.ensures.value) (sym c.if-starts_with-2.ensures.value) (sym c.if-starts_with-3.ensures.value) c.in-None.ensures
