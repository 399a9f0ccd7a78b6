-- Proof that `put_escaped` meets its contract.
use Rattle.std.proofs.Common.{slice_index}
use Rattle.std.proofs.lemmas.List.{take_all, get_or_default}
use Rattle.sheet.specs.Lines.{escaped}
use Rattle.sheet.proofs.Writing.{Puts-none, Puts-item, Puts-item_cut}
use Rattle.sheet.proofs.line.put_escaped.Goals as goal

pub loop-byte-init : goal.loop-byte-init
loop-byte-init g c = Puts-none _ _

pub loop-byte-preserved : goal.loop-byte-preserved
loop-byte-preserved g c =
    Puts-item escaped c.args.bytes.now c.loop-byte.byte-index (slice_index c.args.bytes.now c.loop-byte.byte-index) _ c.loop-byte-test.true
    (get_or_default c.args.bytes.now c.loop-byte.byte-index 0 _ c.loop-byte-test.true) c.loop-byte.invariant c.in_ok-put_escaped_byte.ensures

pub returns-in_err-put_escaped_byte : goal.returns-in_err-put_escaped_byte
returns-in_err-put_escaped_byte g c =
    Puts-item_cut escaped c.args.bytes.now c.loop-byte.byte-index (slice_index c.args.bytes.now c.loop-byte.byte-index) c.from_residual.result c.loop-byte-test.true
    (get_or_default c.args.bytes.now c.loop-byte.byte-index 0 _ c.loop-byte-test.true) c.loop-byte.invariant c.in_err-put_escaped_byte.ensures c.from_residual.ensures.0

pub returns : goal.returns
returns g c = rw (take_all _ _ c.loop-byte-test.false) at c.loop-byte.invariant
