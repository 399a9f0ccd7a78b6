-- Proof that `write_preferences` meets its contract.
use Rattle.std.proofs.Common.{slice_index}
use Rattle.std.proofs.lemmas.List.{take_all, get_or_default}
use Rattle.sheet.specs.Lines.{preference}
use Rattle.sheet.proofs.Writing.{Writes-none, Writes-item, Writes-item_cut}
use Rattle.sheet.proofs.line.write_preferences.Goals as goal

pub loop-c-init : goal.loop-c-init
loop-c-init g c = Writes-none _ _

pub loop-c-preserved : goal.loop-c-preserved
loop-c-preserved g c =
    Writes-item preference c.args.list.now c.loop-c.c-index (slice_index c.args.list.now c.loop-c.c-index) _ c.loop-c-test.true
    (get_or_default c.args.list.now c.loop-c.c-index 0 _ c.loop-c-test.true) c.loop-c.invariant c.in_ok-write_preference.ensures

pub returns-in_err-write_preference : goal.returns-in_err-write_preference
returns-in_err-write_preference g c =
    Writes-item_cut preference c.args.list.now c.loop-c.c-index (slice_index c.args.list.now c.loop-c.c-index) c.from_residual.result c.loop-c-test.true
    (get_or_default c.args.list.now c.loop-c.c-index 0 _ c.loop-c-test.true) c.loop-c.invariant c.in_err-write_preference.ensures c.from_residual.ensures.0

pub returns : goal.returns
returns g c = rw (take_all _ _ c.loop-c-test.false) at c.loop-c.invariant
