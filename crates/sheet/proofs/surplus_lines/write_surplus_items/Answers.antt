-- Proof that `write_surplus_items` meets its contract.
use Rattle.std.proofs.lemmas.List.{take_all}
use Rattle.sheet.specs.Entries.{shown}
use Rattle.sheet.specs.Surpluses.{surplus_item}
use Rattle.sheet.proofs.Writing.{Writes-none, Writes-item, Writes-item_cut}
use Rattle.sheet.proofs.surplus_lines.write_surplus_items.Goals as goal

pub loop-group-init : goal.loop-group-init
loop-group-init g c = Writes-none _ _

pub loop-group-preserved : goal.loop-group-preserved
loop-group-preserved g c =
    Writes-item (surplus_item (shown c.args.ward.now)) c.args.groups.now c.loop-group.group-index c.group-item.result _
    c.loop-group-test.true c.group-item.is c.loop-group.invariant c.in_ok-write_surplus_item.ensures

pub returns-in_err-write_surplus_item : goal.returns-in_err-write_surplus_item
returns-in_err-write_surplus_item g c =
    Writes-item_cut (surplus_item (shown c.args.ward.now)) c.args.groups.now c.loop-group.group-index c.group-item.result c.from_residual.result
    c.loop-group-test.true c.group-item.is c.loop-group.invariant c.in_err-write_surplus_item.ensures c.from_residual.ensures.0

pub returns : goal.returns
returns g c = rw (take_all _ _ c.loop-group-test.false) at c.loop-group.invariant
