-- Proof that `add_next` meets its contract.
use Rattle.std.proofs.Common.{◌+◌, length, Some, refl, sym, ◌∙◌}
use Rattle.sheet.proofs.SurplusLemmas.{advances_by, always_ok, appended_ok, lot_here, next_drawn, passed_surplus}
use Rattle.sheet.proofs.surpluses.add_next.Goals as goal

pub returns-in_ok-groups-in-Some-clause-ok : goal.returns-in_ok-groups-in-Some-clause-ok
returns-in_ok-groups-in-Some-clause-ok c =
    let contest = c.args.book.now.contest in
    let old = c.args.book.now.history in
    let lot = lot_here c.args.lots.now c.lot_at-lot.result c.stages.result.now old (length c.stages.result.now + 1) c.stages.ensures.is refl c.lot_at-lot.ensures in
    always_ok c.append.result (advances_by contest c.args.lots.now old c.transferred.new.book.history c.lot_at-lot.result lot c.in_ok-groups-in-Some.ensures.ok)

pub returns-in_ok-groups-in-Some-clause-is : goal.returns-in_ok-groups-in-Some-clause-is
returns-in_ok-groups-in-Some-clause-is c =
    let contest = c.args.book.now.contest in
    let old = c.args.book.now.history in
    let lot = lot_here c.args.lots.now c.lot_at-lot.result c.stages.result.now old (length c.stages.result.now + 1) c.stages.ensures.is refl c.lot_at-lot.ensures in
    let next = next_drawn contest c.args.lots.now old c.lot_at-lot.result (Some c.in-Ok.action) lot c.in-Ok.ensures.ok in
    appended_ok c.append.result _ _ _ _ c.append.ensures.items
    (passed_surplus contest c.args.lots.now c.args.bundles.now old c.args.found.now.items c.in_ok-groups-in-Some.groups.items c.in-Ok.action c.in-Some.c next
    (sym c.surplus_by.ensures ∙ c.in-Some.is) c.in_ok-groups-in-Some.ensures.is)
