-- Proof that `open_stages` meets its contract.
use Rattle.std.proofs.Common.{◌∙◌, sym, refl, length, take, arith}
use Rattle.std.proofs.lemmas.List.{take_all}
use Rattle.sheet.specs.Entries.{shown}
use Rattle.checker.proofs.StageLaws.{shown_found, shown_otherwise}
use Rattle.checker.proofs.folder_wards.open_stages.Goals as goal

pub returns-then-branch : goal.returns-then-branch
returns-then-branch c =
    shown_found (shown c.args.ward.now) c.args.all.now (take c.loop-done.done c.args.all.now) c.args.text.now c.loop-done.done c.requires.stages refl
    (sym c.in_ok-is_sheet.ensures ∙ c.if-branch.true)

pub returns-then-branch-2 : goal.returns-then-branch-2
returns-then-branch-2 c =
    let all = c.args.all.now in
    shown_found (shown c.args.ward.now) all all c.args.text.now (length all) c.requires.stages (sym (take_all (length all) all (omega arith)))
    (sym c.in_ok-is_sheet-2.ensures ∙ c.if-branch-2.true)

pub returns : goal.returns
returns c =
    shown_otherwise (shown c.args.ward.now) c.args.all.now c.first_stages.result.now c.args.text.now (λ k below. c.loop-done.invariant k (omega (arith, below, c.loop-done-test.false)))
    (sym c.in_ok-is_sheet-2.ensures ∙ c.if-branch-2.false) c.first_stages.ensures
