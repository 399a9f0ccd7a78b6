-- Proof that `write_bundle_lines` meets its contract.
use Rattle.std.proofs.Common.{rules, ◌≡◌, [], ◌∷◌, ◌++◌, ap, ◌∙◌, append-nil}
use Rattle.sheet.proofs.Bundles.{Writes-bundle, Writes-bundle_cut}
use Rattle.sheet.proofs.Writing.{Writes-none}
use Rattle.sheet.proofs.ballots.write_bundle_lines.Goals as goal

pub loop-list-init : goal.loop-list-init
loop-list-init g c = record { done = []; parted = search rules; text = Writes-none _ _ }

pub loop-list-preserved : goal.loop-list-preserved
loop-list-preserved g c =
    let steps : c.loop-list.list-iterator ≡ (c.in-Some.list.now, c.in-Some.papers.now) ∷ c.next.new.self = search rules in
    Writes-bundle _ _ _ _ steps c.loop-list.invariant c.in_ok-write_bundle_line.ensures

pub returns-in_err-write_bundle_line : goal.returns-in_err-write_bundle_line
returns-in_err-write_bundle_line g c =
    let steps : c.loop-list.list-iterator ≡ (c.in-Some.list.now, c.in-Some.papers.now) ∷ c.next.new.self = search rules in
    Writes-bundle_cut _ _ _ _ c.from_residual.result steps c.loop-list.invariant c.in_err-write_bundle_line.ensures c.from_residual.ensures.0

pub returns : goal.returns
returns g c =
    let done = c.loop-list.invariant.done in
    let none : c.loop-list.list-iterator ≡ [] = search rules in
    rw (c.loop-list.invariant.parted ∙ ap (λ bs. done ++ bs) none ∙ append-nil done) c.loop-list.invariant.text
