-- Proof that `write_each` meets its contract.
use Rattle.std.proofs.Common.{string_bytes}
use Rattle.std.proofs.lemmas.List.{take_all}
use Rattle.std.proofs.lemmas.List.Folds.{flat_map-map}
use Rattle.sheet.proofs.Writing.{Writes-none, Writes-item, Writes-item_cut}
use Rattle.sheet.proofs.each_candidate.write_each.Goals as goal

pub loop-candidate-init : goal.loop-candidate-init
loop-candidate-init g c = Writes-none _ _

pub loop-candidate-preserved : goal.loop-candidate-preserved
loop-candidate-preserved g c =
    Writes-item (λ candidate. g.T.OfCandidate.text c.args.told.now candidate.0 (string_bytes candidate.1)) c.args.ward.now.candidates.now c.loop-candidate.candidate-index c.candidate-item.result _
    c.loop-candidate-test.true c.candidate-item.is c.loop-candidate.invariant c.in_ok-write.ensures

pub returns-in_err-write : goal.returns-in_err-write
returns-in_err-write g c =
    rw flat_map-map (Writes-item_cut (λ candidate. g.T.OfCandidate.text c.args.told.now candidate.0 (string_bytes candidate.1)) c.args.ward.now.candidates.now
    c.loop-candidate.candidate-index c.candidate-item.result c.from_residual.result
    c.loop-candidate-test.true c.candidate-item.is c.loop-candidate.invariant c.in_err-write.ensures c.from_residual.ensures.0)

pub returns : goal.returns
returns g c = rw flat_map-map (rw (take_all _ _ c.loop-candidate-test.false) at c.loop-candidate.invariant)
