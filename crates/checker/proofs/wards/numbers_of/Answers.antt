-- Proof that `numbers_of` meets its contract.
use Rattle.checker.proofs.WardLemmas.{number_more, number_is, numbers_done}
use Rattle.checker.proofs.wards.numbers_of.Goals as goal

pub with-columns-requires-clause-some : goal.with-columns-requires-clause-some
with-columns-requires-clause-some c = (number_is c.args.ward.now.candidates.now c.loop-candidate.candidate-index c.candidate-item.result c.requires.candidate_set
    c.loop-candidate-test.true c.candidate-item.is).0

pub with-columns-requires-clause-few : goal.with-columns-requires-clause-few
with-columns-requires-clause-few c = (number_is c.args.ward.now.candidates.now c.loop-candidate.candidate-index c.candidate-item.result c.requires.candidate_set
    c.loop-candidate-test.true c.candidate-item.is).1

pub loop-candidate-preserved : goal.loop-candidate-preserved
loop-candidate-preserved c =
    number_more c.args.ward.now.candidates.now c.loop-candidate.candidate-index c.candidate-item.result c.loop-candidate.columns c.with-columns.result
    c.requires.candidate_set c.loop-candidate-test.true c.candidate-item.is c.loop-candidate.invariant c.with-columns.ensures.last

pub returns : goal.returns
returns c = numbers_done c.args.ward.now.candidates.now c.loop-candidate.candidate-index c.loop-candidate.columns c.loop-candidate.invariant c.loop-candidate-test.false
