use Rattle.desk.specs.WardStatus.{ward_words}
use Rattle.desk.proofs.ward_status.ward_words.Goals as goal

pub returns : goal.returns
unfolding ward_words
returns c = rw (← c.phase_word-phase.ensures) c.format.ensures.ok
