use Rattle.rowcheck.proofs.CandidateWalkLemmas.{walked}
use Rattle.rowcheck.proofs.nominations.all_nominated.Goals as goal

pub returns : goal.returns
returns c = rw (c.are_nominated.ensures, c.deref.ensures.value, c.deref-2.ensures.value) (walked c.args.rows.now c.requires)
