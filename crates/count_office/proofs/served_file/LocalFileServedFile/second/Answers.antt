-- Proof that a comparison with a second record of an open office meets the contract: the office is only read.
use Rattle.count_office.proofs.served_file.LocalFileServedFile.second.Goals as goal

pub returns-clause-clean : goal.returns-clause-clean
returns-clause-clean g c clean = c.second_served.ensures.reads.clean clean
