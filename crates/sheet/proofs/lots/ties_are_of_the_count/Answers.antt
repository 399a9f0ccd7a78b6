-- Proof that `ties_are_of_the_count` meets its contract.
use Rattle.sheet.proofs.TieLaw.{tied_on_a_page}
use Rattle.sheet.proofs.lots.ties_are_of_the_count.Goals as goal

pub returns : goal.returns
returns c = tied_on_a_page
