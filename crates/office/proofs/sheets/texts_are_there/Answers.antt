-- Proof that `texts_are_there` meets its contract.
use Rattle.office.proofs.SheetLemmas.{state_is_textual}
use Rattle.office.proofs.sheets.texts_are_there.Goals as goal

pub returns : goal.returns
returns c s w is there = state_is_textual s w is (c.columns_of.ensures.of_a_ward s w.number is) there
