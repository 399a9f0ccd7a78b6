-- Proof that `verdict_rows` meets its contract: the blocks are those of the entries.
use Rattle.std.proofs.lemmas.List.Folds.{flat_map-map}
use Rattle.forms.specs.Verdicts.{verdict_rows}
use Rattle.forms.proofs.verdicts.verdict_rows.Goals as goal

pub returns : goal.returns
unfolding verdict_rows
returns c = rw flat_map-map c.in_ok-all.ensures
