-- Proof that `all_slips` meets its contract: the blocks are those of the entries.
use Rattle.std.proofs.lemmas.List.Folds.{flat_map-map}
use Rattle.forms.specs.Slips.{all_slips}
use Rattle.forms.proofs.slips.all_slips.Goals as goal

pub returns : goal.returns
unfolding all_slips
returns c = rw flat_map-map c.in_ok-all.ensures
