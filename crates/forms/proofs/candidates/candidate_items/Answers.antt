-- Proof that `candidate_items` meets its contract: the blocks are those of the entries.
use Rattle.std.proofs.lemmas.List.Folds.{flat_map-map}
use Rattle.forms.specs.Lots.{candidate_items}
use Rattle.forms.proofs.candidates.candidate_items.Goals as goal

pub returns : goal.returns
unfolding candidate_items
returns c = rw flat_map-map c.in_ok-all.ensures
