-- Proof that `all_covers` meets its contract: the blocks are those of the entries.
use Rattle.std.proofs.lemmas.List.Folds.{flat_map-map}
use Rattle.forms.specs.Covers.{all_covers}
use Rattle.forms.proofs.covers.all_covers.Goals as goal

pub returns : goal.returns
unfolding all_covers
returns c = rw flat_map-map c.in_ok-all.ensures
