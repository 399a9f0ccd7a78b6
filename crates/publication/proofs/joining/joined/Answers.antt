-- Proof that `joined` meets its contract.
use Rattle.std.proofs.lemmas.List.Folds.{flat_map-map}
use Rattle.sheet.specs.Lines.{joined}
use Rattle.publication.proofs.joining.joined.Goals as goal

pub returns : goal.returns
unfolding joined
returns c = rw flat_map-map c.concat.ensures.ok
