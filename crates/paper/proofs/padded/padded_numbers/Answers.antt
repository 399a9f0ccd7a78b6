-- Parts of the proof of `padded_numbers` that are done by hand.
use Rattle.std.proofs.Common.{◌++◌, length, ap}
use Rattle.std.proofs.lemmas.List.{drop-replicate}
use Rattle.paper.specs.Columns.{max_candidates}
use Rattle.paper.proofs.padded.padded_numbers.Goals as goal

pub returns : goal.returns
returns c = rw c.copy_from_slice.ensures.after (ap (λ zeros. c.args.list.now ++ zeros) (drop-replicate (length c.args.list.now) max_candidates 0))
