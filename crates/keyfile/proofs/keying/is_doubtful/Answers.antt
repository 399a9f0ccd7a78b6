-- Proof that `is_doubtful` meets its contract.
use Rattle.std.proofs.Common.{◌∙◌}
use Rattle.keyfile.proofs.MarkLemmas.{doubtful_by_others}
use Rattle.keyfile.proofs.keying.is_doubtful.Goals as goal

pub returns-then-eq : goal.returns-then-eq
returns-then-eq c = c.are_empty.ensures ∙ doubtful_by_others c.args.marks.now _ c.in-len1-up.len_at_least c.if-eq.ensures
