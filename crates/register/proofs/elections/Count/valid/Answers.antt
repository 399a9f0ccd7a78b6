-- Proof that `Count::valid` meets its contract.
use Rattle.std.proofs.Common.{List, length, ap, ◌∙◌}
use Rattle.count.specs.Bundles.{Bundle, papers_of}
use Rattle.count.proofs.OrderLemmas.{bundled-length}
use Rattle.register.proofs.elections.Count.valid.Goals as goal

pub returns : goal.returns
returns c e is = c.papers.ensures.is ∙ ap (λ (bs : List Bundle). length (papers_of bs)) (c.bundles.ensures ∙ is.kept_is.bundles_are) ∙ bundled-length e.ballots.papers
