-- Parts of the proof of `has_reached` that are done by hand.
use Rattle.std.proofs.Common.{◌∙◌, sym, nat_le, rules, tests}
use Rattle.count.specs.Law.Contest.{votes_at}
use Rattle.count.specs.declared.stages.Stage.{Stage}
use Rattle.std.proofs.lemmas.Iterator.{YieldsList-from_slice}
use Rattle.std.proofs.lemmas.Iterator.Search.{any_from_yields_List}
use Rattle.count.proofs.ColumnLemmas.{any-reverse}
use Rattle.count.proofs.elected.has_reached.Goals as goal

pub returns : goal.returns
returns c =
    any_from_yields_List (λ (s : Stage). nat_le c.args.terms.now.quota (votes_at s c.args.c)) _ _ _ c.any.ensures.ran (YieldsList-from_slice c.args.stages.now cc) (λ x b q k. search (rules, tests))
    ∙ sym (any-reverse (λ (s : Stage). nat_le c.args.terms.now.quota (votes_at s c.args.c)) c.args.stages.now)
