-- Parts of the proof of `is_named` that are done by hand.
use Rattle.std.proofs.Common.{◌∙◌, sym, nat_eq, rules, tests}
use Rattle.std.specs.List.{list_any}
use Rattle.count.specs.declared.stages.Stage.{Stage}
use Rattle.std.proofs.lemmas.Iterator.{YieldsList-from_slice}
use Rattle.std.proofs.lemmas.Iterator.Search.{any_from_yields_List}
use Rattle.count.proofs.ColumnLemmas.{any-reverse}
use Rattle.count.proofs.figures.is_named.Goals as goal

pub returns : goal.returns
returns c =
    any_from_yields_List (λ (s : Stage). list_any (nat_eq c.args.c) s.elected) _ _ _ c.any.ensures.ran (YieldsList-from_slice c.args.stages.now cc) (λ x b q k. search (rules, tests))
    ∙ sym (any-reverse (λ (s : Stage). list_any (nat_eq c.args.c) s.elected) c.args.stages.now)
