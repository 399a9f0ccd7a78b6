-- Parts of the proof of `is_excluded` that are done by hand.
use Rattle.std.proofs.Common.{◌∙◌, sym, rules, tests}
use Rattle.count.specs.Law.Elected.{excludes}
use Rattle.count.specs.declared.stages.Stage.{Stage}
use Rattle.std.proofs.lemmas.Iterator.{YieldsList-from_slice}
use Rattle.std.proofs.lemmas.Iterator.Search.{any_from_yields_List}
use Rattle.count.proofs.ColumnLemmas.{any-reverse}
use Rattle.count.proofs.elected.is_excluded.Goals as goal

pub returns : goal.returns
returns c =
    any_from_yields_List (λ (s : Stage). excludes s.action c.args.c) _ _ _ c.any.ensures.ran (YieldsList-from_slice c.args.stages.now cc) (λ x b q k. search (rules, tests))
    ∙ sym (any-reverse (λ (s : Stage). excludes s.action c.args.c) c.args.stages.now)
