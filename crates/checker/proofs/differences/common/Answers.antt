-- Proof that `common` meets its contract.
use Rattle.std.proofs.Common.{◌∙◌, ◌++◌, take, drop, sym, ap, arith, append-nil}
use Rattle.std.proofs.lemmas.List.{at_drop_all}
use Rattle.checker.specs.Differences.{common}
use Rattle.checker.proofs.DifferenceLemmas.{none_common}
use Rattle.checker.proofs.differences.common.Goals as goal

pub returns-then-i-other : goal.returns-then-i-other
returns-then-i-other c =
    let text = c.args.text.now in
    let i = c.loop-i.i in
    let left = at_drop_all (common (drop i text)) c.args.other.now i (omega arith) ∙ none_common (drop i text) in
    sym (append-nil (take i text)) ∙ (ap (λ t. take i text ++ t) (sym left) ∙ c.loop-i.invariant)
