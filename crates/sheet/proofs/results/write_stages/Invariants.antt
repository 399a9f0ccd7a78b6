-- The invariant of the loop in `write_stages`.
use Rattle.std.proofs.Common.{◌≡◌, ◌+◌, ◌++◌, drop}
use Rattle.json.specs.Tree.{items_tokens}
use Rattle.sheet.specs.Entries.{shown}
use Rattle.sheet.specs.Results.{items_of, stages_result}
use Rattle.sheet.proofs.results.write_stages.Given as goal

abbrev pub invariant-loop-k : goal.invariant-loop-k
invariant-loop-k l =
    (l.out.before ≡ l.initial.out.before)
    × (l.out.tokens ++ items_tokens (items_of (stages_result (shown l.ward).candidates (l.k + 1) (drop l.k l.stages)))
    ≡ l.initial.out.tokens ++ items_tokens (items_of (stages_result (shown l.ward).candidates 1 l.stages)))
