-- The invariant of the loop in `write_votes`.
use Rattle.std.proofs.Common.{◌≡◌, ◌++◌, drop}
use Rattle.json.specs.Tree.{items_tokens}
use Rattle.sheet.specs.Entries.{candidates_shown}
use Rattle.sheet.specs.Results.{items_of, votes_result}
use Rattle.sheet.proofs.results.write_votes.Given as goal

abbrev pub invariant-loop-candidate : goal.invariant-loop-candidate
invariant-loop-candidate l =
    (l.out.before ≡ l.initial.out.before)
    × (l.out.tokens ++ items_tokens (items_of (votes_result (candidates_shown (drop l.candidate-index l.candidate-items)) l.stage))
    ≡ l.initial.out.tokens ++ items_tokens (items_of (votes_result (candidates_shown l.candidate-items) l.stage)))
