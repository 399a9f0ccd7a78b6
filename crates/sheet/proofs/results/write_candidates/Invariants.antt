-- The invariant of the loop in `write_candidates`.
use Rattle.std.proofs.Common.{◌≡◌, ◌++◌, drop, map}
use Rattle.json.specs.Tree.{items_tokens}
use Rattle.sheet.specs.Entries.{candidates_shown}
use Rattle.sheet.specs.Results.{candidate_result, items_of}
use Rattle.sheet.proofs.results.write_candidates.Given as goal

abbrev pub invariant-loop-candidate : goal.invariant-loop-candidate
invariant-loop-candidate l =
    (l.out.before ≡ l.initial.out.before)
    × (l.out.tokens ++ items_tokens (items_of (map (candidate_result l.ward.poll l.stages) (candidates_shown (drop l.candidate-index l.candidate-items))))
    ≡ l.initial.out.tokens ++ items_tokens (items_of (map (candidate_result l.ward.poll l.stages) (candidates_shown l.candidate-items))))
