-- The invariant of the loop in `ranks_in`: the number of ranks so far and the remaining fields determine the total.
use Rattle.std.proofs.Common.{◌≡◌, ◌≤◌, drop, map}
use Rattle.paper.specs.Columns.{max_candidates}
use Rattle.checker.specs.RecordsHeader.{ranks_from}
use Rattle.checker.proofs.records_header.ranks_in.Given as goal

abbrev pub invariant-loop-field : goal.invariant-loop-field
invariant-loop-field l = record {
  same : ranks_from l.ranks (map (λ field. field.items) (drop l.field-index l.fields)) ≡ ranks_from 0 (map (λ field. field.items) l.fields);
  few : l.ranks ≤ max_candidates;
}
