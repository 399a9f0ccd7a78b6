-- The invariant of the loop in `names_in`: the names so far and the remaining fields determine all names.
use Rattle.std.proofs.Common.{◌≡◌, ◌≤◌, [], drop, length, map}
use Rattle.std.specs.Prelude.{string_bytes}
use Rattle.paper.specs.Columns.{max_candidates}
use Rattle.checker.specs.RecordsHeader.{names_from}
use Rattle.checker.proofs.records_header.names_in.Given as goal

abbrev pub invariant-loop-field : goal.invariant-loop-field
invariant-loop-field l = record {
  same : names_from (map string_bytes l.names.items) (map (λ field. field.items) (drop l.field-index l.fields)) ≡ names_from [] (map (λ field. field.items) l.fields);
  few : length l.names.items ≤ max_candidates;
}
