-- The invariant of the loop in `read_fields`.
use Rattle.std.proofs.Common.{◌≡◌, ◌-◌, ◌<◌, length, take, drop, replicate}
use Rattle.paper.specs.Columns.{max_candidates}
use Rattle.paper.specs.MarksText.{fields, marks_in}
use Rattle.paper.proofs.Fields.{after_marks}
use Rattle.paper.proofs.marks.read_fields.Given as goal

abbrev pub invariant-loop-i : goal.invariant-loop-i
invariant-loop-i l = record {
  so_far : marks_in (fields l.text) ≡ after_marks (take l.i l.marks) (marks_in (drop l.i (fields l.text)));
  rest : l.i < l.count → fields l.rest ≡ drop l.i (fields l.text);
  zeros : drop l.i l.marks ≡ replicate (max_candidates - l.i) 0;
  size : length l.marks ≡ max_candidates;
}
