-- The invariant of the loop in `candidate_lines`.
use Rattle.std.proofs.Common.{◌≡◌, true, ◌++◌, map, drop, string_bytes}
use Rattle.std.specs.List.{list_all}
use Rattle.register.specs.Offices.{candidate_entry}
use Rattle.office.specs.Sheets.{candidate_shown, is_numbered}
use Rattle.office.proofs.sheets.candidate_lines.Given as goal

abbrev pub invariant-loop-candidate : goal.invariant-loop-candidate
invariant-loop-candidate l = record {
  lines : map (λ line. (line.0, string_bytes line.1)) l.lines.items ++ map candidate_shown (map candidate_entry (drop l.candidate-index l.candidates))
      ≡ map candidate_shown (map candidate_entry l.candidates);
  left : list_all is_numbered (map candidate_entry l.candidates) ≡ true → list_all is_numbered (map candidate_entry (drop l.candidate-index l.candidates)) ≡ true;
}
