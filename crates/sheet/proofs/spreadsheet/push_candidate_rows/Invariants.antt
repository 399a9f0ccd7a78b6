-- The invariant of the loop in `push_candidate_rows`.
use Rattle.std.proofs.Common.{◌≡◌, ◌++◌, map, drop, string_bytes}
use Rattle.std.specs.List.{flat_map}
use Rattle.csv.specs.Writing.{row_text}
use Rattle.sheet.specs.Spreadsheet.{candidate_row, writer}
use Rattle.sheet.proofs.spreadsheet.push_candidate_rows.Given as goal

abbrev pub invariant-loop-candidate : goal.invariant-loop-candidate
invariant-loop-candidate l =
    string_bytes l.text ++ flat_map (row_text writer) (map (candidate_row l.stages) (map (λ candidate. (candidate.0, string_bytes candidate.1)) (drop l.candidate-index l.candidate-items)))
    ≡ string_bytes l.fn.text ++ flat_map (row_text writer) (map (candidate_row l.stages) (map (λ candidate. (candidate.0, string_bytes candidate.1)) l.candidate-items))
