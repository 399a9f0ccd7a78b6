-- The maximum number of columns in cast-vote records.
use Rattle.std.specs.Prelude.{◌≤◌, length}
use Rattle.paper.specs.Columns.{max_candidates}
use Rattle.checker.specs.declared.file_content.RecordColumns.{RecordColumns}
use Rattle.checker.specs.declared.file_content.RecordColumns.TheVariants as columns

abbrev pub AreFewColumns : RecordColumns → Type 0
AreFewColumns (columns.Candidates names) = length names.items ≤ max_candidates
AreFewColumns (columns.Ranks number) = number ≤ max_candidates
