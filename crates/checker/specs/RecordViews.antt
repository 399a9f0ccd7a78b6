-- Cast-vote records, as the specification sees them.
use Rattle.std.specs.Prelude.{map, string_bytes}
use Rattle.checker.specs.Records.{RecordsEntry, WardEntry}
use Rattle.checker.specs.RecordsHeader.{ColumnsEntry, HeaderEntry, of_candidates, of_ranks}
use Rattle.checker.specs.Values.{told_of}
use Rattle.checker.specs.declared.file_content.Records.{Records}
use Rattle.checker.specs.declared.file_content.Header.{Header}
use Rattle.checker.specs.declared.file_content.RecordColumns.{RecordColumns}
use Rattle.checker.specs.declared.file_content.RecordColumns.TheVariants as columns
use Rattle.checker.specs.declared.records_ward.RecordsWard.{RecordsWard}

-- what cast-vote records don't say about their ward
abbrev pub ward_told : RecordsWard → WardEntry
ward_told ward = record { seats = ward.seats; name = ward.name.now; candidates = map (λ c. c.now) ward.candidates.items }

-- the columns, and the first line
abbrev pub columns_told : RecordColumns → ColumnsEntry
columns_told (columns.Candidates names) = of_candidates (map string_bytes names.items)
columns_told (columns.Ranks number) = of_ranks number

abbrev pub header_told : Header → HeaderEntry
header_told header = record { counted = header.counted; columns = columns_told header.columns }

-- the content of a file of records so far
abbrev pub records_told : Records → RecordsEntry
records_told records = record {
  headed = records.headed;
  counted = records.counted;
  ranks = records.ranks;
  names = map string_bytes records.names.items;
  papers = told_of records.papers;
  rejected = records.rejected;
}
