-- The invariant of the loop in `read_rows`.
use Rattle.std.proofs.Common.{map}
use Rattle.csv.specs.Reading.{reader_source}
use Rattle.keyfile.specs.Inside.{StandsAt}
use Rattle.keyfile.proofs.format.read_rows.Given as goal

abbrev pub invariant-loop-number : goal.invariant-loop-number
invariant-loop-number g l = StandsAt g.R.Read.remaining (g.R.Read.remaining (reader_source l.fn.file)) (g.F.FileFormat.format l.format) l.number (map g.F.FileFormat.entry l.rows.items) l.file
