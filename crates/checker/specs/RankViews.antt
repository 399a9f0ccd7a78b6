-- The ranks in a line of cast-vote records, as the specification sees them.
use Rattle.std.specs.Prelude.{Option, Some, None, Result, Ok, Err}
use Rattle.checker.specs.Fields.{FieldsEntry}
use Rattle.checker.specs.RankFields.{PaperEntry}
use Rattle.checker.specs.declared.problem.BallotsFlaw.{BallotsFlaw}
use Rattle.checker.specs.declared.rank_fields.RankReader.{RankReader}

-- a value, or the flaw that was found
abbrev pub unless_flawed : {X : Type 0} → Option BallotsFlaw → X → Result X BallotsFlaw
unless_flawed None value = Ok value
unless_flawed (Some flaw) value = Err flaw

-- a line as far as it has been read
abbrev pub reader_told : RankReader → FieldsEntry (Result PaperEntry BallotsFlaw)
reader_told reader = record { done = unless_flawed reader.flaw reader.paper; field = reader.field.items; place = reader.place }
