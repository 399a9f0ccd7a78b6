-- The fields of a line of comma-separated values. A field may be in quotation marks; within it, two of them represent one.
use Rattle.std.specs.Prelude.{ℕ, ◌==◌, if◌then◌else◌, List, [], ◌∷◌, ◌++◌, fold, Result, Ok, Err}
use Rattle.checker.specs.Tokens.{Text}
use Rattle.checker.specs.declared.fields.FieldPlace.{FieldPlace}
use Rattle.checker.specs.declared.fields.FieldPlace.TheVariants.{Start, Plain, Quoted, Closed, Astray}
use Rattle.checker.specs.declared.fields.FieldStep.{FieldStep}
use Rattle.checker.specs.declared.fields.FieldStep.TheVariants.{Ends, Adds, Moves}
use Rattle.checker.specs.declared.problem.BallotsFlaw.{BallotsFlaw}
use Rattle.checker.specs.declared.problem.BallotsFlaw.TheVariants.{Field, OpenQuote}

-- a byte outside quotation marks: a comma ends the field, a quotation mark moves to the next position, and any other byte is part of the field
abbrev pub outside_step : FieldPlace → ℕ → FieldStep
outside_step next byte = if byte == 44 then Ends else (if byte == 34 then Moves next else Adds Plain)

-- a byte at a position: a quotation mark is the first and the last byte of a quoted field, within which two of them represent one
abbrev pub step_of : FieldPlace → ℕ → FieldStep
step_of Start byte = outside_step Quoted byte
step_of Plain byte = outside_step Astray byte
step_of Quoted byte = if byte == 34 then Moves Closed else Adds Quoted
step_of Closed byte = if byte == 44 then Ends else (if byte == 34 then Adds Quoted else Moves Astray)
step_of Astray byte = Moves Astray

-- the result of the fields read so far, the bytes of the next field, and the position of the next byte
pub record FieldsEntry (X : Type 0) : Type 0 where
  pub done : X
  pub field : Text
  pub place : FieldPlace

-- the state after a step; a field that ends is added to the result
abbrev pub with_step : {X : Type 0} → (X → Text → X) → FieldsEntry X → ℕ → FieldStep → FieldsEntry X
with_step take entry byte Ends = record { done = take entry.done entry.field; field = []; place = Start }
with_step take entry byte (Adds place) = record { done = entry.done; field = entry.field ++ byte ∷ []; place = place }
with_step take entry byte (Moves place) = record { done = entry.done; field = entry.field; place = place }

-- the state after another byte
abbrev pub with_byte : {X : Type 0} → (X → Text → X) → FieldsEntry X → ℕ → FieldsEntry X
with_byte take entry byte = with_step take entry byte (step_of entry.place byte)

-- the result after the last byte, which ends the last field
abbrev pub ended_at : {X : Type 0} → (X → Text → X) → FieldPlace → FieldsEntry X → Result X BallotsFlaw
ended_at take Start entry = Ok (take entry.done entry.field)
ended_at take Plain entry = Ok (take entry.done entry.field)
ended_at take Quoted entry = Err OpenQuote
ended_at take Closed entry = Ok (take entry.done entry.field)
ended_at take Astray entry = Err Field

abbrev pub ended : {X : Type 0} → (X → Text → X) → FieldsEntry X → Result X BallotsFlaw
ended take entry = ended_at take entry.place entry

-- the state before the first byte
abbrev pub begun : {X : Type 0} → X → FieldsEntry X
begun none = record { done = none; field = []; place = Start }

-- the result of a line, folded over its fields
abbrev pub fields_folded : {X : Type 0} → (X → Text → X) → X → Text → Result X BallotsFlaw
fields_folded take none line = ended take (fold (with_byte take) (begun none) line)

-- the fields read so far, with another one
abbrev pub with_field : List Text → Text → List Text
with_field fields field = fields ++ field ∷ []

-- the fields of a line
abbrev pub fields_in : Text → Result (List Text) BallotsFlaw
fields_in line = fields_folded with_field [] line
