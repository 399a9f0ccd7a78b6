-- The files of a ward.
use Rattle.std.specs.Prelude.{ℕ, List, [], ◌∷◌, ◌++◌, codes, decimal, Option, Some, None}
use Rattle.publication.specs.Election.{WardEntry}
use Rattle.publication.specs.declared.parts.WardPart.{WardPart}
use Rattle.sheet.specs.Lines.{joined}

-- a file of a ward: how its name ends, what links call it, and its text
pub record PartEntry : Type 0 where
  pub ending : List ℕ
  pub words : List ℕ
  pub text : List ℕ

-- a file of a ward as plain texts
abbrev pub part_entry : WardPart → PartEntry
part_entry part = record { ending = part.ending.now; words = part.words.now; text = part.text.now }

-- `ward-7-sheet.txt`: the name of a ward's file with the given ending
abbrev pub ward_file : ℕ → List ℕ → List ℕ
ward_file number ending = joined (codes "ward-" ∷ decimal number ∷ ending ∷ [])

-- the stage sheet
abbrev pub sheet_part : List ℕ → PartEntry
sheet_part text = record { ending = codes "-sheet.txt"; words = codes "stage sheet"; text = text }

-- the declaration, if the ward is declared
abbrev pub declaration_part : Option (List ℕ) → List PartEntry
declaration_part None = []
declaration_part (Some text) = record { ending = codes "-declaration.txt"; words = codes "declaration"; text = text } ∷ []

-- the table
abbrev pub table_part : List ℕ → PartEntry
table_part text = record { ending = codes "-table.csv"; words = codes "table"; text = text }

-- the ballots, if they are published
abbrev pub ballots_part : Option (List ℕ) → List PartEntry
ballots_part None = []
ballots_part (Some text) = record { ending = codes "-ballots.txt"; words = codes "ballots"; text = text } ∷ []

-- the files of a ward, other than its page
abbrev pub ward_parts : WardEntry → List PartEntry
ward_parts ward = sheet_part ward.sheet ∷ declaration_part ward.declaration ++ table_part ward.table ∷ ballots_part ward.ballots
