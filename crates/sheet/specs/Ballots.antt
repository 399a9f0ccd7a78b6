-- The ballots of a ward, in the file format that counting programs share (BLT). The file consists of the highest candidate number and the number of
-- seats; the numbers of withdrawn candidates, each after a minus; one line per bundle of equal valid papers; and the names. What the format doesn't
-- provide for is added in comments.
use Rattle.std.specs.Prelude.{ℕ, ◌-◌, Bool, true, false, List, [], ◌∷◌, ◌++◌, length, slice_get, codes, decimal, Option, Some, None, is_none}
use Rattle.std.specs.List.{flat_map, filter, range_with_len}
use Rattle.count.specs.Bundles.{Bundle}
use Rattle.sheet.specs.Lines.{line, preferences, quoted}
pub use Rattle.sheet.specs.Names.{name_at, name_or_withdrawn}
use Rattle.sheet.specs.Sheet.{rejected_line}
use Rattle.sheet.specs.Entries.{SheetEntry}
use Rattle.sheet.specs.declared.ward.Poll.{Poll}

-- the number of a candidate, or 0 if there is none
abbrev pub number_or_none : Option (ℕ × List ℕ) → ℕ
number_or_none None = 0
number_or_none (Some candidate) = candidate.0

-- the highest candidate number, which is the last one
abbrev pub highest_number : List (ℕ × List ℕ) → ℕ
highest_number candidates = number_or_none (slice_get candidates (length candidates - 1))

-- the numbers from 1 to the highest
abbrev pub numbers_of : SheetEntry → List ℕ
numbers_of ward = range_with_len 1 (highest_number ward.candidates)

-- `4 2`: the highest candidate number, and the number of seats
abbrev pub size_line : SheetEntry → List ℕ
size_line ward = line (decimal (highest_number ward.candidates) ∷ codes " " ∷ decimal ward.seats ∷ [])

-- the numbers of withdrawn candidates
abbrev pub withdrawn : SheetEntry → List ℕ
withdrawn ward = filter (λ c. is_none (name_at ward.candidates c)) (numbers_of ward)

-- a minus, preceded by a space unless it is the first
abbrev pub minus : Bool → List ℕ
minus true = codes "-"
minus false = codes " -"

-- `-3`, ` -5`: a number preceded by a minus
abbrev pub withdrawn_number : Bool → ℕ → List ℕ
withdrawn_number is_first c = minus is_first ++ decimal c

-- `-3 -5`, if there are withdrawn candidates
abbrev pub withdrawn_line : List ℕ → List ℕ
withdrawn_line [] = []
withdrawn_line (c ∷ others) = line (withdrawn_number true c ∷ flat_map (withdrawn_number false) others ∷ [])

-- `12 1 2 4 0`: the number of papers, and their preferences
abbrev pub bundle_line : Bundle → List ℕ
bundle_line bundle = line (decimal bundle.1 ∷ preferences bundle.0 ∷ codes " 0" ∷ [])

-- `0`, after the bundles
abbrev pub end_line : List ℕ
end_line = line (codes "0" ∷ [])

-- `"Ann"`: the name for a number
abbrev pub name_line : List (ℕ × List ℕ) → ℕ → List ℕ
name_line candidates c = line (quoted (name_or_withdrawn (name_at candidates c)) ∷ [])

-- the names for all numbers, followed by the name of the ward
abbrev pub name_lines : SheetEntry → List ℕ
name_lines ward = flat_map (name_line ward.candidates) (numbers_of ward) ++ line (quoted ward.name ∷ [])

-- `# Ward 7`
abbrev pub ward_comment : SheetEntry → List ℕ
ward_comment ward = line (codes "# Ward " ∷ decimal ward.number ∷ [])

-- `# Rejected 1: 0, 2: 0, 3: 0, 4: 0, 5: 0`, if the ward is contested
abbrev pub rejected_comment : Option Poll → List ℕ
rejected_comment None = []
rejected_comment (Some poll) = codes "# " ++ rejected_line poll.rejected

-- `# Lot at stage 3: 2`: the candidate drawn by lot
abbrev pub lot_comment : (ℕ × ℕ) → List ℕ
lot_comment lot = line (codes "# Lot at stage " ∷ decimal lot.0 ∷ codes ": " ∷ decimal lot.1 ∷ [])

-- what the format doesn't provide for, as comments
abbrev pub comments : SheetEntry → List (ℕ × ℕ) → List ℕ
comments ward lots = ward_comment ward ++ rejected_comment ward.poll ++ flat_map lot_comment lots

-- the part before the names
abbrev pub papers_text : SheetEntry → List Bundle → List ℕ
papers_text ward bundles = size_line ward ++ withdrawn_line (withdrawn ward) ++ flat_map bundle_line bundles ++ end_line

-- the ballots of a ward: its bundles of equal valid papers, and the recorded lots, each a stage and a candidate
abbrev pub ballots : SheetEntry → List Bundle → List (ℕ × ℕ) → List ℕ
ballots ward bundles lots = papers_text ward bundles ++ name_lines ward ++ comments ward lots
