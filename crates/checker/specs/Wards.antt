-- The ward and the contest that a file of ballots describes.
use Rattle.std.specs.Prelude.{ℕ, ◌+◌, nat_eq, nat_le, if◌then◌else◌, List, [], ◌∷◌, length, map, Option, Some, None}
use Rattle.std.specs.List.{list_any}
use Rattle.std.specs.Option.{unwrap_or}
use Rattle.count.specs.Bundles.{Bundle, papers_of}
use Rattle.count.specs.Law.Contest.{Contest, contest_for}
use Rattle.sheet.specs.Entries.{SheetEntry}
use Rattle.sheet.specs.declared.ward.Poll.{Poll}
use Rattle.checker.specs.Tokens.{Text}
use Rattle.checker.specs.Reading.{ReaderEntry}

-- the candidates with the given names, numbered consecutively starting from a given number; withdrawn numbers are skipped
abbrev pub candidates_from : List ℕ → ℕ → List Text → List (ℕ × Text)
candidates_from withdrawn k [] = []
candidates_from withdrawn k (name ∷ names) =
    if list_any (nat_eq k) withdrawn then candidates_from withdrawn (k + 1) names else (k, name) ∷ candidates_from withdrawn (k + 1) names

abbrev pub candidates_of : List ℕ → List Text → List (ℕ × Text)
candidates_of withdrawn names = candidates_from withdrawn 1 names

-- the valid papers, and the rejected papers for each code
abbrev pub poll_of : List Bundle → List ℕ → Poll
poll_of bundles rejected = record { valid = length (papers_of bundles); rejected = rejected }

-- the poll of a ward: if the file doesn't mention rejected papers, there are none; a ward with no more candidates than seats is uncontested if the
-- file has neither papers nor rejected papers
abbrev pub poll_by : Option (List ℕ) → List Bundle → ℕ → ℕ → Option Poll
poll_by (Some rejected) bundles candidates seats = Some (poll_of bundles rejected)
poll_by None (bundle ∷ bundles) candidates seats = Some (poll_of (bundle ∷ bundles) (0 ∷ 0 ∷ 0 ∷ 0 ∷ 0 ∷ []))
poll_by None [] candidates seats = if nat_le candidates seats then None else Some (poll_of [] (0 ∷ 0 ∷ 0 ∷ 0 ∷ 0 ∷ []))

-- the ward that a file describes; if the file contains no ward number, it is ward 1
abbrev pub candidates_told : ReaderEntry → List (ℕ × Text)
candidates_told reading = candidates_of reading.papers.withdrawn reading.names.names

abbrev pub poll_told : ReaderEntry → Option Poll
poll_told reading = poll_by reading.remarks.rejected reading.papers.bundles (length (candidates_told reading)) reading.papers.seats

abbrev pub ward_told : ReaderEntry → SheetEntry
ward_told reading = record {
  number = unwrap_or reading.remarks.ward 1;
  name = reading.names.ward;
  seats = reading.papers.seats;
  candidates = candidates_told reading;
  poll = poll_told reading;
}

-- the numbers of a ward's candidates
abbrev pub numbers_of : SheetEntry → List ℕ
numbers_of ward = map (λ candidate. candidate.0) ward.candidates

-- the contest of a ward, with the papers of the given bundles
abbrev pub contest_in : SheetEntry → List Bundle → Contest
contest_in ward bundles = contest_for (numbers_of ward) ward.seats (papers_of bundles)
