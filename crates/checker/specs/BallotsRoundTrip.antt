-- The ballots of a ward, as printed, read back as exactly that ward, its bundles and its lots.
use Rattle.std.specs.Prelude.{◌≡◌, ℕ, ◌≤◌, ◌==◌, true, false, List, [], ◌∷◌, length, map, Option, Some, None, Ok, ⊤}
use Rattle.std.specs.List.{AllByRecursion, list_any}
use Rattle.std.specs.Str.{is_utf8}
use Rattle.paper.specs.Columns.{IsCandidateSet}
use Rattle.votes.specs.Units.{max_papers, max_seats}
use Rattle.count.specs.Bundles.{AreBundles, Bundle, papers_of}
use Rattle.count.specs.Law.Contest.{AreForCandidates}
use Rattle.sheet.specs.Ballots.{ballots}
use Rattle.sheet.specs.Entries.{SheetEntry}
use Rattle.sheet.specs.declared.ward.Poll.{Poll}
use Rattle.checker.specs.Checks.{IsChecked, IsProblem, IsWardCheck, IsWardProblem}
use Rattle.checker.specs.BallotsComments.{is_drawn}
use Rattle.checker.specs.Tokens.{Text}
use Rattle.checker.specs.Reading.{ReaderEntry, read}
use Rattle.checker.specs.Wards.{numbers_of, ward_told}
use Rattle.checker.specs.Names.{max_name}
use Rattle.checker.specs.declared.differences.Checked.{Checked}
use Rattle.checker.specs.declared.problem.Problem.{Problem}

-- a name that fits on one line: it is UTF-8, not too long, and has no line feed
pub record IsName (name : Text) : Type 0 where
  pub short : length name ≤ max_name
  pub text : is_utf8 name ≡ true
  pub unended : list_any (λ b. b == 10) name ≡ false

-- lots whose stages and candidates each fit in one byte
abbrev pub AreSmall : List (ℕ × ℕ) → Type 0
AreSmall lots = AllByRecursion (λ (lot : ℕ × ℕ). (lot.0 ≤ 255) × (lot.1 ≤ 255)) lots

-- no two lots are for the same stage
abbrev pub AreOnce : List (ℕ × ℕ) → Type 0
AreOnce [] = ⊤
AreOnce (lot ∷ lots) = (is_drawn lot.0 lots ≡ false) × AreOnce lots

-- numbers of rejected papers for five codes, each of which fits in four bytes
pub record AreCodes (rejected : List ℕ) : Type 0 where
  pub five : length rejected ≡ 5
  pub fit : AllByRecursion (λ n. n ≤ 4294967295) rejected

-- the poll of a ward with the given bundles: an uncontested ward has no bundles, and no more candidates than seats
abbrev pub IsPollOf : Option Poll → List Bundle → ℕ → ℕ → Type 0
IsPollOf None bundles candidates seats = (bundles ≡ []) × (candidates ≤ seats)
IsPollOf (Some poll) bundles candidates seats = (poll.valid ≡ length (papers_of bundles)) × AreCodes poll.rejected

-- a ward with its bundles and lots, as it may occur in an office
pub record CanBeReadBack (ward : SheetEntry) (bundles : List Bundle) (lots : List (ℕ × ℕ)) : Type 0 where
  pub number : ward.number ≤ 255
  pub some_seats : 1 ≤ ward.seats
  pub seats_in_range : ward.seats ≤ max_seats
  pub candidate_set : IsCandidateSet (numbers_of ward)
  pub name : IsName ward.name
  pub names : AllByRecursion (λ (candidate : ℕ × Text). IsName candidate.1) ward.candidates
  pub bundles_are : AreBundles bundles
  pub few_papers : length (papers_of bundles) ≤ max_papers
  pub for_candidates : AreForCandidates (numbers_of ward) (map (λ (b : Bundle). b.0) bundles)
  pub poll : IsPollOf ward.poll bundles (length ward.candidates) ward.seats
  pub lots_small : AreSmall lots
  pub lots_once : AreOnce lots

-- the ballots of a ward read back as exactly that ward, its bundles and its lots
pub record IsReadBack (ward : SheetEntry) (bundles : List Bundle) (lots : List (ℕ × ℕ)) : Type 0 where
  pub reading : ReaderEntry
  pub understood : read (ballots ward bundles lots) ≡ Ok reading
  pub ward_is : ward_told reading ≡ ward
  pub bundles_are : reading.papers.bundles ≡ bundles
  pub lots_are : reading.remarks.lots ≡ lots

-- every ward's ballots read back
abbrev pub AreReadBack : Type 0
AreReadBack = (ward : SheetEntry) (bundles : List Bundle) (lots : List (ℕ × ℕ)) → CanBeReadBack ward bundles lots → IsReadBack ward bundles lots

-- checking a text against a ward's ballots has the same result as comparing it with that ward
abbrev pub AreCheckedAsTold : Type 0
AreCheckedAsTold =
    (ward : SheetEntry) (bundles : List Bundle) (lots : List (ℕ × ℕ)) → CanBeReadBack ward bundles lots →
    (text : Text) (checked : Checked) → IsChecked (ballots ward bundles lots) text checked → IsWardCheck ward.poll ward bundles lots text checked

-- a problem of that check is a problem of the ward's count
abbrev pub AreHinderedAsTold : Type 0
AreHinderedAsTold =
    (ward : SheetEntry) (bundles : List Bundle) (lots : List (ℕ × ℕ)) → CanBeReadBack ward bundles lots →
    (why : Problem) → IsProblem (ballots ward bundles lots) why → IsWardProblem ward.poll ward bundles lots why
