-- An office's own texts, checked independently of it: the texts that it prints for a ward, compared with what is read and counted from the ward's ballots alone.
use Rattle.std.specs.Prelude.{◌≡◌, ℕ, true, List, Some, Ok}
use Rattle.register.specs.Offices.{OfficeState, WardEntry, ward_at}
use Rattle.register.specs.StateConditions.{IsState}
use Rattle.register.specs.Elections.{ElectionEntry, due_of, election_of, is_declared, is_finished}
use Rattle.checker.specs.Checks.{IsChecked, IsProblem}
use Rattle.checker.specs.Reading.{ReaderEntry, read}
use Rattle.checker.specs.Wards.{ward_told}
use Rattle.checker.specs.declared.differences.Checked.{Checked}
use Rattle.checker.specs.declared.differences.Checked.TheVariants as checked
use Rattle.checker.specs.declared.problem.Problem.{Problem}
use Rattle.checker.specs.declared.problem.Problem.TheVariants.{Memory}
use Rattle.office.specs.Sheets.{bundles_shown, election_shown, lots_shown, text_answer}
use Rattle.office.specs.declared.sheets.WardText.{WardText}
use Rattle.office.specs.declared.sheets.WardText.TheVariants.{Ballots, Declaration, Sheet}

-- a ward in a state of the office
pub record IsWardOf (s : OfficeState) (w : WardEntry) : Type 0 where
  pub state : IsState s
  pub there : ward_at s w.number ≡ Some w

-- a text that the office prints for a ward
abbrev pub IsTold : OfficeState → WardEntry → WardText → List ℕ → Type 0
IsTold s w text told = text_answer text s w.number ≡ Ok told

-- the count of an election is finished, or the election is uncontested
abbrev pub IsFinished : ElectionEntry → Type 0
IsFinished e = is_finished (due_of e) ≡ true

-- a file of ballots is read as an election: its ward with seats, candidates and poll, the bundles of its valid papers, and its lots
pub record IsReadAs (file : List ℕ) (e : ElectionEntry) : Type 0 where
  pub reading : ReaderEntry
  pub understood : read file ≡ Ok reading
  pub ward_is : ward_told reading ≡ election_shown e
  pub bundles_are : reading.papers.bundles ≡ bundles_shown e
  pub lots_are : reading.remarks.lots ≡ lots_shown e

-- A file of ballots confirms a text: the check finds that the text is the sheet, or that it is the declaration, and has no other result. Only a
-- failed allocation can prevent the check.
pub record IsConfirmed (file text : List ℕ) (answer : Checked) : Type 0 where
  pub told : IsChecked file text answer
  pub alone : (other : Checked) → IsChecked file text other → other ≡ answer
  pub unhindered : (why : Problem) → IsProblem file why → why ≡ Memory

-- the ballots that an office prints for a ward are read as the ward's election
abbrev pub OwnBallotsAreRead : Type 0
OwnBallotsAreRead = (s : OfficeState) (w : WardEntry) (file : List ℕ) → IsWardOf s w → IsTold s w Ballots file → IsReadAs file (election_of s w)

-- given these ballots, the stage sheet that the office prints for a finished count is confirmed as the sheet
abbrev pub OwnSheetsAreConfirmed : Type 0
OwnSheetsAreConfirmed =
    (s : OfficeState) (w : WardEntry) (file sheet : List ℕ) → IsWardOf s w → IsFinished (election_of s w) → IsTold s w Ballots file →
    IsTold s w Sheet sheet → IsConfirmed file sheet checked.Sheet

-- and the declaration, which the office prints only for a declared ward, is confirmed as the declaration
abbrev pub OwnDeclarationsAreConfirmed : Type 0
OwnDeclarationsAreConfirmed =
    (s : OfficeState) (w : WardEntry) (file declaration : List ℕ) → IsWardOf s w → IsTold s w Ballots file →
    IsTold s w Declaration declaration → IsConfirmed file declaration checked.Declaration

-- the count of a declared ward is finished, so its sheet is confirmed too
abbrev pub DeclaredAreFinished : Type 0
DeclaredAreFinished = (s : OfficeState) (w : WardEntry) → IsWardOf s w → is_declared w.phase ≡ true → IsFinished (election_of s w)
