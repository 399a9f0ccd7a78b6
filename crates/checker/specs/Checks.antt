-- What a text is checked against: the sheet and the declaration that result from a file of ballots.
use Rattle.std.specs.Prelude.{◌≡◌, ℕ, ◌-◌, Bool, true, false, not, List, [], map, reverse, slice_index_or, Option, Some, None, Ok, Err, ⊤}
use Rattle.std.specs.List.{find, range_with_len}
use Rattle.std.specs.Option.{option_map}
use Rattle.count.specs.Advance.{end_after}
use Rattle.count.specs.Bundles.{Bundle}
use Rattle.count.specs.Law.Contest.{Contest, IsContest}
use Rattle.count.specs.Law.Count.{stages_to}
use Rattle.count.specs.Law.Due.{due_after}
use Rattle.count.specs.Law.Elected.{elected_after}
use Rattle.count.specs.Law.Right.{IsWholeCount}
use Rattle.count.specs.declared.count_to_end.CountEnd.{CountEnd}
use Rattle.count.specs.declared.count_to_end.CountEnd.TheVariants as end
use Rattle.count.specs.declared.stages.Due.{Due}
use Rattle.count.specs.declared.stages.Due.TheVariants as due
use Rattle.count.specs.declared.stages.Stage.{Stage}
use Rattle.sheet.specs.Entries.{SheetEntry}
use Rattle.sheet.specs.Sheet.{declaration, sheet}
use Rattle.sheet.specs.declared.ward.Poll.{Poll}
use Rattle.checker.specs.Differences.{IsComparison}
use Rattle.checker.specs.Tokens.{Text}
use Rattle.checker.specs.Reading.{ReaderEntry, read}
use Rattle.checker.specs.Wards.{contest_in, numbers_of, ward_told}
use Rattle.checker.specs.declared.differences.Checked.{Checked}
use Rattle.checker.specs.declared.problem.Problem.{Problem}
use Rattle.checker.specs.declared.problem.Problem.TheVariants as problem

-- the whole count of a contest with the recorded lots, which is the only count, and the reason why it ends
pub record EndsAt (contest : Contest) (lots : List (ℕ × ℕ)) (stages : List Stage) (why : CountEnd) : Type 0 where
  pub whole : IsWholeCount contest lots (reverse stages)
  pub ended : end_after contest lots (reverse stages) ≡ Some why

-- whether a lot must be drawn
abbrev pub is_lot : Due → Bool
is_lot (due.Act action) = false
is_lot (due.Lot stage kind among) = true
is_lot due.Finished = false

-- whether a lot is drawn for a stage, given what is due before the first stages
abbrev pub is_drawn_by : List Due → ℕ → Bool
is_drawn_by dues stage = is_lot (slice_index_or dues (stage - 1) due.Finished)

-- the stage of the first of the given lots that isn't drawn
abbrev pub undrawn_by : List Due → List (ℕ × ℕ) → Option ℕ
undrawn_by dues lots = option_map (λ lot. lot.0) (find (λ lot. not (is_drawn_by dues lot.0)) lots)

-- what is due before each of the first 256 stages of a count; after its end, the same is due before each later stage: nothing, or the lot that it waits for
unfoldable pub dues_of : Contest → List (ℕ × ℕ) → List Due
dues_of contest lots = map (λ k. due_after contest (stages_to contest lots k)) (range_with_len 0 256)

-- the stage of the first recorded lot that isn't drawn
abbrev pub undrawn : Contest → List (ℕ × ℕ) → Option ℕ
undrawn contest lots = undrawn_by (dues_of contest lots) lots

-- the reason why a count isn't finished; none if it is
abbrev pub problem_of : CountEnd → Option Problem
problem_of end.Finished = None
problem_of (end.LotNeeded stage among) = Some (problem.LotNeeded stage among)
problem_of (end.LotNotAmong stage) = Some (problem.LotNotAmong stage)

-- the result of comparing a text with the sheet and the declaration of a contested ward: its papers form a contest, and the count is finished
pub record IsCountedCheck (ward : SheetEntry) (bundles : List Bundle) (lots : List (ℕ × ℕ)) (text : Text) (checked : Checked) : Type 0 where
  pub contest : IsContest (contest_in ward bundles)
  pub stages : List Stage
  pub counted : EndsAt (contest_in ward bundles) lots stages end.Finished
  pub drawn : undrawn (contest_in ward bundles) lots ≡ None
  pub compared : IsComparison text (sheet ward stages) (declaration ward (elected_after (contest_in ward bundles) (reverse stages))) checked

-- the same result for any ward, given its poll: an uncontested ward has no stages, and all its candidates are elected
abbrev pub IsWardCheck : Option Poll → SheetEntry → List Bundle → List (ℕ × ℕ) → Text → Checked → Type 0
IsWardCheck None ward bundles lots text checked = IsComparison text (sheet ward []) (declaration ward (numbers_of ward)) checked
IsWardCheck (Some poll) ward bundles lots text checked = IsCountedCheck ward bundles lots text checked

-- the result of checking a text against a file of ballots: no line of the file has a flaw, and the text is compared with the ward in it
pub record IsChecked (bytes text : Text) (checked : Checked) : Type 0 where
  pub reading : ReaderEntry
  pub understood : read bytes ≡ Ok reading
  pub compared : IsWardCheck (ward_told reading).poll (ward_told reading) reading.papers.bundles reading.remarks.lots text checked

-- the reason why the count of a ward can't be finished with its lots: there is no contest; a lot is missing, names none of the tied candidates, or is
-- recorded but not drawn; or an allocation failed
abbrev pub IsCountProblem : Contest → List (ℕ × ℕ) → Problem → Type 0
IsCountProblem contest lots (problem.Line line flaw) = ⊥
IsCountProblem contest lots problem.NoContest = ¬ (IsContest contest)
IsCountProblem contest lots (problem.LotNeeded stage among) = (stages : List Stage) × EndsAt contest lots stages (end.LotNeeded stage among)
IsCountProblem contest lots (problem.LotNotAmong stage) = (stages : List Stage) × EndsAt contest lots stages (end.LotNotAmong stage)
IsCountProblem contest lots (problem.LotNotNeeded stage) = undrawn contest lots ≡ Some stage
IsCountProblem contest lots problem.Memory = ⊤

-- the same reason for any ward, given its poll
abbrev pub IsWardProblem : Option Poll → SheetEntry → List Bundle → List (ℕ × ℕ) → Problem → Type 0
IsWardProblem None ward bundles lots why = why ≡ problem.Memory
IsWardProblem (Some poll) ward bundles lots why = IsCountProblem (contest_in ward bundles) lots why

-- a file is understood, but the given problem prevents the count of the ward that it describes
pub record Hinders (bytes : Text) (why : Problem) : Type 0 where
  pub reading : ReaderEntry
  pub understood : read bytes ≡ Ok reading
  pub hinders : IsWardProblem (ward_told reading).poll (ward_told reading) reading.papers.bundles reading.remarks.lots why

-- the reason why a text can't be checked against a file of ballots: the line with the given number is the first with a flaw; or no line has one, but
-- the count can't be finished; or an allocation failed
abbrev pub IsProblem : Text → Problem → Type 0
IsProblem bytes (problem.Line line flaw) = read bytes ≡ Err (line, flaw)
IsProblem bytes problem.NoContest = Hinders bytes problem.NoContest
IsProblem bytes (problem.LotNeeded stage among) = Hinders bytes (problem.LotNeeded stage among)
IsProblem bytes (problem.LotNotAmong stage) = Hinders bytes (problem.LotNotAmong stage)
IsProblem bytes (problem.LotNotNeeded stage) = Hinders bytes (problem.LotNotNeeded stage)
IsProblem bytes problem.Memory = ⊤
