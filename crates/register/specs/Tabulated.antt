-- The tabulation of an office's counts: the place of each bundle of equal ballot papers, and every figure of every stage.
use Rattle.std.specs.Prelude.{◌≡◌, ⊤, ℕ, ◌+◌, Bool, true, false, not, ◌&&◌, ◌==◌, if◌then◌else◌, List, [], ◌∷◌, ◌++◌, map, fold, length, Option, Some, None}
use Rattle.std.specs.List.{flat_map}
use Rattle.std.specs.List.Sorted.{IsStrictlySortedBy, IsPermutation}
use Rattle.std.specs.Ordering.{nat_cmp, on, then_cmp, is_eq}
use Rattle.std.specs.Cmp.Lexicographic.{slice_cmp}
use Rattle.std.specs.declared.cmp.Ordering.{Ordering}
use Rattle.count.specs.Bundles.{Bundle, bundled, AreBundles}
use Rattle.count.specs.StoredCounts.{IsStoredCountOf}
use Rattle.count.specs.Marks.{figures_at}
use Rattle.count.specs.Law.Contest.{History, IsContest}
use Rattle.count.specs.Law.Places.{Place, place}
use Rattle.count.specs.declared.figures.Figure.{Figure}
use Rattle.count.specs.declared.placed.Placed.{Placed}
use Rattle.register.specs.declared.command.Command.{Command}
use Rattle.register.specs.declared.command.Command.TheVariants.{Count}
use Rattle.register.specs.declared.counts.CountCommand.TheVariants.{Advance}
use Rattle.register.specs.declared.decision.Decision.{Decision}
use Rattle.register.specs.declared.decision.Decision.TheVariants.{Accepted, Kept, Refused}
use Rattle.register.specs.declared.decision.Change.{Change}
use Rattle.register.specs.declared.tabulations.PlacedBundle.{PlacedBundle}
use Rattle.register.specs.declared.tabulations.StageFigure.{StageFigure}
use Rattle.register.specs.declared.tabulations.Tabulation.{Tabulation}
use Rattle.register.specs.declared.tabulations.Addition.{Addition}
use Rattle.register.specs.declared.elections.Count.{Count as CountValue}
use Rattle.register.specs.declared.elections.CountedWard.{CountedWard}
use Rattle.register.specs.declared.elections.WardSheet.{WardSheet}
use Rattle.register.specs.Offices.{WardEntry, OfficeState, ward_at, ward_entry, candidate_entry}
use Rattle.register.specs.Marks.{columns_of}
use Rattle.register.specs.Effects.{change_entry, with_change}
use Rattle.register.specs.Elections.{ElectionEntry, election_of, has_count, is_in_count, contest_of, stages_of}

-- ---- entries

-- a bundle of equal ballot papers of a ward: their preferences, the number of papers, their holder (0 for none), and the value, in units, at which the
-- holder received each of them
pub record PlacedEntry : Type 0 where
  pub ward : ℕ
  pub list : List ℕ
  pub papers : ℕ
  pub holder : ℕ
  pub value : ℕ

-- a figure from a stage of a ward's count, in units, with its mark
pub record FigureEntry : Type 0 where
  pub ward : ℕ
  pub stage : ℕ
  pub candidate : ℕ
  pub units : ℕ
  pub mark : ℕ

-- all bundles and all figures
pub record TabulationEntries : Type 0 where
  pub bundles : List PlacedEntry
  pub figures : List FigureEntry

-- bundles are ordered by ward, then by list
abbrev pub placed_cmp : PlacedEntry → PlacedEntry → Ordering
placed_cmp = then_cmp (on (λ (b : PlacedEntry). b.ward) nat_cmp) (on (λ (b : PlacedEntry). b.list) (slice_cmp nat_cmp))

-- figures are ordered by ward, stage, and then candidate
abbrev pub figure_cmp : FigureEntry → FigureEntry → Ordering
figure_cmp = then_cmp (on (λ (f : FigureEntry). f.ward) nat_cmp) (then_cmp (on (λ (f : FigureEntry). f.stage) nat_cmp) (on (λ (f : FigureEntry). f.candidate) nat_cmp))

-- ---- the tabulation of a state

-- the count of the election has at least one stage
abbrev pub has_stages : ElectionEntry → Bool
has_stages e = has_count e && not (e.ward.done == 0)

-- a bundle of a ward, with its place
abbrev pub placed_at : ℕ → Bundle → Place → PlacedEntry
placed_at ward b at = record { ward = ward; list = b.0; papers = b.1; holder = at.holder; value = at.value }

-- a bundle of a ward, with its place after the given stages
abbrev pub placed_after : ElectionEntry → History → Bundle → PlacedEntry
placed_after e stages b = placed_at e.ward.number b (place (contest_of e) stages b.0)

-- all bundles of a ward, once its count has a stage
abbrev pub bundles_in : ElectionEntry → List PlacedEntry
bundles_in e = if has_stages e then map (placed_after e (stages_of e)) (bundled e.ballots.papers) else []

-- a figure from a stage of a ward's count
abbrev pub figure_at : ℕ → ℕ → Figure → FigureEntry
figure_at ward stage f = record { ward = ward; stage = stage; candidate = f.candidate; units = f.units; mark = f.mark }

-- the figures of all stages of a ward's count, starting with the first
abbrev pub figures_to : ℕ → List ℕ → History → List FigureEntry
figures_to ward candidates [] = []
figures_to ward candidates (s ∷ before) = figures_to ward candidates before ++ map (figure_at ward (length before + 1)) (figures_at candidates (s ∷ before))

-- all figures for the completed stages of a ward
abbrev pub figures_in : ElectionEntry → List FigureEntry
figures_in e = if has_stages e then figures_to e.ward.number (columns_of e.candidates) (stages_of e) else []

-- the tabulation of a state, ward by ward
unfoldable pub tabulation_of : OfficeState → TabulationEntries
tabulation_of s = record { bundles = flat_map (λ (w : WardEntry). bundles_in (election_of s w)) s.wards; figures = flat_map (λ (w : WardEntry). figures_in (election_of s w)) s.wards }

-- bundles and figures are in key order, without duplicates
pub record TabulationRises (t : TabulationEntries) : Type 0 where
  pub bundles : IsStrictlySortedBy placed_cmp t.bundles
  pub figures : IsStrictlySortedBy figure_cmp t.figures

-- the eighth condition: the entries are the tabulation of the state
abbrev pub IsTabulationOf : TabulationEntries → OfficeState → Type 0
IsTabulationOf t s = t ≡ tabulation_of s

-- ---- what a request adds to the tabulation

-- new bundles, bundles whose places have changed, and the figures of another stage
pub record AdditionEntries : Type 0 where
  pub placed : List PlacedEntry
  pub moved : List PlacedEntry
  pub figures : List FigureEntry

-- the empty addition
abbrev pub no_addition : AdditionEntries
no_addition = record { placed = []; moved = []; figures = [] }

-- the bundles, with the given one moved to its new place
abbrev pub moved_to : PlacedEntry → List PlacedEntry → List PlacedEntry
moved_to b bundles = map (λ x. if is_eq (placed_cmp b x) then b else x) bundles

-- a tabulation with an addition applied
abbrev pub with_addition : AdditionEntries → TabulationEntries → TabulationEntries
with_addition a t = record { bundles = a.placed ++ fold (λ bundles b. moved_to b bundles) t.bundles a.moved; figures = a.figures ++ t.figures }

-- two tabulations have the same entries, in any order
pub record SameTabulation (t u : TabulationEntries) : Type 0 where
  pub bundles : IsPermutation t.bundles u.bundles
  pub figures : IsPermutation t.figures u.figures

-- ---- the entries of the program's values

abbrev pub placed_entry : PlacedBundle → PlacedEntry
placed_entry b = record { ward = b.ward; list = b.list.items; papers = b.papers; holder = b.holder; value = b.value }

abbrev pub figure_entry : StageFigure → FigureEntry
figure_entry f = record { ward = f.ward; stage = f.stage; candidate = f.candidate; units = f.units; mark = f.mark }

abbrev pub tabulation_entries : Tabulation → TabulationEntries
tabulation_entries t = record { bundles = map placed_entry t.bundles.items; figures = map figure_entry t.figures.items }

abbrev pub addition_entries : Addition → AdditionEntries
addition_entries a = record { placed = map placed_entry a.placed.items; moved = map placed_entry a.moved.items; figures = map figure_entry a.figures.items }

-- the bundle and the place of a tabulated bundle, and a tabulated figure, each in the form used by the count
abbrev pub bundle_of : PlacedEntry → Bundle
bundle_of b = (b.list, b.papers)

abbrev pub placed_of : PlacedEntry → Placed
placed_of b = record { holder = b.holder; value = b.value }

abbrev pub shown_of : FigureEntry → Figure
shown_of f = record { candidate = f.candidate; units = f.units; mark = f.mark }

-- the old tabulation and the addition of a change together make up the new tabulation
abbrev pub IsTabulated : OfficeState → Change → Type 0
IsTabulated s change = SameTabulation (with_addition (addition_entries change.addition) (tabulation_of s)) (tabulation_of (with_change (change_entry change) s))

-- the old tabulation and the addition of an accepted request together make up the new tabulation
abbrev pub AddsWhatIsCounted : OfficeState → Decision → Type 0
AddsWhatIsCounted s (Accepted change reply) = IsTabulated s change
AddsWhatIsCounted s (Kept reply) = ⊤
AddsWhatIsCounted s (Refused why) = ⊤

-- ---- reading a count back

-- the given candidates, seats, bundles and figures are those of an election whose count has at least one stage
pub record AreOfCount (e : ElectionEntry) (candidates : List ℕ) (seats : ℕ) (bundles : List PlacedEntry) (figures : List FigureEntry) : Type 0 where
  pub begun : has_stages e ≡ true
  pub fair : IsContest (contest_of e)
  pub papers_are_bundled : AreBundles (bundled e.ballots.papers)
  pub candidates_are : candidates ≡ columns_of e.candidates
  pub seats_are : seats ≡ e.ward.seats
  pub bundles_are : bundles ≡ bundles_in e
  pub figures_are : figures ≡ figures_in e

-- ---- the count that is part of a view

-- a count is the stored count of an election, with its lots
pub record IsCountOf (e : ElectionEntry) (count : CountValue) : Type 0 where
  pub kept_is : IsStoredCountOf (contest_of e) (stages_of e) count.kept
  pub lots_are : count.lots.items ≡ e.lots

-- the count of the election was found
abbrev pub IsCount : ElectionEntry → Option CountValue → Type 0
IsCount e found = (count : CountValue) × (found ≡ Some count) × IsCountOf e count

-- a count is that of the election if the election is in count; otherwise there is none
abbrev pub IsCountIn : ElectionEntry → Option CountValue → Type 0
IsCountIn e None = is_in_count e ≡ false
IsCountIn e (Some count) = (is_in_count e ≡ true) × IsCountOf e count

-- the ward and the candidates of an election and, if it is in count, its count
pub record IsCountedWard (e : ElectionEntry) (found : CountedWard) : Type 0 where
  pub ward_is : ward_entry found.ward ≡ e.ward
  pub candidates_are : map candidate_entry found.candidates.items ≡ e.candidates
  pub count_is : IsCountIn e found.count

-- the contents of a stage sheet: the ward, the candidates and, if the election is in count, its count and the numbers of its rejected papers
pub record IsSheetOf (e : ElectionEntry) (sheet : WardSheet) : Type 0 where
  pub counted_is : IsCountedWard e sheet.counted
  pub rejected_are : is_in_count e ≡ true → sheet.rejected ≡ e.ballots.rejected

-- if the command counts a stage in a contested ward, the view includes the ward's count
abbrev pub IsCountFor : OfficeState → Command → Option CountValue → Type 0
IsCountFor s (Count (Advance ward)) shown = (w : WardEntry) → ward_at s ward ≡ Some w → has_count (election_of s w) ≡ true → IsCount (election_of s w) shown
IsCountFor s command shown = ⊤
