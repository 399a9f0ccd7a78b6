-- What the next stage of a ward's count adds to an office's tabulation.
use Rattle.std.specs.Prelude.{◌≡◌, ⊤, ℕ, ◌+◌, ◌==◌, Bool, not, ◌&&◌, List, [], ◌∷◌, map, length, Option, Some, None}
use Rattle.std.specs.List.{filter}
use Rattle.count.specs.Bundles.{Bundle, bundled}
use Rattle.count.specs.Marks.{figures_at}
use Rattle.count.specs.Law.Contest.{History}
use Rattle.count.specs.Law.Count.{stage_of}
use Rattle.count.specs.Law.Due.{next_action}
use Rattle.count.specs.Law.Places.{Place, place}
use Rattle.count.specs.declared.stages.Action.{Action}
use Rattle.count.specs.declared.stages.Stage.{Stage}
use Rattle.register.specs.declared.command.Command.{Command}
use Rattle.register.specs.declared.command.Command.TheVariants.{Count}
use Rattle.register.specs.declared.counts.CountCommand.{CountCommand}
use Rattle.register.specs.declared.counts.CountCommand.TheVariants.{Advance}
use Rattle.register.specs.declared.decision.Decision.{Decision}
use Rattle.register.specs.declared.decision.Decision.TheVariants.{Accepted, Kept, Refused}
use Rattle.register.specs.declared.elections.Count.{Count as CountValue}
use Rattle.register.specs.declared.tabulations.Addition.{Addition}
use Rattle.register.specs.Marks.{columns_of}
use Rattle.register.specs.Offices.{WardEntry, OfficeState, ward_at}
use Rattle.register.specs.Elections.{ElectionEntry, election_of, contest_of, stages_of}
use Rattle.register.specs.Tabulated.{FigureEntry, AdditionEntries, placed_after, figure_at, no_addition, addition_entries, IsCountOf}

-- two places are equal
abbrev pub is_same_place : Place → Place → Bool
is_same_place at other = (at.holder == other.holder) && (at.value == other.value)

-- the bundles whose papers are in a different place after one history than after the other
abbrev pub moved_between : ElectionEntry → History → History → List Bundle
moved_between e before after = filter (λ (b : Bundle). not (is_same_place (place (contest_of e) before b.0) (place (contest_of e) after b.0))) (bundled e.ballots.papers)

-- the figures of a stage appended to a history
abbrev pub figures_added : ElectionEntry → History → Stage → List FigureEntry
figures_added e before s = map (figure_at e.ward.number (length before + 1)) (figures_at (columns_of e.candidates) (s ∷ before))

-- what a stage appended to a history adds: its figures, and either all bundles if it is the first stage, or the bundles that it
-- moves
abbrev pub addition_by : ElectionEntry → History → Stage → AdditionEntries
addition_by e [] s = record { placed = map (placed_after e (s ∷ [])) (bundled e.ballots.papers); moved = []; figures = figures_added e [] s }
addition_by e (r ∷ before) s =
    record { placed = []; moved = map (placed_after e (s ∷ r ∷ before)) (moved_between e (r ∷ before) (s ∷ r ∷ before)); figures = figures_added e (r ∷ before) s }

-- what the stage of an action adds to the completed stages
abbrev pub addition_at : ElectionEntry → Action → AdditionEntries
addition_at e action = addition_by e (stages_of e) (stage_of (contest_of e) (stages_of e) action)

-- what the next stage adds; nothing if no action is due
abbrev pub addition_due : ElectionEntry → Option Action → AdditionEntries
addition_due e None = no_addition
addition_due e (Some action) = addition_at e action

-- this is what the next stage of a ward's count adds, given the count
abbrev pub IsAddedTo : ℕ → CountValue → Addition → Type 0
IsAddedTo ward count addition =
    (e : ElectionEntry) → IsCountOf e count → ward ≡ e.ward.number → addition_entries addition ≡ addition_due e (next_action (contest_of e) e.lots (stages_of e))

-- this is what an accepted count command adds: for an Advance, the next stage of the given count; for any other command,
-- nothing
abbrev pub IsAddedBy : CountCommand → Option CountValue → Addition → Type 0
IsAddedBy (Advance ward) (Some count) addition = IsAddedTo ward count addition
IsAddedBy command shown addition = addition_entries addition ≡ no_addition

-- this is what any accepted command adds; a command that isn't a count command adds nothing
abbrev pub IsAddedFor : Command → Option CountValue → Addition → Type 0
IsAddedFor (Count command) shown addition = IsAddedBy command shown addition
IsAddedFor command shown addition = addition_entries addition ≡ no_addition

-- if a decision accepts the command, this is what the decision adds
abbrev pub DecidesAddition : Command → Option CountValue → Decision → Type 0
DecidesAddition command shown (Accepted change reply) = IsAddedFor command shown change.addition
DecidesAddition command shown (Kept reply) = ⊤
DecidesAddition command shown (Refused why) = ⊤

-- An accepted Advance adds the stage of the action that is due in its ward's count.
pub record AddsStageDue (s : OfficeState) (ward : ℕ) (addition : Addition) : Type 0 where
  pub own : WardEntry
  pub found : ward_at s ward ≡ Some own
  pub action : Action
  pub due : next_action (contest_of (election_of s own)) (election_of s own).lots (stages_of (election_of s own)) ≡ Some action
  pub adds : addition_entries addition ≡ addition_at (election_of s own) action

-- this is exactly what an accepted command adds to the tabulation of a state: for an Advance, its stage; for any other command,
-- nothing
abbrev pub IsAddedAt : OfficeState → Command → Addition → Type 0
IsAddedAt s (Count (Advance ward)) addition = AddsStageDue s ward addition
IsAddedAt s command addition = addition_entries addition ≡ no_addition

-- if a decision accepts the command, it adds nothing beyond that
abbrev pub AddsNoMore : OfficeState → Command → Decision → Type 0
AddsNoMore s command (Accepted change reply) = IsAddedAt s command change.addition
AddsNoMore s command (Kept reply) = ⊤
AddsNoMore s command (Refused why) = ⊤
