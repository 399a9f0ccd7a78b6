-- The stages of a count, computed from its papers and the recorded lots.
use Rattle.std.specs.Prelude.{ℕ, zero, suc, not, List, [], ◌∷◌, map, Option, Some, None}
use Rattle.std.specs.List.{filter}
use Rattle.count.specs.Law.Contest.{Contest, History, numbers}
use Rattle.count.specs.Law.Elected.{elected_after, is_elected}
use Rattle.count.specs.Law.Figures.{votes_after, non_transferable_after, lost_after}
use Rattle.count.specs.Law.Due.{due_after, next_action}
use Rattle.count.specs.declared.stages.Stage.{Stage}
use Rattle.count.specs.declared.stages.Action.{Action}
use Rattle.count.specs.declared.stages.Due.{Due}
use Rattle.count.specs.declared.stages.Due.TheVariants.{Act}

-- the stage of the given action, with only the given votes recorded so far
abbrev pub begun : Action → List ℕ → Stage
begun action votes = record { action = action; votes = votes; elected = []; non_transferable = 0; lost = 0 }

-- the votes of each candidate after the given action, which follows the given stages
abbrev pub votes_by : Contest → History → Action → List ℕ
votes_by contest before action = map (votes_after contest (begun action [] ∷ before)) numbers

-- The stage of the given action, which follows the given stages, with everything it records; the action and those stages determine it. Its own
-- votes may be empty when other figures are computed, since `place` reads only the action and the votes of the earlier stages.
abbrev pub stage_of : Contest → History → Action → Stage
stage_of contest before action =
    record {
      action = action;
      votes = votes_by contest before action;
      elected = filter (λ c. not (is_elected contest before c)) (elected_after contest (begun action (votes_by contest before action) ∷ before));
      non_transferable = non_transferable_after contest (begun action [] ∷ before);
      lost = lost_after contest (begun action [] ∷ before);
    }

-- the given stages, followed by the stage of the action if there is one
abbrev pub with_stage : Contest → History → Option Action → History
with_stage contest before None = before
with_stage contest before (Some action) = stage_of contest before action ∷ before

-- the given stages, followed by the next one with the recorded lots, if there is one
abbrev pub with_next : Contest → List (ℕ × ℕ) → History → History
with_next contest lots before = with_stage contest before (next_action contest lots before)

-- the first stages of the count, at most a given number of them, newest first
unfoldable pub stages_to : Contest → List (ℕ × ℕ) → ℕ → History
stages_to contest lots zero = []
stages_to contest lots (suc k) = with_next contest lots (stages_to contest lots k)

-- the action if there is one, or else whatever is due
abbrev pub due_or : Due → Option Action → Due
due_or due (Some action) = Act action
due_or due None = due

-- what is due, given the recorded lots: the next action, or the lot that the count is waiting for, or nothing
abbrev pub due_by : Contest → List (ℕ × ℕ) → History → Due
due_by contest lots stages = due_or (due_after contest stages) (next_action contest lots stages)
