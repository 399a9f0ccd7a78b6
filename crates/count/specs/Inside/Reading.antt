-- The meaning of figures, candidate by candidate, given a function from candidates to figures.
use Rattle.std.specs.Prelude.{ℕ, ◌==◌, ◌||◌, Bool, nat_eq, if◌then◌else◌, List, [], ◌∷◌, map, Option, Some, None}
use Rattle.std.specs.List.{filter, list_any}
use Rattle.count.specs.Law.Contest.{numbers}
use Rattle.count.specs.Marks.{elected, surplus_now, excluded_now, excluded_last}
use Rattle.count.specs.declared.figures.Figure.{Figure}
use Rattle.count.specs.declared.stages.Action.{Action}
use Rattle.count.specs.declared.stages.Action.TheVariants.{First, Surplus, Exclude, ExcludeLast}

-- whether a mark is that of an elected candidate
abbrev pub is_elected_mark : ℕ → Bool
is_elected_mark mark = mark == elected || mark == surplus_now

-- the candidates who are marked as elected
abbrev pub elected_shown : (ℕ → Figure) → List ℕ → List ℕ
elected_shown f candidates = filter (λ c. is_elected_mark (f c).mark) candidates

-- the votes for a number: those in the candidate's figure, or 0 if no candidate has the number
abbrev pub units_shown : (ℕ → Figure) → List ℕ → ℕ → ℕ
units_shown f candidates n = if list_any (nat_eq n) candidates then (f n).units else 0

-- the votes for all candidate numbers
abbrev pub votes_shown : (ℕ → Figure) → List ℕ → List ℕ
votes_shown f candidates = map (units_shown f candidates) numbers

-- the action that a candidate's mark shows, if any
abbrev pub action_by : ℕ → ℕ → Option Action
action_by mark c =
    if mark == surplus_now then Some (Surplus c) else if mark == excluded_now then Some (Exclude c) else if mark == excluded_last then Some (ExcludeLast c) else None

-- the action if there is one, or else another action
abbrev pub action_or : Action → Option Action → Action
action_or other None = other
action_or other (Some action) = action

-- the action of the first mark that shows one, or the action of the first stage if none does
abbrev pub action_shown : (ℕ → Figure) → List ℕ → Action
action_shown f [] = First
action_shown f (c ∷ candidates) = action_or (action_shown f candidates) (action_by (f c).mark c)
